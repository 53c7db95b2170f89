use Rattle.std.proofs.Common.{◌≡◌, ◌+◌, ◌/◌, length, ap, arith}
use Rattle.cfs_recover.proofs.Words.{Graph, reading_is_one, reads_then}
use Rattle.cfs_recover.specs.Reads.{reads_of_all, reads_of_volume}
use Rattle.cfs_recover.proofs.Summing.{no_more_than_graph}
use Rattle.cfs_recover.proofs.Refused.{labelled, open_fault, opens_err, stored_on}
use Rattle.cfs_recover.proofs.survey.survey_volume.Goals as goal

pub returns-in_err-walked-clause-told : goal.returns-in_err-walked-clause-told
returns-in_err-walked-clause-told g c image stored =
    let grounds = c.in_ok-grounds.ensures.told image stored in
    opens_err _ image _ _ c.from_residual-in_err-walked.ensures.1 (open_fault image _ (labelled image _ grounds.0.has grounds.0.size)
    (c.in_err-walked.ensures.told image (stored_on g.D.Disk c.args.disk.now c.read_grounds.new.disk _ image c.in_ok-grounds.ensures.reads stored) grounds.0 grounds.1))

pub returns-in_err-check_walked-clause-told : goal.returns-in_err-check_walked-clause-told
returns-in_err-check_walked-clause-told g c image stored =
    let grounds = c.in_ok-grounds.ensures.told image stored in
    let walked = c.in_ok-walked.ensures.told image (stored_on g.D.Disk c.args.disk.now c.read_grounds.new.disk _ image c.in_ok-grounds.ensures.reads stored) grounds.0 grounds.1 in
    opens_err _ image _ _ c.from_residual-in_err-check_walked.ensures.1 (labelled image _ grounds.0.has grounds.0.size, c.in_err-check_walked.ensures image grounds.0 walked.walk walked.noted)

pub returns-clause-told : goal.returns-clause-told
returns-clause-told g c image stored =
    let grounds = c.in_ok-grounds.ensures.told image stored in
    let walked = c.in_ok-walked.ensures.told image (stored_on g.D.Disk c.args.disk.now c.read_grounds.new.disk _ image c.in_ok-grounds.ensures.reads stored) grounds.0 grounds.1 in
    record { grounds = grounds.0; maps = grounds.1; walked = walked; whole = c.in_ok-check_walked.ensures image grounds.0 walked.walk walked.noted }

pub returns-clause-by_object : goal.returns-clause-by_object
returns-clause-by_object g c image graph stored sound =
    let grounds = c.in_ok-grounds.ensures.told image stored in
    let then = stored_on g.D.Disk c.args.disk.now c.read_grounds.new.disk _ image c.in_ok-grounds.ensures.reads stored in
    let walked = c.in_ok-walked.ensures.told image then grounds.0 grounds.1 in
    let whole = c.in_ok-check_walked.ensures image grounds.0 walked.walk walked.noted in
    let read = c.in_ok-walked.ensures.by_object image then grounds.0 grounds.1 in
    let w = c.in_ok-walked.walked.walk in
    let most = no_more_than_graph image w (length w.found.items) walked.walk whole.graph whole.sound.holds whole.directory read.0 read.1 in
    let same : reads_of_all whole.graph.objects ≡ reads_of_all graph.objects = ap (λ (h : Graph). reads_of_all h.objects) (reading_is_one image whole.graph graph whole.sound sound) in
    reads_then g.D.Disk c.args.disk.now c.read_grounds.new.disk c.walk_volume.new.disk (1 + g.D.Disk.blocks c.args.disk.now / 64) (reads_of_all read.0) (reads_of_volume (g.D.Disk.blocks c.args.disk.now) graph)
    c.in_ok-grounds.ensures.by_map read.2 (omega (arith, most, same))
