use Rattle.std.proofs.Common.{arith}
use Rattle.cfs_recover.proofs.Grounded.{grounds_are}
use Rattle.cfs_recover.proofs.Refused.{labelled, open_fault, opens_err, stored_on}
use Rattle.cfs_recover.proofs.survey.read_grounds.Goals as goal

pub returns-in_err-maps-clause-told : goal.returns-in_err-maps-clause-told
returns-in_err-maps-clause-told g c image stored =
    let then = stored_on g.D.Disk c.args.disk.now c.read_label.new.disk 1 image c.in_ok-label.ensures.reads stored in
    let label = labelled image c.in_ok-label.label (c.in_ok-label.ensures.told image stored) (omega (arith, c.in_ok-label.ensures.size, stored.size)) in
    opens_err _ image _ _ c.from_residual-in_err-maps.ensures.1 (open_fault image _ label (c.in_err-maps.ensures.told image then))

pub returns-clause-told : goal.returns-clause-told
returns-clause-told g c image stored =
    let then = stored_on g.D.Disk c.args.disk.now c.read_label.new.disk 1 image c.in_ok-label.ensures.reads stored in
    let maps = c.in_ok-maps.ensures.told image then in
    (grounds_are image c.in_ok-maps.maps.items maps.0 maps.1 c.in_ok-label.label (c.in_ok-label.ensures.told image stored) (omega (arith, c.in_ok-label.ensures.size, stored.size)), maps.0)
