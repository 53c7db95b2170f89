use Rattle.std.proofs.Common.{◌+◌, ◌*◌, sym, subst, arith}
use Rattle.cfs_base.proofs.Calls.{makes_then, reads_make}
use Rattle.cfs_recover.specs.Reads.{reads_of_volume}
use Rattle.cfs_recover.proofs.Words.{IsRecovered, IsSoundAs, Kept, Label, Listing}
use Rattle.cfs_recover.proofs.Opening.{leads_reads, settled_reads, stores_content}
use Rattle.cfs_recover.proofs.Writing.{writes_after}
use Rattle.cfs_recover.proofs.recovery.open_settled.Goals as goal

pub returns-in_err-tidy_volume-clause-unsound : goal.returns-in_err-tidy_volume-clause-unsound
returns-in_err-tidy_volume-clause-unsound g c tells none =
    let d = c.args.disk.now in
    let survey = c.in_ok-survey.ensures.told (g.D.Disk.content d) (stores_content g.D.Disk d tells (g.met.D.Disk.sized d tells.honest) (g.met.D.Disk.of_blocks d tells.honest)) in
    absurd (none (survey.whole.graph, survey.whole.sound))

pub returns-clause-unsound : goal.returns-clause-unsound
returns-clause-unsound g c tells none =
    let d = c.args.disk.now in
    let survey = c.in_ok-survey.ensures.told (g.D.Disk.content d) (stores_content g.D.Disk d tells (g.met.D.Disk.sized d tells.honest) (g.met.D.Disk.of_blocks d tells.honest)) in
    absurd (none (survey.whole.graph, survey.whole.sound))

pub returns-in_err-tidy_volume-clause-leads : goal.returns-in_err-tidy_volume-clause-leads
returns-in_err-tidy_volume-clause-leads g c read settled sound =
    let d = c.args.disk.now in
    let reads = c.in_ok-survey.ensures.reads in
    let survey = c.in_ok-survey.ensures.told (g.D.Disk.content d) (stores_content g.D.Disk d settled.tells (g.met.D.Disk.sized d settled.tells.honest) (g.met.D.Disk.of_blocks d settled.tells.honest)) in
    leads_reads g.D.Disk d c.survey_volume.new.disk _ reads (λ i. IsSoundAs i read) c.tidy_volume.new.disk
    (c.in_err-tidy_volume.ensures.leads (g.D.Disk.content d) read (settled_reads g.D.Disk d c.survey_volume.new.disk _ reads settled) reads.content survey sound)

pub returns-clause-leads : goal.returns-clause-leads
returns-clause-leads g c read settled sound =
    let d = c.args.disk.now in
    let reads = c.in_ok-survey.ensures.reads in
    let survey = c.in_ok-survey.ensures.told (g.D.Disk.content d) (stores_content g.D.Disk d settled.tells (g.met.D.Disk.sized d settled.tells.honest) (g.met.D.Disk.of_blocks d settled.tells.honest)) in
    leads_reads g.D.Disk d c.survey_volume.new.disk _ reads (λ i. IsSoundAs i read) c.tidy_volume.new.disk
    (c.in_ok-tidy_volume.ensures.leads (g.D.Disk.content d) read (settled_reads g.D.Disk d c.survey_volume.new.disk _ reads settled) reads.content survey sound)

pub returns-clause-opened : goal.returns-clause-opened
returns-clause-opened g c settled =
    let d = c.args.disk.now in
    let new = c.tidy_volume.new.disk in
    let reads = c.in_ok-survey.ensures.reads in
    let a = g.D.Disk.content d in
    let survey = c.in_ok-survey.ensures.told a (stores_content g.D.Disk d settled.tells (g.met.D.Disk.sized d settled.tells.honest) (g.met.D.Disk.of_blocks d settled.tells.honest)) in
    let done = c.in_ok-tidy_volume.ensures.recovered a (settled_reads g.D.Disk d c.survey_volume.new.disk _ reads settled) reads.content survey in
    let is = c.hand_over.ensures in (
      subst (λ (label : Label). IsRecovered g.D.Disk a new label c.hand_over.result.directory c.hand_over.result.space) (sym is.label)
          (subst (λ (directory : Listing). IsRecovered g.D.Disk a new c.in_ok-survey.survey.grounds.label directory c.hand_over.result.space) (sym is.directory)
          (subst (λ (space : Kept). IsRecovered g.D.Disk a new c.in_ok-survey.survey.grounds.label c.in_ok-survey.survey.walked.walk.directory space) (sym is.space) done.0)),
      writes_after g.D.Disk d c.survey_volume.new.disk new 2 2 reads.content (omega (arith, reads.tries)) done.1,
    )

pub returns-clause-by_object : goal.returns-clause-by_object
returns-clause-by_object g c graph settled sound =
    let d = c.args.disk.now in
    let stored = stores_content g.D.Disk d settled.tells (g.met.D.Disk.sized d settled.tells.honest) (g.met.D.Disk.of_blocks d settled.tells.honest) in
    let blocks = g.D.Disk.blocks d in
    let most = reads_of_volume blocks graph in
    let reads = c.in_ok-survey.ensures.by_object (g.D.Disk.content d) graph stored sound in
    let size = reads.same.size in
    makes_then g.D.Disk d c.survey_volume.new.disk c.tidy_volume.new.disk most (2 * g.D.Disk.blocks c.survey_volume.new.disk + 2) (most + 2 * blocks + 2) 0 (2 * g.D.Disk.blocks c.survey_volume.new.disk + 2) (2 * blocks + 2)
    (reads_make g.D.Disk d c.survey_volume.new.disk most reads) c.in_ok-tidy_volume.ensures.calls (omega (arith, size)) (omega (arith, size))
