use Rattle.cfs_recover.proofs.Finished.{clash_fault}
use Rattle.cfs_recover.proofs.survey.check_clash.Goals as goal

pub returns-in-Some : goal.returns-in-Some
returns-in-Some c image walk = clash_fault image c.args.walk.now walk c.in-Some.by c.in-Some.is
