use Rattle.cfs_serve.proofs.Fitting.{fits}
use Rattle.cfs.proofs.opening.open.Goals as goal

pub returns-clause-disk : goal.returns-clause-disk
returns-clause-disk c = rw c.in-Some.is (fits _ _ _ c.in-Ok.ensures.volume c.in_ok-opened.ensures.disk)
