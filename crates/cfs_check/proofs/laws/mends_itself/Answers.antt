use Rattle.cfs_check.proofs.Mending.{mends_itself}
use Rattle.cfs_check.proofs.laws.mends_itself.Goals as goal

pub returns : goal.returns
returns c = mends_itself
