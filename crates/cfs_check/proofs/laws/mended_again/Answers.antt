use Rattle.cfs_check.proofs.Again.{mended_same, not_refused}
use Rattle.cfs_check.proofs.laws.mended_again.Goals as goal

pub returns-clause-same : goal.returns-clause-same
returns-clause-same c = mended_same

pub returns-clause-not_refused : goal.returns-clause-not_refused
returns-clause-not_refused c a b g d mends = not_refused a b g mends d
