use Rattle.cfs_check.proofs.Again.{as_shown}
use Rattle.cfs_check.proofs.laws.mended_as_shown.Goals as goal

pub returns : goal.returns
returns c a b g mends = as_shown a b g mends
