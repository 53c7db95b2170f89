use Rattle.ufs_model.proofs.Vanishing.{pairs_reach, kept_is}
use Rattle.ufs_model.proofs.laws.reached_sets.Goals as goal

pub returns-clause-pairs : goal.returns-clause-pairs
returns-clause-pairs c = pairs_reach

pub returns-clause-kept : goal.returns-clause-kept
returns-clause-kept c = λ s x h. kept_is s h x
