use Rattle.ufs_model.proofs.Legal.{outcome_legal}
use Rattle.ufs_model.proofs.laws.outcomes_are_legal.Goals as goal

pub returns : goal.returns
returns c = outcome_legal
