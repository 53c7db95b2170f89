use Rattle.ufs_model.proofs.Came.{came}
use Rattle.ufs_model.proofs.laws.answers_are.Goals as goal

pub returns : goal.returns
returns c = came
