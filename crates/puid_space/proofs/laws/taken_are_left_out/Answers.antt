use Rattle.puid_space.proofs.Graphs.{left_by_taken}
use Rattle.puid_space.proofs.laws.taken_are_left_out.Goals as goal

pub returns : goal.returns
returns c = λ test named. left_by_taken test named
