use Rattle.intentions.proofs.Settling.{may_claim, may_release, may_take_back}
use Rattle.intentions.proofs.laws.intentions_keep_the_frame.Goals as goal

pub returns : goal.returns
returns c = record {
  release = may_release;
  claim = λ a graph n e place owner loose before valid own after. may_claim a graph n e loose before place owner valid own after;
  undo = λ a graph n e loose before valid no_root. may_take_back a graph n e loose before valid no_root;
}
