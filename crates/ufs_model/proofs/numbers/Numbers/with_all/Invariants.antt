use Rattle.std.proofs.Common.{◌≡◌, ◌≤◌, drop, length}
use Rattle.ufs_model.proofs.Words.{with_numbers}
use Rattle.ufs_model.proofs.numbers.Numbers.with_all.Given as goal

abbrev pub invariant-loop-left : goal.invariant-loop-left
invariant-loop-left l = (l.left ≤ length l.new) × (l.all ≡ with_numbers (drop l.left l.new) l.self)

abbrev pub decreases-loop-left : goal.decreases-loop-left
decreases-loop-left l = l.left
