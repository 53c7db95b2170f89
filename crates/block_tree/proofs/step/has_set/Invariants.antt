use Rattle.std.proofs.Common.{◌≡◌, ◌<◌, ◌≤◌, ℕ, get_or, IsTrue, IsFalse}
use Rattle.block_tree.proofs.Words.{SomeSet}
use Rattle.block_tree.proofs.step.has_set.Given as goal

abbrev pub invariant-loop-place : goal.invariant-loop-place
invariant-loop-place l = (IsTrue l.any → SomeSet l.pointers l.from)
    × (IsFalse l.any → (i : ℕ) → l.from ≤ i → i < l.place → get_or l.pointers i 0 ≡ 0)
