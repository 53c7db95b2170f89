use Rattle.std.proofs.Common.{◌<◌, ◌≤◌, ℕ, get_or, IsTrue, IsFalse}
use Rattle.block_tree.proofs.reads.leads_past.Given as goal

abbrev pub invariant-loop-leaf : goal.invariant-loop-leaf
invariant-loop-leaf l = (IsTrue l.past → (k : ℕ) × (l.blocks ≤ get_or l.node.leaves k 0))
    × (IsFalse l.past → (k : ℕ) → k < l.leaf-index → get_or l.node.leaves k 0 < l.blocks)
