use Rattle.std.proofs.Common.{ℕ, ◌+◌, ◌-◌, Option, Some, None}
use Rattle.block_tree.proofs.Words.{leaf_limit, root_spelling}
use Rattle.block_tree.proofs.Walks.{IsWalked}
use Rattle.block_tree.proofs.walk.walk_held.Given as goal

abbrev pub invariant-loop-next : goal.invariant-loop-next
invariant-loop-next g l = IsWalked g.D.Disk (root_spelling l.root) l.from l.initial.disk l.disk l.next

-- the leaves that are left, and one
abbrev pub left : Option ℕ → ℕ
left None = 0
left (Some n) = 1 + (leaf_limit - n)

abbrev pub decreases-loop-next : goal.decreases-loop-next
decreases-loop-next g l = left l.next
