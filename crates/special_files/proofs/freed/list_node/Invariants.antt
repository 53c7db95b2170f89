use Rattle.std.proofs.Common.{◌≡◌, ◌-◌, ◌++◌}
use Rattle.special_files.proofs.Words.{fresh_in, list_if, ◌==◌}
use Rattle.special_files.proofs.freed.list_node.Given as goal

abbrev pub invariant-loop-place : goal.invariant-loop-place
invariant-loop-place l = l.list ≡ l.fn.list ++ (list_if (l.from == 0) l.block ++ fresh_in l.leaves l.node.leaves l.number l.from (l.place - l.from))
