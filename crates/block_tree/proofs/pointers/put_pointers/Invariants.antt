use Rattle.std.proofs.Common.{◌≡◌, ◌+◌, ◌*◌, ◌++◌, take, drop}
use Rattle.block_tree.proofs.Words.{numbers_spelling}
use Rattle.block_tree.proofs.pointers.put_pointers.Given as goal

abbrev pub invariant-loop-i : goal.invariant-loop-i
invariant-loop-i l = l.block ≡ take (4 * l.from) l.initial.block ++ numbers_spelling (take l.i l.pointers) ++ drop (4 * (l.from + l.i)) l.initial.block
