use Rattle.std.proofs.Common.{◌≡◌, ◌+◌, ◌++◌}
use Rattle.special_files.proofs.Words.{all_unlike, pointer_table}
use Rattle.special_files.proofs.changed.add_node.Given as goal

abbrev pub invariant-loop-leaf : goal.invariant-loop-leaf
invariant-loop-leaf l = l.list ≡ l.fn.list ++ all_unlike (pointer_table l.block l.node.leaves) (pointer_table l.other l.other_node.leaves) (l.leaf + 1)
