use Rattle.std.proofs.Common.{◌≡◌}
use Rattle.collector_steps.proofs.Words.{all_shaded, blocks_marked, colours_of, ids_from}
use Rattle.collector_steps.proofs.leaf.shade_leaf.Given as goal

abbrev pub invariant-loop-slot : goal.invariant-loop-slot
invariant-loop-slot l = record {
  left : all_shaded l.directory.named (ids_from l.content l.slot) (colours_of l.marks) ≡ all_shaded l.directory.named (ids_from l.content 0) (colours_of l.initial.marks);
  blocks : blocks_marked l.marks ≡ blocks_marked l.initial.marks;
}
