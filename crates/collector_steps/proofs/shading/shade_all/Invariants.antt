use Rattle.std.proofs.Common.{◌≡◌, drop}
use Rattle.collector_steps.proofs.Words.{all_shaded, blocks_marked, colours_of}
use Rattle.collector_steps.proofs.shading.shade_all.Given as goal

abbrev pub invariant-loop-id : goal.invariant-loop-id
invariant-loop-id l = record {
  left : all_shaded l.directory.named (drop l.id-index l.ids) (colours_of l.marks) ≡ all_shaded l.directory.named l.ids (colours_of l.initial.marks);
  blocks : blocks_marked l.marks ≡ blocks_marked l.initial.marks;
}
