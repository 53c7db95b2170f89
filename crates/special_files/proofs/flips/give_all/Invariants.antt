use Rattle.std.proofs.Common.{◌≡◌, length, drop}
use Rattle.special_files.proofs.Words.{given_all}
use Rattle.special_files.proofs.flips.give_all.Given as goal

abbrev pub invariant-loop-block : goal.invariant-loop-block
invariant-loop-block l = record {
  left : given_all l.space (drop l.block-index l.blocks) ≡ given_all l.initial.space l.blocks;
  cylinders : length l.space.free ≡ length l.initial.space.free;
  commit : l.space.left ≡ l.initial.space.left;
}
