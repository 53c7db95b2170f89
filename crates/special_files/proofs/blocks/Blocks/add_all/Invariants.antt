use Rattle.std.proofs.Common.{◌≡◌, ◌++◌, take}
use Rattle.special_files.proofs.blocks.Blocks.add_all.Given as goal

abbrev pub invariant-loop-block : goal.invariant-loop-block
invariant-loop-block l = l.self ≡ l.fn.self ++ take l.block-index l.blocks
