use Rattle.std.proofs.Common.{◌∙◌}
use Rattle.block_tree.proofs.Numbers.{put_more}
use Rattle.block_tree.proofs.pointers.put_pointers.Goals as goal

pub loop-i-preserved : goal.loop-i-preserved
loop-i-preserved c = c.put_u32.ensures.put ∙ put_more c.args.block.now c.loop-i.block c.args.from c.loop-i.i c.args.pointers.now c.requires.long c.loop-i-test.true c.requires.room c.loop-i.invariant
