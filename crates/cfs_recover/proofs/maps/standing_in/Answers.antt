use Rattle.std.proofs.Common.{◌<◌, length, ◌∙◌, arith}
use Rattle.cfs_recover.proofs.InMemory.{entry_is}
use Rattle.cfs_recover.proofs.maps.standing_in.Goals as goal

pub loop-block-preserved : goal.loop-block-preserved
loop-block-preserved c = record {
  size = c.note_standing.ensures.size ∙ c.loop-block.invariant.size;
  told = λ image are.
      let inside : c.loop-block.block < length image = omega (arith, are.size, c.loop-block-test.true) in
      c.note_standing.ensures.told image (c.loop-block.invariant.told image are) (entry_is image c.args.maps.now are c.loop-block.block inside ∙ c.entry_at.ensures);
}
