use Rattle.std.proofs.Common.{◌∙◌, ◌+◌, ap, sym, drop}
use Rattle.collector_steps.proofs.Words.{all_shaded, at_drop_more, colours_of}
use Rattle.collector_steps.proofs.shading.shade_all.Goals as goal

pub loop-id-preserved : goal.loop-id-preserved
loop-id-preserved c =
    let before = c.loop-id.invariant in
    record {
      left = ap (all_shaded c.args.directory.now.named (drop (c.loop-id.id-index + 1) c.args.ids.now)) c.shade_one.ensures.shaded
          ∙ sym (at_drop_more (λ ids. all_shaded c.args.directory.now.named ids (colours_of c.loop-id.marks)) c.args.ids.now c.loop-id.id-index _ c.loop-id-test.true)
          ∙ before.left;
      blocks = c.shade_one.ensures.blocks ∙ before.blocks;
    }
