use Rattle.std.proofs.Common.{◌≡◌, ℕ, ◌<◌, ◌+◌, ◌*◌, length, get_or, drop, sym, ◌∙◌, ap, subst, arith}
use Rattle.special_files.proofs.Words.{All-get_or, Kept, at_drop_more, drop-length, given_all}
use Rattle.std.proofs.Math.ListN.{length-set}
use Rattle.special_files.proofs.flips.give_all.Goals as goal

pub gave-requires : goal.gave-requires
gave-requires c = record {
  on_disk = subst (λ (n : ℕ). get_or c.args.blocks.now c.loop-block.block-index 0 < 64 * n) (sym c.loop-block.invariant.cylinders) (All-get_or (λ n. n < 64 * length c.args.space.now.free) c.args.blocks.now c.loop-block.block-index 0 c.loop-block-test.true c.requires.on_disk);
}

pub loop-block-preserved : goal.loop-block-preserved
loop-block-preserved c = record {
  left = ap (λ (k : Kept). given_all k (drop (c.loop-block.block-index + 1) c.args.blocks.now)) c.gave.ensures.given
      ∙ sym (at_drop_more (given_all c.loop-block.space) c.args.blocks.now c.loop-block.block-index 0 c.loop-block-test.true) ∙ c.loop-block.invariant.left;
  cylinders = ap (λ (k : Kept). length k.free) c.gave.ensures.given ∙ length-set _ _ _ ∙ c.loop-block.invariant.cylinders;
  commit = ap (λ (k : Kept). k.left) c.gave.ensures.given ∙ c.loop-block.invariant.commit;
}

pub returns : goal.returns
returns c =
    let end : length c.args.blocks.now ≡ c.loop-block.block-index = omega arith in
    record {
      given = ap (given_all c.loop-block.space) (sym (drop-length c.args.blocks.now) ∙ ap (λ (i : ℕ). drop i c.args.blocks.now) end) ∙ c.loop-block.invariant.left;
      cylinders = c.loop-block.invariant.cylinders;
      left = c.loop-block.invariant.commit;
    }
