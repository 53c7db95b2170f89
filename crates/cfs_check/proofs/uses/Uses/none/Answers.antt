use Rattle.std.proofs.Common.{◌<◌, ◌∷◌, [], ◌++◌, List, length, sym, ◌∙◌, ap, arith}
use Rattle.std.proofs.lemmas.List.FromFn.{length-map-range_with_len, map-range_with_len_more}
use Rattle.cfs_check.specs.Uses.{Use, first_use, first_uses}
use Rattle.cfs_check.proofs.uses.Uses.none.Goals as goal

pub loop-block-preserved : goal.loop-block-preserved
loop-block-preserved c =
    let n = c.loop-block.block in
    c.in_ok-push.ensures.items ∙ (λ i. c.loop-block.invariant i ++ c.first_use.ensures i ∷ []) ∙ sym (map-range_with_len_more first_use 0 n n (omega arith))

pub invariant_of-result : goal.invariant_of-result
invariant_of-result c = omega (arith, ap length c.loop-block.invariant, length-map-range_with_len first_use 0 c.loop-block.block)
