use Rattle.std.proofs.Common.{◌≡◌, ◌-◌, ◌%◌, replicate, arith}
use Rattle.leaf_changes.proofs.Words.{cut, places, same_lists}
use Rattle.leaf_changes.proofs.parts.cut_leaf.Goals as goal

pub returns-clause-cut : goal.returns-clause-cut
unfolding cut
returns-clause-cut c =
    let filled : c.fill.new.self ≡ replicate (512 - c.args.size % 512) c.args.fill = grind (arith, places, c.fill.ensures.after (λ y e. cc)) in
    same_lists _ _ (grind (arith, places)) (λ k d h. grind (arith, places))
