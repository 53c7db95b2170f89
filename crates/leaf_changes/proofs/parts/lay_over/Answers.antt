use Rattle.std.proofs.Common.{arith}
use Rattle.leaf_changes.proofs.Words.{overlaid, places, same_lists}
use Rattle.leaf_changes.proofs.parts.lay_over.Goals as goal

pub returns-then-count-gt0 : goal.returns-then-count-gt0
unfolding overlaid
returns-then-count-gt0 c = same_lists _ _ (grind (arith, places)) (λ k d h. grind (arith, places))

pub returns-else-count-gt0 : goal.returns-else-count-gt0
unfolding overlaid
returns-else-count-gt0 c = same_lists _ _ (grind (arith, places)) (λ k d h. grind (arith, places))
