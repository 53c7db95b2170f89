-- How many objects are marked.
use Rattle.std.proofs.Common.{◌≡◌, ℕ, ◌+◌, ◌<◌, ◌≤◌, Bool, true, false, List, [], ◌∷◌, get_or, length, set, ap, arith}
use Rattle.std.proofs.lemmas.List.Sums.{sum_by-set}
use Rattle.std.proofs.lemmas.List.{length-set}
use Rattle.std.proofs.lemmas.List.Sums.{sum_by-cons}
use Rattle.ufs_model.specs.Need.{one_if}
use Rattle.collector_marks.specs.Kept.{count_marked}

-- one that wasn't marked is one more
pub one_more : (marks : List Bool) (at : ℕ) → at < length marks → get_or marks at false ≡ false → count_marked (set marks at true) ≡ count_marked marks + 1
one_more marks at below is = omega (arith, sum_by-set one_if marks at true false below, ap one_if is)

-- there are no more than blocks
pub at_most : (marks : List Bool) → count_marked marks ≤ length marks
at_most [] = omega arith
at_most (true ∷ marks) = omega (arith, sum_by-cons one_if true marks, at_most marks)
at_most (false ∷ marks) = omega (arith, sum_by-cons one_if false marks, at_most marks)

-- so where one isn't marked there are fewer
pub fewer : (marks : List Bool) (at : ℕ) → at < length marks → get_or marks at false ≡ false → count_marked marks < length marks
fewer marks at below is = omega (arith, one_more marks at below is, at_most (set marks at true), length-set marks at true)
