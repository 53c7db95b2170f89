use Rattle.std.proofs.Common.{◌∙◌, arith}
use Rattle.cyl_alloc.proofs.Sums.{sums-zeros}
use Rattle.cyl_alloc.proofs.counts.Counts.zeros.Goals as goal

pub invariant_of-result : goal.invariant_of-result
invariant_of-result c =
    let each = c.in_ok-each.ensures.items_if_clones_equal (λ y is. is) in
    let groups = c.in_ok-groups.ensures.items_if_clones_equal (λ y is. is) in
    rw (each, groups) (sums-zeros c.args.cylinders c.div_ceil.result c.requires.some c.requires.most (c.div_ceil.ensures ∙ grind arith))
