use Rattle.std.proofs.Common.{◌<◌, ◌/◌, length, ◌∙◌, ap, arith}
use Rattle.cyl_alloc.proofs.Words.{get_or_default_zero}
use Rattle.cyl_alloc.proofs.Sums.{sums-set, sum-most, group-bounds}
use Rattle.cyl_alloc.proofs.counts.Counts.put.Goals as goal

pub overflow_sub-group : goal.overflow_sub-group
overflow_sub-group c =
    let xs = c.self.inside.each.items in
    let groups = c.self.inside.groups.items in
    let at = c.args.cylinder in
    let lt : at < length xs = omega (arith, ap length c.self.view_is, c.requires.cylinder) in
    let within : at / 256 < length groups = omega (arith, c.self.invariant.count) in
    (group-bounds xs groups c.self.inside.total at c.index-group.result.now c.index-old.result.now c.self.invariant lt
    (c.index-group.ensures ∙ get_or_default_zero groups (at / 256) _ within) (c.index-old.ensures ∙ get_or_default_zero xs at _ lt)).0

pub overflow_add-group : goal.overflow_add-group
overflow_add-group c =
    let xs = c.self.inside.each.items in
    let groups = c.self.inside.groups.items in
    let at = c.args.cylinder in
    let lt : at < length xs = omega (arith, ap length c.self.view_is, c.requires.cylinder) in
    let within : at / 256 < length groups = omega (arith, c.self.invariant.count) in
    let most = (group-bounds xs groups c.self.inside.total at c.index-group.result.now c.index-old.result.now c.self.invariant lt
    (c.index-group.ensures ∙ get_or_default_zero groups (at / 256) _ within) (c.index-old.ensures ∙ get_or_default_zero xs at _ lt)).1 in
    omega (arith, most, c.requires.most)

pub overflow_add-self : goal.overflow_add-self
overflow_add-self c = omega (arith, c.self.invariant.all, sum-most c.self.inside.each.items c.self.invariant.kept, c.requires.most)

pub invariant_of-self : goal.invariant_of-self
invariant_of-self c =
    let xs = c.self.inside.each.items in
    let groups = c.self.inside.groups.items in
    let at = c.args.cylinder in
    let lt : at < length xs = omega (arith, ap length c.self.view_is, c.requires.cylinder) in
    let within : at / 256 < length groups = omega (arith, c.self.invariant.count) in
    sums-set xs groups c.self.inside.total at c.args.count c.index-group.result.now c.index-old.result.now c.self.invariant lt c.requires.most
    (c.index-group.ensures ∙ get_or_default_zero groups (at / 256) _ within) (c.index-old.ensures ∙ get_or_default_zero xs at _ lt)
