use Rattle.std.proofs.Common.{◌≡◌, ◌∙◌, ◌<◌, ap, arith, false, get_or, length, sym}
use Rattle.collector_marks.specs.Kept.{Marked, blocks_marked}
use Rattle.collector_marks.proofs.Counts.{fewer}
use Rattle.collector_marks.proofs.marks.Marks.shade.Goals as goal

pub push_reserved-requires : goal.push_reserved-requires
push_reserved-requires c =
    let below : c.args.id.block < length c.self.inside.marked = omega (arith, c.requires, ap (λ (m : Marked). blocks_marked m) c.self.view_is) in
    let is : get_or c.self.inside.marked c.args.id.block false ≡ false = sym c.put-was_marked.ensures.was ∙ c.if-not-was_marked.true in
    omega (arith, c.self.invariant.1, c.self.invariant.2, fewer c.self.inside.marked c.args.id.block below is)
