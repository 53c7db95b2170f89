use Rattle.std.proofs.Common.{◌≡◌, ◌+◌, ◌<◌, length, ◌∙◌, ap, subst, arith, get_or, set, List, map}
use Rattle.cfs_recover.proofs.Words.{Shadow, length-map, one_more, shadow_of}
use Rattle.cfs_recover.specs.declared.standing.Shadow.TheVariants.{None}
use Rattle.cfs_recover.proofs.Tables.{noted, the_first, one_more_stands}
use Rattle.cfs_recover.proofs.standing.Standing.note.Goals as goal
use Rattle.cfs_recover.proofs.standing.Standing.note.Goals.{then-of-eq0, else-of-eq0}

pub returns : goal.returns
returns c =
    let of = c.self.inside.of.items in
    let r = c.args.block in
    let s = c.args.shadow in
    let value = c.index_mut-of.ensures.value in
    let inside : r < length of = omega (arith, length-map of shadow_of, ap length c.self.view_is, c.requires.block) in
    let few : s + 1 < 4294967295 = omega (arith, length-map of shadow_of, ap length c.self.view_is, c.requires.within, c.self.invariant.0) in
    subst (λ (t : List Shadow). map shadow_of (set of r c.if-of-eq0.of) ≡ set t r (one_more (get_or t r None) s)) c.self.view_is
    (noted of r c.if-of-eq0.of ∙ ap (set (map shadow_of of) r) (elim c.if-of-eq0.branch [
      | then-of-eq0 w ↦ ap shadow_of w.of-is ∙ the_first of r _ s inside value w.if-of-eq0.true few
      | else-of-eq0 w ↦ ap shadow_of w.of-is ∙ one_more_stands of r _ s inside value w.if-of-eq0.false
    ]))
