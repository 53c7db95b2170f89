use Rattle.std.proofs.Common.{◌-◌, ◌*◌, ℕ, List, take, drop, subst, arith, Some, None}
use Rattle.cyl_alloc.proofs.Words.{IsFirstAbove}
use Rattle.cyl_alloc.proofs.Sums.{first_none, first_in, some_in}
use Rattle.cyl_alloc.proofs.counts.Counts.first.Goals as goal

pub returns-in_err-group-clause-first : goal.returns-in_err-group-clause-first
returns-in_err-group-clause-first c =
    rw (c.from_residual.ensures, ← c.self.view_is) (first_none c.self.inside.each.items c.self.inside.groups.items c.self.inside.total c.self.invariant
    (subst (λ (gs : List ℕ). IsFirstAbove gs None) c.deref.ensures.value c.in_err-group.ensures))

pub returns-in_err-place-clause-first : goal.returns-in_err-place-clause-first
returns-in_err-place-clause-first c =
    let g = c.in_ok-group.group in
    let n = c.min-end.result - g * 256 in
    let xs = c.self.inside.each.items in
    let group = subst (λ (gs : List ℕ). IsFirstAbove gs (Some g)) c.deref.ensures.value c.in_ok-group.ensures in
    let place = subst (λ (ys : List ℕ). IsFirstAbove (take n (drop (g * 256) ys)) None) c.deref-2.ensures.value c.in_err-place.ensures in
    absurd (some_in xs c.self.inside.groups.items c.self.inside.total g n c.self.invariant group (λ i past less. omega (arith, c.len.ensures, c.min-end.ensures)) place)

pub returns-clause-first : goal.returns-clause-first
returns-clause-first c =
    let g = c.in_ok-group.group in
    let n = c.min-end.result - g * 256 in
    let xs = c.self.inside.each.items in
    let group = subst (λ (gs : List ℕ). IsFirstAbove gs (Some g)) c.deref.ensures.value c.in_ok-group.ensures in
    let place = subst (λ (ys : List ℕ). IsFirstAbove (take n (drop (g * 256) ys)) (Some c.in_ok-place.place)) c.deref-2.ensures.value c.in_ok-place.ensures in
    rw (← c.self.view_is) (first_in xs c.self.inside.groups.items c.self.inside.total g n c.self.invariant group c.in_ok-place.place (omega (arith, c.min-end.ensures)) place)
