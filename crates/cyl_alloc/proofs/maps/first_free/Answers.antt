use Rattle.std.proofs.Common.{◌≡◌, ◌↔◌, ◌/◌, ℕ, length, ◌∙◌, sym, ap, subst, position, arith}
use Rattle.cyl_alloc.proofs.Words.{IsNone, first_chunks, none_counted, position-map, said_by}
use Rattle.cyl_map.specs.Map as spec
use Rattle.cyl_alloc.proofs.maps.first_free.Goals as goal
use Rattle.cyl_alloc.proofs.maps.first_free.Goals.{After-first_saying_free}

found : (c : After-first_saying_free) → c.first_saying_free.result ≡ position spec.is_free (spec.entries_of c.args.map.now)
unfolding spec.eights
found c =
    let count : length c.bytes.result.now / 8 ≡ 64 = omega (arith, ap length c.bytes.ensures.bytes, c.bytes.ensures.long) in
    c.first_saying_free.ensures
    ∙ ap (position (λ b. spec.is_free (said_by b)))
    (c.as_chunks.ensures.front ∙ ap (λ (n : ℕ). first_chunks 8 n c.bytes.result.now) count ∙ ap (first_chunks 8 64) c.bytes.ensures.bytes)
    ∙ sym (position-map spec.is_free said_by (spec.eights c.args.map.now))

pub returns-clause-first : goal.returns-clause-first
returns-clause-first c = sym c.in_ok-place.was ∙ found (goal.at-returns-clause-first c).After-first_saying_free

pub returns-clause-none : goal.returns-clause-none
returns-clause-none c =
    subst (λ o. IsNone o ↔ (spec.free_entries (spec.entries_of c.args.map.now) ≡ 0))
    (sym (found (goal.at-returns-clause-none c).After-first_saying_free) ∙ c.in_ok-place.was) (none_counted spec.is_free (spec.entries_of c.args.map.now))

pub returns-in_err-place-clause-first : goal.returns-in_err-place-clause-first
returns-in_err-place-clause-first c =
    c.from_residual.ensures ∙ sym c.in_err-place.was ∙ found (goal.at-returns-in_err-place-clause-first c).After-first_saying_free

pub returns-in_err-place-clause-none : goal.returns-in_err-place-clause-none
returns-in_err-place-clause-none c =
    subst (λ o. IsNone o ↔ (spec.free_entries (spec.entries_of c.args.map.now) ≡ 0))
    (sym (found (goal.at-returns-in_err-place-clause-none c).After-first_saying_free) ∙ c.in_err-place.was ∙ sym c.from_residual.ensures)
    (none_counted spec.is_free (spec.entries_of c.args.map.now))
