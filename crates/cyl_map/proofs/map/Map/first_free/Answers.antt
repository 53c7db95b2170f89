use Rattle.std.proofs.Common.{◌≡◌, ◌↔◌, ◌∙◌, sym, ap, subst, position}
use Rattle.cyl_map.proofs.Words.{IsNone, said_by}
use Rattle.cyl_map.specs.Map as spec
use Rattle.cyl_map.proofs.FreeEntries.{position-map, none_counted}
use Rattle.cyl_map.proofs.map.Map.first_free.Goals as goal
use Rattle.cyl_map.proofs.map.Map.first_free.Goals.{After-first_free}

found : (c : After-first_free) → c.first_free.result ≡ position spec.is_free c.args.self.now
found c =
    rw (← c.self.view_is) (c.first_free.ensures ∙ ap (position (λ b. spec.is_free (said_by b))) c.eights.ensures.each
    ∙ sym (position-map spec.is_free said_by (spec.eights c.self.inside.bytes)))

pub returns-clause-first : goal.returns-clause-first
returns-clause-first c = sym c.in_ok-place.was ∙ found (goal.at-returns-clause-first c).After-first_free

pub returns-clause-none : goal.returns-clause-none
returns-clause-none c =
    subst (λ o. IsNone o ↔ (spec.free_entries c.args.self.now ≡ 0)) (sym (found (goal.at-returns-clause-none c).After-first_free) ∙ c.in_ok-place.was) (none_counted spec.is_free c.args.self.now)

pub returns-in_err-place-clause-first : goal.returns-in_err-place-clause-first
returns-in_err-place-clause-first c =
    c.from_residual.ensures ∙ sym c.in_err-place.was ∙ found (goal.at-returns-in_err-place-clause-first c).After-first_free

pub returns-in_err-place-clause-none : goal.returns-in_err-place-clause-none
returns-in_err-place-clause-none c =
    subst (λ o. IsNone o ↔ (spec.free_entries c.args.self.now ≡ 0)) (sym (found (goal.at-returns-in_err-place-clause-none c).After-first_free) ∙ c.in_err-place.was ∙ sym c.from_residual.ensures)
    (none_counted spec.is_free c.args.self.now)
