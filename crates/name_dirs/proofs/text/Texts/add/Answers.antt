use Rattle.std.proofs.Common.{◌≡◌, ◌∙◌, List, ℕ, ap, sym, subst, true}
use Rattle.std.proofs.lemmas.Fn.{always_returns_same}
use Rattle.std.specs.Cmp.Lexicographic.{slice_cmp}
use Rattle.std.specs.List.{insert}
use Rattle.std.specs.Ordering.{nat_cmp}
use Rattle.name_dirs.specs.Text.{names_rise}
use Rattle.name_dirs.proofs.Listed.{rises_with, searchable, was_new, was_there}
use Rattle.name_dirs.proofs.text.Texts.add.Goals as goal

pub invariant_of-self-in-Err : goal.invariant_of-self-in-Err
invariant_of-self-in-Err c =
    let name = c.as_slice-name.result.now in
    let names = c.deref.result.now in
    let up = rw (← c.deref.ensures.value) at c.self.invariant in
    let place = c.in-Err.ensures.position (λ v. slice_cmp nat_cmp v name) (always_returns_same _ _ _ (λ a r f' k. k.met)) (searchable names name up) in
    let is = c.in_ok-insert-in-Err.ensures.items ∙ ap (λ (l : List (List ℕ)). insert l c.in-Err.at c.args.text) (sym c.deref.ensures.value) ∙ ap (insert names c.in-Err.at) (sym c.as_slice-name.ensures.bytes) in
    subst (λ (l : List (List ℕ)). names_rise l ≡ true) (sym is) (rises_with name names c.in-Err.at up c.in-Err.ensures.bound place.0 place.1)

pub returns-in-Ok-clause-added : goal.returns-in-Ok-clause-added
returns-in-Ok-clause-added c =
    let name = c.as_slice-name.result.now in
    let found = c.in-Ok.ensures.position (λ v. slice_cmp nat_cmp v name) (always_returns_same _ _ _ (λ a r f' k. k.met)) in
    let is : c.deref.result.now ≡ c.args.self.now = c.deref.ensures.value ∙ c.self.view_is in
    rw (← is, ← c.as_slice-name.ensures.bytes) (was_there name c.deref.result.now c.in-Ok.field-0 c.in-Ok.ensures.bound found)

pub returns-in_ok-insert-in-Err-clause-added : goal.returns-in_ok-insert-in-Err-clause-added
returns-in_ok-insert-in-Err-clause-added c =
    let name = c.as_slice-name.result.now in
    let names = c.deref.result.now in
    let up = rw (← c.deref.ensures.value) at c.self.invariant in
    let place = c.in-Err.ensures.position (λ v. slice_cmp nat_cmp v name) (always_returns_same _ _ _ (λ a r f' k. k.met)) (searchable names name up) in
    let is = c.in_ok-insert-in-Err.ensures.items ∙ ap (λ (l : List (List ℕ)). insert l c.in-Err.at c.args.text) (sym c.deref.ensures.value) ∙ ap (insert names c.in-Err.at) (sym c.as_slice-name.ensures.bytes) in
    let was : names ≡ c.args.self.now = c.deref.ensures.value ∙ c.self.view_is in
    rw (is, ← was, ← c.as_slice-name.ensures.bytes) (was_new name names c.in-Err.at up c.in-Err.ensures.bound place.0 place.1)
