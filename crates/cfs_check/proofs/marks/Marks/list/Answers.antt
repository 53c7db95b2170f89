use Rattle.std.proofs.Common.{◌≡◌, ◌≢◌, ◌∷◌, [], ◌++◌, ℕ, Bool, List, true, false, length, get_or, refl, sym, ◌∙◌, ap, subst}
use Rattle.cfs_base.specs.declared.refusal.Damage.{Damage}
use Rattle.cfs_check.specs.Marks.{damage_at, damages_in}
use Rattle.cfs_check.proofs.Marked.{damages_more, none_listed}
use Rattle.cfs_check.proofs.marks.Marks.list.Goals as goal

append_none : (ds : List Damage) → ds ++ [] ≡ ds
append_none [] = refl
append_none (d ∷ ds) = ap (λ (xs : List Damage). d ∷ xs) (append_none ds)

pub returns-then-not-self : goal.returns-then-not-self
returns-then-not-self c =
    let marks = c.self.inside.marks.items in
    let none : (place : ℕ) → get_or marks place false ≢ true = λ place is. (let no : false ≡ true = sym c.if-not-self.true ∙ c.self.invariant.told place is in cc) in
    let listed : [] ≡ damages_in c.args.self.now = subst (λ (ms : List Bool). [] ≡ damages_in ms) c.self.view_is (sym (none_listed marks none (length marks))) in
    c.of.ensures ∙ c.new-faults.ensures.items ∙ listed

pub loop-place-preserved-then-not-marked : goal.loop-place-preserved-then-not-marked
loop-place-preserved-then-not-marked c =
    c.loop-place.invariant ∙ sym (damages_more c.deref-marked-items.result.now c.loop-place.place false c.if-not-marked.true ∙ append_none _)

pub loop-place-preserved : goal.loop-place-preserved
loop-place-preserved c =
    c.in_ok-push.ensures.items ∙ ap (λ (ds : List Damage). ds ++ damage_at c.loop-place.place ∷ []) c.loop-place.invariant
    ∙ sym (damages_more c.deref-marked-items.result.now c.loop-place.place true c.if-not-marked.false)
