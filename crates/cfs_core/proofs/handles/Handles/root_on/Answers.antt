use Rattle.std.proofs.Common.{◌≡◌, Bool, true, false, ◌&&◌, Option, Some, None, is_some, refl, sym, ◌∙◌, ap, option_copied, nat_eq}
use Rattle.block_tree.specs.declared.root.Root.{Root}
use Rattle.cfs_core.proofs.Words.{get}
use Rattle.cfs_core.proofs.Handled.{alike, root_found, root_passed}
use Rattle.cfs_core.proofs.handles.Handles.root_on.Goals.{then-eq+in_default, else-eq}
use Rattle.cfs_core.proofs.handles.Handles.root_on.Goals as goal

no_draft : {A : Type 0} (b : Bool) (o : Option A) → o ≡ None → (b && is_some o) ≡ false
no_draft true o none = ap is_some none
no_draft false o none = refl

another : (b c : Bool) → b ≡ false → (b && c) ≡ false
another b c other = ap (λ (x : Bool). x && c) other

pub returns-in-Some : goal.returns-in-Some
returns-in-Some c =
    let held = get nat_eq c.self.inside.drafts in
    let same = sym (alike c.args.id c.at-grant.result.id) ∙ sym c.eq.ensures ∙ c.if-eq.true in
    let has : held c.at-grant.result.tuid.draw ≡ Some c.in-Some.draft.now = sym c.get.ensures.value ∙ ap option_copied c.in-Some.is in
    ap (λ (r : Root). Some r) c.root.ensures ∙ sym (c.loop-place.invariant ∙ root_found held c.self.inside.grants.grants c.loop-place.place c.at-grant.result c.args.id c.in-Some.draft.now c.at-grant.ensures same has)

pub loop-place-preserved : goal.loop-place-preserved
loop-place-preserved c =
    let held = get nat_eq c.self.inside.drafts in
    let draw = c.at-grant.result.tuid.draw in
    let on = root_passed held c.self.inside.grants.grants c.loop-place.place c.at-grant.result c.args.id c.at-grant.ensures in
    c.loop-place.invariant ∙ elim c.if-eq.branch [
      | then-eq+in_default w ↦ on (no_draft _ (held draw) (sym w.get.ensures.value ∙ ap option_copied w.in_default.is))
      | else-eq w ↦ on (another _ (is_some (held draw)) (sym (alike c.args.id c.at-grant.result.id) ∙ sym c.eq.ensures ∙ w.if-eq.false))
    ]
