use Rattle.std.proofs.Common.{◌≡◌, ◌∙◌, ap, refl, List, ℕ, [], ◌∷◌, Option, Some, None, Bor, slice_get}
use Rattle.ufs_model.proofs.Words.{IfOk-weaker, first_level, option_copied, unwrap_or}
use Rattle.ufs_model.proofs.change.recut_nodes.Goals as goal

first_is : (levels : List (List ℕ)) → unwrap_or (slice_get levels 0) [] ≡ first_level levels
first_is [] = refl
first_is (ns ∷ levels) = refl

now_of : (o : Option (Bor (List ℕ))) (d : Bor (List ℕ)) → (unwrap_or o d).now ≡ unwrap_or (option_copied o) d.now
now_of None d = refl
now_of (Some b) d = refl

-- of the fresh blocks, the leaves
fresh_leaves : (o : Option (List ℕ)) (d : List ℕ) (levels : List (List ℕ)) → o ≡ slice_get levels 0 → d ≡ [] → unwrap_or o d ≡ first_level levels
fresh_leaves o d levels at none = rw (at, none) (first_is levels)

pub returns : goal.returns
returns c =
    let at = c.first.ensures.value ∙ ap (λ (levels : List (List ℕ)). slice_get levels 0) c.as_slice.ensures in
    let fresh : c.unwrap_or-fresh_leaves.result.now ≡ first_level c.args.fresh.now =
    ap (λ (b : Bor (List ℕ)). b.now) c.unwrap_or-fresh_leaves.ensures ∙ now_of c.first.result _ ∙ fresh_leaves (option_copied c.first.result) _ c.args.fresh.now at c.empty-none.ensures in
    IfOk-weaker c.shared-3.result _ _ (λ nodes is. is ∙ cc (fresh, c.in_ok-stale.ensures, c.in_ok-changed.ensures, c.as_slice-2.ensures, c.in_ok-parents.ensures, c.in_ok-parents-2.ensures)) c.shared-3.ensures
