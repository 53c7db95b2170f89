-- The faults that are marked are listed in rising order, each once.
use Rattle.std.proofs.Common.{◌≡◌, ◌≢◌, ◌⊎◌, inl, inr, ℕ, zero, suc, ◌+◌, ◌*◌, ◌/◌, ◌%◌, ◌<◌, ◌≤◌, Bool, true, false, cond, List, [], ◌∷◌, ◌++◌, length, get_or, Some, refl, sym, ◌∙◌, ap, subst, arith}
use Rattle.std.proofs.lemmas.Bool.{cases_eq, cases_lt}
use Rattle.std.proofs.lemmas.List.{get_or_past}
use Rattle.std.proofs.lemmas.List.Elements.{Contains-append_left, Contains-push}
use Rattle.std.proofs.lemmas.Option.{same_Some, slice_get-get_or, slice_get_within}
use Rattle.std.specs.List.{Contains}
use Rattle.std.specs.Prelude.{slice_get}
use Rattle.cfs_base.specs.Disk.{Image}
use Rattle.cfs_base.specs.declared.refusal.Damage.{Damage}
use Rattle.vol_image.specs.Fault.{Fault, HasLabel}
use Rattle.vol_image.specs.Faults.{AreFaultsOf, DamagesRise, IsDamageBefore, IsListed}
use Rattle.vol_label.specs.declared.label.Label.{Label}
use Rattle.cfs_recover.proofs.Noting.{push_from}
use Rattle.cfs_check.specs.Marks.{damage_at, damages_below, damages_in, is_marked, is_marked_damage, mark_place}
use Rattle.cfs_check.specs.Surveyed.{MarksFaults}
use Rattle.cfs_check.proofs.Marked.{damages_more, place_is}

-- what is listed of the first so many marks
record IsOf (marks : List Bool) (below : ℕ) (d : Damage) : Type 0 where
  pub place : ℕ
  pub before : place < below
  pub is : d ≡ damage_at place
  pub marked : get_or marks place false ≡ true

none_yet : (marks : List Bool) → damages_below marks 0 ≡ []
none_yet marks = refl

module _ (marks : List Bool) where
  one_more : (n : ℕ) → damages_below marks (suc n) ≡ damages_below marks n ++ cond (get_or marks n false) (damage_at n ∷ []) []
  one_more n = let next : suc n ≡ n + 1 = omega arith in ap (damages_below marks) next ∙ damages_more marks n (get_or marks n false) refl

  append_none : (ds : List Damage) → ds ++ [] ≡ ds
  append_none [] = refl
  append_none (d ∷ ds) = ap (λ (xs : List Damage). d ∷ xs) (append_none ds)

  with_mark : (n : ℕ) (b : Bool) → get_or marks n false ≡ b → damages_below marks (suc n) ≡ damages_below marks n ++ cond b (damage_at n ∷ []) []
  with_mark n b is = one_more n ∙ ap (λ (t : Bool). damages_below marks n ++ cond t (damage_at n ∷ []) []) is

  same_list : (n : ℕ) → get_or marks n false ≡ false → damages_below marks (suc n) ≡ damages_below marks n
  same_list n off = with_mark n false off ∙ append_none (damages_below marks n)

  wider : (n : ℕ) (d : Damage) → IsOf marks n d → IsOf marks (suc n) d
  wider n d is = record { place = is.place; before = omega (arith, is.before); is = is.is; marked = is.marked }

  place_step : (n k : ℕ) (d : Damage) (b : Bool) → get_or marks n false ≡ b → ((j : ℕ) (e : Damage) → slice_get (damages_below marks n) j ≡ Some e → IsOf marks n e) → slice_get (damages_below marks (suc n)) k ≡ Some d → IsOf marks (suc n) d
  place_step n k d false off before at = wider n d (before k d (ap (λ (ds : List Damage). slice_get ds k) (sym (same_list n off)) ∙ at))
  place_step n k d true on before at = elim (push_from (damages_below marks n) (damage_at n) d k (ap (λ (ds : List Damage). slice_get ds k) (sym (with_mark n true on)) ∙ at)) [
    | inl was ↦ wider n d (before k d was)
    | inr now ↦ record { place = n; before = omega arith; is = sym now.1; marked = on }
  ]

  its_place : (n k : ℕ) (d : Damage) → slice_get (damages_below marks n) k ≡ Some d → IsOf marks n d
  its_place zero k d at = cc
  its_place (suc n) k d at = place_step n k d (get_or marks n false) refl (λ j e was. its_place n j e was) at

  before_in : (m n : ℕ) → m < n → IsDamageBefore (damage_at m) (damage_at n)
  before_in m n less = elim (cases_lt (m / 12) (n / 12)) [ inl lower ↦ inl lower | inr same ↦ inr (omega (arith, same, less), omega (arith, same, less)) ]

  abbrev RisesBelow : ℕ → Type 0
  RisesBelow n = (j k : ℕ) (d e : Damage) → j < k → slice_get (damages_below marks n) j ≡ Some d → slice_get (damages_below marks n) k ≡ Some e → IsDamageBefore d e

  rise_step : (n : ℕ) (b : Bool) → get_or marks n false ≡ b → RisesBelow n → RisesBelow (suc n)
  rise_step n false off before j k d e less one two =
      before j k d e less (ap (λ (ds : List Damage). slice_get ds j) (sym (same_list n off)) ∙ one) (ap (λ (ds : List Damage). slice_get ds k) (sym (same_list n off)) ∙ two)
  rise_step n true on before j k d e less one two =
      let list : damages_below marks (suc n) ≡ damages_below marks n ++ damage_at n ∷ [] = with_mark n true on in
      elim (push_from (damages_below marks n) (damage_at n) e k (ap (λ (ds : List Damage). slice_get ds k) (sym list) ∙ two)) [
        | inl was ↦ elim (push_from (damages_below marks n) (damage_at n) d j (ap (λ (ds : List Damage). slice_get ds j) (sym list) ∙ one)) [
          | inl old ↦ before j k d e less old was
          | inr now ↦ absurd (omega (arith, now.0, less, slice_get_within (damages_below marks n) k e was))
        ]
        | inr last ↦ elim (push_from (damages_below marks n) (damage_at n) d j (ap (λ (ds : List Damage). slice_get ds j) (sym list) ∙ one)) [
          | inl old ↦ (let at = its_place n j d old in subst (λ (x : Damage). IsDamageBefore x e) (sym at.is) (subst (λ (x : Damage). IsDamageBefore (damage_at at.place) x) last.1 (before_in at.place n at.before)))
          | inr now ↦ absurd (omega (arith, now.0, last.0, less))
        ]
      ]

  rises_below : (n : ℕ) → RisesBelow n
  rises_below zero j k d e less one two = cc
  rises_below (suc n) j k d e less one two = rise_step n (get_or marks n false) refl (λ i l x y. rises_below n i l x y) j k d e less one two

  has_place : (n p : ℕ) → p < n → get_or marks p false ≡ true → Contains (damages_below marks n) (damage_at p)
  has_place zero p below on = absurd (omega (arith, below))
  has_place (suc n) p below on = elim (cases_eq p n) [
    | inl same ↦
        subst (λ (ds : List Damage). Contains ds (damage_at p)) (sym (with_mark n true (ap (λ (m : ℕ). get_or marks m false) (sym same) ∙ on)))
        (subst (λ (m : ℕ). Contains (damages_below marks n ++ damage_at n ∷ []) (damage_at m)) (sym same) (Contains-push (damages_below marks n) (damage_at n)))
    | inr other ↦
        subst (λ (ds : List Damage). Contains ds (damage_at p)) (sym (one_more n))
        (Contains-append_left (damages_below marks n) (cond (get_or marks n false) (damage_at n ∷ []) []) (damage_at p) (has_place n p (omega (arith, below, other)) on))
  ]

  at_place : (d : Damage) → d.code < 12 → damage_at (mark_place d.code d.block) ≡ d
  at_place d small =
      let block : (12 * d.block + d.code) / 12 ≡ d.block = omega (arith, small) in
      let code : (12 * d.block + d.code) % 12 ≡ d.code = omega (arith, small) in
      λ i. record { block = block i; code = code i }

  pub marked_in : (d : Damage) → Contains (damages_in marks) d → (d.code < 12) × (is_marked marks d.code d.block ≡ true)
  marked_in d (k, inside, is) =
      let at = its_place (length marks) k d (slice_get-get_or (damages_in marks) k d inside ∙ ap Some is) in
      let small : (damage_at at.place).code < 12 = omega arith in
      (subst (λ (x : Damage). x.code < 12) (sym at.is) small, subst (λ (x : Damage). is_marked_damage marks x ≡ true) (sym at.is) (ap (λ (m : ℕ). get_or marks m false) (place_is at.place) ∙ at.marked))

  pub marked_within : (n : ℕ) (d : Damage) → length marks ≡ 12 * n → Contains (damages_in marks) d → d.block < n
  marked_within n d size (k, inside, is) =
      let at = its_place (length marks) k d (slice_get-get_or (damages_in marks) k d inside ∙ ap Some is) in
      omega (arith, at.before, size, ap (λ (x : Damage). x.block) at.is)

  pub in_marked : (d : Damage) → d.code < 12 → is_marked marks d.code d.block ≡ true → Contains (damages_in marks) d
  in_marked d small on = elim (cases_lt (mark_place d.code d.block) (length marks)) [
    | inl inside ↦ subst (Contains (damages_in marks)) (at_place d small) (has_place (length marks) (mark_place d.code d.block) inside on)
    | inr past ↦ (let off : false ≡ true = sym (get_or_past marks (mark_place d.code d.block) false past) ∙ on in cc)
  ]

  pub damages_rise : DamagesRise (damages_in marks)
  damages_rise j k d e less one two = rises_below (length marks) j k d e less one two

-- where exactly the faults are marked, they are listed
pub listed_faults : (image : Image) (marks : List Bool) → MarksFaults image marks → ((l : Label) → HasLabel image l → 64 * l.cylinders ≡ length image) → AreFaultsOf image (damages_in marks)
listed_faults image marks faults size = record {
  rise = damages_rise marks;
  each = λ d has. let at = marked_in marks d has in record { is = faults.each d.code d.block at.0 at.1; alone = λ l is other. absurd (other (size l is)) };
  all = λ d listed. let at = faults.all d.code d.block listed.is in in_marked marks d at.0 at.1;
}

-- where none is listed there is none
pub none_listed_none : (image : Image) (marks : List Bool) → MarksFaults image marks → damages_in marks ≡ [] → (code n : ℕ) → ¬ Fault image code n
none_listed_none image marks faults none code n is =
    let at = faults.all code n is in
    let d : Damage = record { block = n; code = code } in
    let has = in_marked marks d at.0 at.1 in
    let never : Contains [] d = subst (λ (ds : List Damage). Contains ds d) none has in
    omega (arith, never.1)
