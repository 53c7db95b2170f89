-- Once all is swept, and nothing is open, exactly the blocks of the objects aren't Free beside the maps and the label.
use Rattle.std.proofs.Common.{◌≡◌, ◌⊎◌, inl, inr, ℕ, Bool, true, false, Some, None, refl, ap, arith}
use Rattle.cfs_core.proofs.Words.{Accounts, and_from, and_parts, both_ways, entry_in, eq-eqb, false_from_ne_true, free_unplaced, Graph, has_block, ids_of, Image, is_fixed, is_had, is_made, is_meant, is_of_draft, is_of_object, is_placed, IsHeldBy, IsSwept, object_of_block, one_of, one_use, or_cases, owner_of, rises, no_drafts}
use Rattle.cfs_core.specs.Collect.{IsTidyVolume}

module _ (image : Image) (g : Graph) (has : Accounts image g no_drafts) (up : rises (ids_of g) ≡ true) where
  -- no draft has a block
  none_drafted : (n : ℕ) → is_of_draft g (entry_in image n) ≡ false
  none_drafted n = false_from_ne_true _ (λ is.
      let two = and_parts (is_placed is_meant (entry_in image n)) _ is in
      elim (or_cases (is_made (entry_in image n)) (has_block g.objects (owner_of (entry_in image n))) two.1) [
        | inl made ↦ (let no : None ≡ Some n = (has.made_by n made).makes in cc)
        | inr there ↦
            let o = object_of_block g up (owner_of (entry_in image n)) there in
            both_ways _ (has.drafts o.0 o.1 o.2 n) (and_from _ _ two.0 (eq-eqb o.0.block (owner_of (entry_in image n)) o.3))
      ])

  held_of : (n : ℕ) → is_of_object g (entry_in image n) ≡ true → IsHeldBy image g n
  held_of n is =
      let two = and_parts (is_placed is_had (entry_in image n)) _ is in
      let o = object_of_block g up (owner_of (entry_in image n)) two.1 in
      (o.0, o.1, o.2, (has.objects o.0 o.1 o.2).no_other n (and_from _ _ two.0 (eq-eqb o.0.block (owner_of (entry_in image n)) o.3)))

  pub tidy : IsSwept image g → IsTidyVolume image g
  tidy swept = λ n below. (
    λ taken.
        let one = one_use image g no_drafts has up n below in
        elim_fixed n (is_fixed n) refl (λ loose.
        let object : one_of (is_of_object g (entry_in image n)) ≡ 1 = omega (arith, one, ap one_of loose, ap one_of taken, ap one_of (none_drafted n), ap one_of (swept.none n)) in
        held_of n (is_one (is_of_object g (entry_in image n)) object)),
    λ is. false_from_ne_true _ (λ free. elim is [
      | inl fixed ↦ omega (arith, one_use image g no_drafts has up n below, ap one_of fixed, ap one_of free)
      | inr held ↦ both_ways _ (free_unplaced is_had refl (entry_in image n) free) (and_parts _ _ ((has.objects held.0 held.1 held.2).each n held.3)).0
    ]),
  )
    where
      is_one : (b : Bool) → one_of b ≡ 1 → b ≡ true
      is_one true is = refl
      is_one false is = cc

      elim_fixed : (n : ℕ) (b : Bool) → is_fixed n ≡ b → (is_fixed n ≡ false → IsHeldBy image g n) → (is_fixed n ≡ true) ⊎ IsHeldBy image g n
      elim_fixed n true is held = inl is
      elim_fixed n false is held = inr (held is)
