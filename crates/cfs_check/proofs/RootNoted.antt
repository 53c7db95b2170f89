-- What is wrong with a root block is what was told of it.
use Rattle.std.proofs.Common.{◌≡◌, ◌⊎◌, inl, inr, ℕ, ◌≤◌, Bool, true, false, not, List, length, MatchBool, refl, sym, ◌∙◌, ap, subst}
use Rattle.cfs_base.specs.Disk.{Image, block_at}
use Rattle.cfs_base.specs.declared.kind.Place.TheVariants as places
use Rattle.block_tree.specs.declared.root.Root.{Root}
use Rattle.vol_image.specs.Fault.{HasNoRoot, HasRootSlots, IsShownRoot, standing}
use Rattle.vol_image.specs.Part.{BelongsTo, part_at}
use Rattle.cfs_check.specs.Findings.{Decides}
use Rattle.cfs_check.specs.Items.{RootFault}
use Rattle.cfs_check.specs.Marks.{AddsMarks, IsToldOf}
use Rattle.cfs_check.proofs.Marked.{adds_as, adds_then}
use Rattle.cfs_check.proofs.Noted.{retold}

not_so : (P : Type 0) (b : Bool) → MatchBool b P (¬ P) → not b ≡ true → ¬ P
not_so P true is told = cc
not_so P false none told = none

so_not : (P : Type 0) (b : Bool) → MatchBool b P (¬ P) → ¬ P → not b ≡ true
so_not P true is none = absurd (none is)
so_not P false is none = refl

module _ (image : Image) (r : ℕ) (in_place two : Bool) (entered : MatchBool in_place (BelongsTo r places.Root (part_at image r)) (¬ BelongsTo r places.Root (part_at image r)))
    (doubled : Decides two (2 ≤ length (standing image r))) (m0 m1 m2 : List Bool) (first : AddsMarks (IsToldOf (not in_place) 5 r) m0 m1) (second : AddsMarks (IsToldOf two 7 r) m1 m2) where
  abbrev Told : ℕ → ℕ → Type 0
  Told code n = IsToldOf (not in_place) 5 r code n ⊎ IsToldOf two 7 r code n

  both : AddsMarks Told m0 m2
  both = adds_then (IsToldOf (not in_place) 5 r) (IsToldOf two 7 r) m0 m1 m2 first second

  is_wrong : (code n : ℕ) → Told code n → RootFault image r code n
  is_wrong code n (inl t) = retold (RootFault image r) (not in_place) 5 r code n t (RootFault.NotOwned (not_so _ in_place entered t.is_told))
  is_wrong code n (inr t) = retold (RootFault image r) two 7 r code n t (RootFault.TwoShadows (at two doubled t.is_told))
    where
      at : (b : Bool) → Decides b (2 ≤ length (standing image r)) → b ≡ true → 2 ≤ length (standing image r)
      at true is told = is
      at false is told = cc

  doubled_told : 2 ≤ length (standing image r) → two ≡ true
  doubled_told many = at two doubled
    where
      at : (b : Bool) → Decides b (2 ≤ length (standing image r)) → b ≡ true
      at true is = refl
      at false none = absurd (none many)

  owned_told : ¬ BelongsTo r places.Root (part_at image r) → IsToldOf (not in_place) 5 r 5 r
  owned_told none = record { is_told = so_not _ in_place entered none; code_is = refl; block_is = refl }

  -- nothing else is
  pub no_other : ¬ HasNoRoot (block_at image r) → ((root : Root) → r ≡ 2 → IsShownRoot image r root → ¬ ¬ HasRootSlots root) → AddsMarks (RootFault image r) m0 m2
  no_other some_root slots = adds_as Told (RootFault image r) m0 m2 both is_wrong from
    where
      from : (code n : ℕ) → RootFault image r code n → Told code n
      from code n (RootFault.NoRoot none) = absurd (some_root none)
      from code n (RootFault.NotOwned none) = inl (owned_told none)
      from code n (RootFault.TwoShadows many) = inr (record { is_told = doubled_told many; code_is = refl; block_is = refl })
      from code n (RootFault.OtherIndex root is shown none) = absurd (slots root is shown none)

  -- this is as well
  pub one_other : (m3 : List Bool) (k : ℕ) → AddsMarks (IsToldOf true k r) m2 m3 → RootFault image r k r → (HasNoRoot (block_at image r) → k ≡ 3) → ((root : Root) → r ≡ 2 → IsShownRoot image r root → ¬ HasRootSlots root → k ≡ 6) → AddsMarks (RootFault image r) m0 m3
  one_other m3 k third fault is_three is_six = adds_as (λ code n. Told code n ⊎ IsToldOf true k r code n) (RootFault image r) m0 m3 (adds_then Told (IsToldOf true k r) m0 m2 m3 both third)
      (λ code n told. elim told [ inl t ↦ is_wrong code n t | inr t ↦ retold (RootFault image r) true k r code n t fault ]) from
    where
      from : (code n : ℕ) → RootFault image r code n → Told code n ⊎ IsToldOf true k r code n
      from code n (RootFault.NoRoot none) = inr (record { is_told = refl; code_is = sym (is_three none); block_is = refl })
      from code n (RootFault.NotOwned none) = inl (inl (owned_told none))
      from code n (RootFault.TwoShadows many) = inl (inr (record { is_told = doubled_told many; code_is = refl; block_is = refl }))
      from code n (RootFault.OtherIndex root is shown none) = inr (record { is_told = refl; code_is = sym (is_six root is shown none); block_is = refl })
