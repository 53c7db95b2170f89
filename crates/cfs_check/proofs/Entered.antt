-- What is wrong with entries, and with shadow roots, as one block more is looked at.
use Rattle.std.proofs.Common.{◌≡◌, ◌⊎◌, inl, inr, ℕ, suc, ◌+◌, ◌*◌, ◌/◌, ◌<◌, ◌≤◌, Bool, true, false, List, [], ◌∷◌, ◌++◌, length, get_or, cond, filter, Option, Some, None, refl, sym, ◌∙◌, ap, subst, arith, append-nil}
use Rattle.std.proofs.lemmas.Bool.{cases_lt}
use Rattle.std.proofs.lemmas.List.Elements.{filter-append}
use Rattle.std.specs.List.{range_with_len}
use Rattle.cfs_base.specs.Disk.{Image}
use Rattle.cyl_map.specs.Volume.{entry_in}
use Rattle.cyl_map.specs.declared.entry.MapEntry.{MapEntry}
use Rattle.ufs_model.proofs.Rising.{numbers_more}
use Rattle.vol_image.proofs.Parts.{shadow_entry}
use Rattle.vol_image.specs.Part.{stands_for}
use Rattle.cfs_recover.specs.Entries.{AreStanding, IsShadow, standing_below}
use Rattle.cfs_recover.specs.declared.standing.Shadow.{Shadow}
use Rattle.cfs_recover.specs.declared.standing.Shadow.TheVariants as shadow
use Rattle.cfs_check.specs.Findings.{Decides}
use Rattle.cfs_check.specs.Marks.{AddsMarks, IsToldOf}
use Rattle.cfs_check.specs.Surveyed.{EntryFaultAt, IsBadShadow, IsEntryFault, IsNoEntry, IsNotReserved, IsShadowFault, WrongEntry}
use Rattle.cfs_check.proofs.Known.{so_told, told_so}
use Rattle.cfs_check.proofs.Marked.{adds_as, adds_then}
use Rattle.cfs_check.proofs.Noted.{retold}

-- nothing is added where nothing is so
pub adds_nothing : (P : ℕ → ℕ → Type 0) (marks : List Bool) → ((code n : ℕ) → ¬ P code n) → AddsMarks P marks marks
adds_nothing P marks none = record { size = refl; kept = λ code n was. was; added = λ code n is. absurd (none code n is); only = λ code n small is. inl is }

-- ---- an entry

pub entry_told : (n : ℕ) (e : Option MapEntry) (none bare : Bool) → Decides none (IsNoEntry n e) → Decides bare (IsNotReserved n e) → (m0 m1 m2 : List Bool)
    → AddsMarks (IsToldOf none 2 (64 * (n / 64))) m0 m1 → AddsMarks (IsToldOf bare 5 n) m1 m2 → AddsMarks (WrongEntry n e) m0 m2
entry_told n e none bare if_none if_bare m0 m1 m2 first second = adds_as (λ code k. IsToldOf none 2 (64 * (n / 64)) code k ⊎ IsToldOf bare 5 n code k) (WrongEntry n e) m0 m2 (adds_then _ _ m0 m1 m2 first second) to from
  where
    to : (code k : ℕ) → IsToldOf none 2 (64 * (n / 64)) code k ⊎ IsToldOf bare 5 n code k → WrongEntry n e code k
    to code k (inl t) = retold (WrongEntry n e) none 2 (64 * (n / 64)) code k t (WrongEntry.NoEntry (told_so _ none if_none t.is_told))
    to code k (inr t) = retold (WrongEntry n e) bare 5 n code k t (WrongEntry.NotReserved (told_so _ bare if_bare t.is_told))

    from : (code k : ℕ) → WrongEntry n e code k → IsToldOf none 2 (64 * (n / 64)) code k ⊎ IsToldOf bare 5 n code k
    from code k (WrongEntry.NoEntry is) = inl (record { is_told = so_told _ none if_none is; code_is = refl; block_is = refl })
    from code k (WrongEntry.NotReserved is) = inr (record { is_told = so_told _ bare if_bare is; code_is = refl; block_is = refl })

-- a block without an entry stands for none
pub stands_on : (image : Image) (n : ℕ) (table : List Shadow) → entry_in image n ≡ None → AreStanding image n table → AreStanding image (n + 1) table
stands_on image n table none are r below =
    let P : ℕ → Bool = λ k. stands_for r (entry_in image k) in
    let next : n + 1 ≡ suc n = omega arith in
    let more : standing_below image (n + 1) r ≡ standing_below image n r =
    ap (λ (m : ℕ). filter P (range_with_len 0 m)) next ∙ ap (filter P) (numbers_more 0 n n (omega arith)) ∙ filter-append P (range_with_len 0 n) (n ∷ [])
    ∙ ap (λ (t : Bool). filter P (range_with_len 0 n) ++ cond t (n ∷ []) []) (ap (stands_for r) none) ∙ append-nil (filter P (range_with_len 0 n))
    in
    subst (λ (ns : List ℕ). IsShadow ns (get_or table r shadow.None)) (sym more) (are r below)

pub no_entry_fault : (image : Image) (code n : ℕ) → ¬ IsEntryFault image 0 code n
no_entry_fault image code n is = omega (arith, is.before)

pub entries_more : (image : Image) (n : ℕ) (m0 m1 m2 : List Bool) → AddsMarks (IsEntryFault image n) m0 m1 → AddsMarks (EntryFaultAt image n) m1 m2 → AddsMarks (IsEntryFault image (n + 1)) m0 m2
entries_more image n m0 m1 m2 first second = adds_as (λ code k. IsEntryFault image n code k ⊎ EntryFaultAt image n code k) (IsEntryFault image (n + 1)) m0 m2 (adds_then _ _ m0 m1 m2 first second) to from
  where
    to : (code k : ℕ) → IsEntryFault image n code k ⊎ EntryFaultAt image n code k → IsEntryFault image (n + 1) code k
    to code k (inl was) = record { block = was.block; before = omega (arith, was.before); fault = was.fault }
    to code k (inr now) = record { block = n; before = omega arith; fault = now }

    from : (code k : ℕ) → IsEntryFault image (n + 1) code k → IsEntryFault image n code k ⊎ EntryFaultAt image n code k
    from code k is = elim (cases_lt is.block n) [
      | inl less ↦ inl (record { block = is.block; before = less; fault = is.fault })
      | inr past ↦ inr (let same : is.block ≡ n = omega (arith, past, is.before) in subst (λ (m : ℕ). EntryFaultAt image m code k) same is.fault)
    ]

-- ---- a shadow root

-- it stands for the owner of its entry
pub bad_owner : (image : Image) (found : List ℕ) (s : ℕ) (e : MapEntry) → entry_in image s ≡ Some e → (bad : IsBadShadow image found s) → bad.root ≡ e.owner
bad_owner image found s e is bad = sym (shadow_entry bad.root e (ap (stands_for bad.root) (sym is) ∙ bad.stands)).2

pub no_shadow_fault : (image : Image) (found : List ℕ) (code n : ℕ) → ¬ IsShadowFault image found 0 code n
no_shadow_fault image found code n is = omega (arith, is.before)

pub shadows_more : (image : Image) (found : List ℕ) (n : ℕ) (told : Bool) (m0 m1 m2 : List Bool) → Decides told (IsBadShadow image found n) → AddsMarks (IsShadowFault image found n) m0 m1 → AddsMarks (IsToldOf told 3 n) m1 m2 → AddsMarks (IsShadowFault image found (n + 1)) m0 m2
shadows_more image found n told m0 m1 m2 if_bad first second = adds_as (λ code k. IsShadowFault image found n code k ⊎ IsToldOf told 3 n code k) (IsShadowFault image found (n + 1)) m0 m2 (adds_then _ _ m0 m1 m2 first second) to from
  where
    to : (code k : ℕ) → IsShadowFault image found n code k ⊎ IsToldOf told 3 n code k → IsShadowFault image found (n + 1) code k
    to code k (inl was) = record { before = omega (arith, was.before); bad = was.bad; code_is = was.code_is }
    to code k (inr now) = record { before = omega (arith, now.block_is); bad = subst (IsBadShadow image found) (sym now.block_is) (told_so _ told if_bad now.is_told); code_is = now.code_is }

    from : (code k : ℕ) → IsShadowFault image found (n + 1) code k → IsShadowFault image found n code k ⊎ IsToldOf told 3 n code k
    from code k is = elim (cases_lt k n) [
      | inl less ↦ inl (record { before = less; bad = is.bad; code_is = is.code_is })
      | inr past ↦ inr (let same : k ≡ n = omega (arith, past, is.before) in record { is_told = so_told _ told if_bad (subst (IsBadShadow image found) same is.bad); code_is = is.code_is; block_is = same })
    ]
