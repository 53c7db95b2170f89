-- What has come of a mend on the way: roots, and then maps.
use Rattle.std.proofs.Common.{◌≡◌, ◌≢◌, ◌⊎◌, inl, inr, ⊎_elim, ℕ, ◌+◌, ◌*◌, ◌/◌, ◌%◌, ◌<◌, ◌≤◌, Bool, true, false, List, [], length, set, Some, refl, sym, ◌∙◌, ap, subst, arith, get_or-set_other, get_or-set_same, length-set}
use Rattle.std.proofs.lemmas.Bool.{cases_eq, cases_lt}
use Rattle.std.proofs.lemmas.List.{ext_get_or}
use Rattle.std.proofs.lemmas.Option.{same_Some, slice_get_within}
use Rattle.std.specs.Prelude.{slice_get}
use Rattle.cfs_base.specs.Disk.{Image, block_at}
use Rattle.ufs_model.specs.Graph.{Graph}
use Rattle.ufs_model.specs.Numbers.{has_number}
use Rattle.vol_image.proofs.Steps.{not_map}
use Rattle.vol_image.specs.Fault.{reader, shown_root}
use Rattle.cfs_check.specs.Mended.{MendsTo}
use Rattle.cfs_check.specs.Repair.{HasRoots, IsMendPlan, IsRootIn, Mends, MendsMaps, WroteMaps, WroteRoots, mended_map}
use Rattle.cfs_check.specs.Uses.{Use}
use Rattle.cfs_check.proofs.Listed.{has_at, place_in}
use Rattle.cfs_check.proofs.Mending.{map_has_roots, mends_map, mends_root, root_apart}

-- ---- one write

pub root_step : (g : Graph) (b : Image) (n : ℕ) (content : List ℕ) → IsRootIn g b n content → (c : Image) → Mends g b c → Mends g b (set c n content)
root_step g b n content is c mends =
    subst (λ (x : List ℕ). MendsTo (set c n x) g b) (sym is.is)
    (subst (λ (m : ℕ). MendsTo (set c m (block_at b m)) g b) is.block (mends_root c g b mends is.id is.object is.there))

pub map_step : (g : Graph) (b : Image) (j : ℕ) (content : List ℕ) → 64 * j < length b → block_at b (64 * j) ≡ content → (c : Image) → MendsMaps g b c → MendsMaps g b (set c (64 * j) content)
map_step g b j content below is c mends =
    let inside : 64 * j < length c = omega (arith, below, mends.0.size) in
    subst (λ (x : List ℕ). MendsMaps g b (set c (64 * j) x)) is (mends_map c g b mends.0 mends.1 j inside, map_has_roots c g b mends.0 mends.1 j inside)

module _ (image : Image) (found : List ℕ) (of : List Use) (g : Graph) (b : Image) (plan : IsMendPlan image found of g b) where
  -- ---- roots

  pub none_wrote : (c : Image) → c ≡ image → WroteRoots image found b c 0
  none_wrote c is = record {
    each = λ n. inl (ap (λ (i : Image). block_at i n) is);
    done = λ k r none at. absurd (omega (arith, none));
    maps = λ j. ap (λ (i : Image). block_at i (64 * j)) is;
  }

  module _ (k r : ℕ) (at : slice_get found k ≡ Some r) where
    its_root : IsRootIn g b r (shown_root image r)
    its_root = plan.roots r (has_at found k r at)

    -- it is no map
    apart : (j : ℕ) → 64 * j ≢ r
    apart j same =
        let root = its_root in
        let no = not_map root.id.block (root_apart b g plan.mends.sound plan.mends.clean root.id root.object root.there) in
        no (omega (arith, same, root.block))

    last : (n : ℕ) → n < k + 1 → n ≢ k → n < k
    last n less other = omega arith

    one_more : (c new : Image) → WroteRoots image found b c k → block_at new r ≡ block_at b r → ((n : ℕ) → n ≢ r → block_at new n ≡ block_at c n) → WroteRoots image found b new (k + 1)
    one_more c new before here others = record {
      each = λ n. elim (cases_eq n r) [
        | inl same ↦ inr (ap (block_at new) same ∙ here ∙ ap (block_at b) (sym same))
        | inr other ↦ ⊎_elim (λ was. inl (others n other ∙ was)) (λ done. inr (others n other ∙ done)) (before.each n)
      ];
      done = λ m s less there. elim (cases_eq s r) [
        | inl same ↦ ap (block_at new) same ∙ here ∙ ap (block_at b) (sym same)
        | inr other ↦ others s other ∙ before.done m s (last m less (λ same. other (same_Some _ _ (sym there ∙ ap (slice_get found) same ∙ at)))) there
      ];
      maps = λ j. others (64 * j) (apart j) ∙ before.maps j;
    }

    -- it is read by itself: nothing is written
    pub own_wrote : (c : Image) → reader image r ≡ r → WroteRoots image found b c k → WroteRoots image found b c (k + 1)
    own_wrote c own before = one_more c c before (⊎_elim (λ was. was ∙ ap (block_at image) (sym own) ∙ its_root.is) (λ done. done) (before.each r)) (λ n other. refl)

    -- it is written
    pub root_wrote : (c new : Image) (content : List ℕ) → r < length c → content ≡ shown_root image r → new ≡ set c r content → WroteRoots image found b c k → WroteRoots image found b new (k + 1)
    root_wrote c new content inside shown is before = one_more c new before
        (ap (λ (i : Image). block_at i r) is ∙ get_or-set_same c r content [] inside ∙ shown ∙ its_root.is)
        (λ n other. ap (λ (i : Image). block_at i n) is ∙ get_or-set_other c r n content [] other)

    pub root_in : (content : List ℕ) → content ≡ shown_root image r → IsRootIn g b r content
    root_in content shown = subst (IsRootIn g b r) (sym shown) its_root

  -- all are written
  pub all_wrote : (c : Image) → Mends g b c → WroteRoots image found b c (length found) → MendsMaps g b c × WroteMaps image b c 0
  all_wrote c mends wrote = (
    (
      mends,
      λ id o there. let at = place_in found id.block (plan.found id o there) in wrote.done at.0 id.block (slice_get_within found at.0 id.block at.1) at.1,
    ),
    record { done = λ j none. absurd (omega (arith, none)); rest = λ j le. wrote.maps j },
  )

  -- ---- maps

  pub map_wrote : (c new : Image) (j : ℕ) → 64 * j < length c → length c ≡ length image → (new ≡ set c (64 * j) (mended_map of j)) ⊎ ((new ≡ c) × (block_at image (64 * j) ≡ mended_map of j)) → WroteMaps image b c j → WroteMaps image b new (j + 1)
  map_wrote c new j inside size either before = record {
    done = λ i less. elim (cases_eq i j) [
      | inl same ↦ ap (λ (n : ℕ). block_at new (64 * n)) same ∙ here ∙ sym (plan.maps j (omega (arith, inside, size))) ∙ ap (λ (n : ℕ). block_at b (64 * n)) (sym same)
      | inr other ↦ others i other ∙ before.done i (omega (arith, less, other))
    ];
    rest = λ i le. others i (λ same. omega (arith, same, le)) ∙ before.rest i (omega (arith, le));
  }
    where
      here : block_at new (64 * j) ≡ mended_map of j
      here = ⊎_elim (λ put. ap (λ (i : Image). block_at i (64 * j)) put ∙ get_or-set_same c (64 * j) (mended_map of j) [] inside)
          (λ same. ap (λ (i : Image). block_at i (64 * j)) same.0 ∙ before.rest j (omega arith) ∙ same.1) either

      others : (i : ℕ) → i ≢ j → block_at new (64 * i) ≡ block_at c (64 * i)
      others i other = ⊎_elim (λ put. ap (λ (x : Image). block_at x (64 * i)) put ∙ get_or-set_other c (64 * j) (64 * i) (mended_map of j) [] (λ same. other (omega (arith, same))))
          (λ same. ap (λ (x : Image). block_at x (64 * i)) same.0) either

  -- once all are written it is b
  pub all_made : (c : Image) → MendsMaps g b c → WroteMaps image b c (length image / 64) → c ≡ b
  all_made c mends wrote = ext_get_or [] c b (sym mends.0.size) (λ n below. elim (cases_eq (n % 64) 0) [
    | inl map ↦
        (let here : 64 * (n / 64) ≡ n = omega (arith, map) in
        ap (block_at c) (sym here) ∙ wrote.done (n / 64) (omega (arith, below, map, plan.cylinders, mends.0.size, plan.mends.size)) ∙ ap (block_at b) here)
    | inr other ↦ inner n other (has_number n found) refl
  ])
    where
      inner : (n : ℕ) → n % 64 ≢ 0 → (t : Bool) → has_number n found ≡ t → block_at c n ≡ block_at b n
      inner n other true has = let root = plan.roots n has in ap (block_at c) (sym root.block) ∙ mends.1 root.id root.object root.there ∙ ap (block_at b) root.block
      inner n other false none = sym (mends.0.others n other (λ root. let no : false ≡ true = sym none ∙ ap (λ (m : ℕ). has_number m found) (sym root.3) ∙ plan.found root.0 root.1 root.2 in cc))
