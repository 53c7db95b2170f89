-- What the maps in memory say of the entries of the image.
use Rattle.std.proofs.Common.{◌≡◌, inl, inr, ℕ, ◌+◌, ◌*◌, ◌/◌, ◌%◌, ◌<◌, ◌≤◌, true, List, [], ◌∷◌, ◌++◌, length, get_or, Option, Some, None, refl, sym, ◌∙◌, ap, subst, arith}
use Rattle.cfs_recover.proofs.Words.{AllMapsStand, AreGrounds, AreMaps, AreMapsOf, Damage, EntryFault, Fault, Ghosts, HasEntryFault, HasLabel, Image, IsBadMap, IsFaultOf, IsMap, IsMapOf, IsNoMap, IsSome, Label, MapEntry, MayStand, Stores, Tells, block_at, cases_lt, damage, entries_read, entry_in, get_or-append_seam, get_or_append_left, is_fixed, map_in_image, map_of, map_spelling, reserved, same_Some, slice_get, slice_get-get_or}
use Rattle.cfs_recover.proofs.InMemory.{entry_is}

-- ---- one map

module _ (image : Image) (c : ℕ) (map : List MapEntry) (is : IsMap map) (spelled : block_at image (64 * c) ≡ map_spelling map) (inside : 64 * c + 64 ≤ length image) where
  entry_here : (k : ℕ) → k < 64 → entry_in image (64 * c + k) ≡ slice_get map k
  unfolding entry_in
  entry_here k small =
      let n : (64 * c + k) / 64 ≡ c = omega arith in
      let m : (64 * c + k) % 64 ≡ k = omega arith in
      entries_read (block_at image (64 * ((64 * c + k) / 64))) map is (ap (λ (j : ℕ). block_at image (64 * j)) n ∙ spelled) ((64 * c + k) % 64) (omega arith) ∙ ap (slice_get map) m

  pub entry_fault : (d : Damage) → HasEntryFault c map d → IsFaultOf image d
  entry_fault d has = at d has.wrong
    where
      here : entry_in image (64 * c + has.k) ≡ Some has.e
      here = entry_here has.k has.small ∙ has.here

      at : (d : Damage) → EntryFault (64 * c + has.k) has.e d → IsFaultOf image d
      at d (EntryFault.RootOfAnother place owner) = Fault.RootOfAnother (64 * c + has.k) has.e here place owner
      at d (EntryFault.NotReserved fixed other) = let small = has.small in Fault.NotReserved (64 * c + has.k) (omega arith) fixed (λ yes. other (same_Some _ _ (sym here ∙ yes)))

-- a map block that is no map
pub no_map_fault : (image : Image) (c : ℕ) → 64 * c + 64 ≤ length image → IsBadMap image (64 * c) → IsFaultOf image (damage (64 * c) 2)
no_map_fault image c inside bad =
    let first : map_of (64 * c) + bad.0 ≡ 64 * c + bad.0 = omega arith in
    let its : map_of (map_of (64 * c) + bad.0) ≡ 64 * c = omega (arith, bad.1) in
    subst (λ (n : ℕ). Fault image 2 n) its (Fault.NoEntry (map_of (64 * c) + bad.0) (omega (arith, bad.1)) bad.2)

-- ---- all maps

module _ (image : Image) (maps : List (List MapEntry)) (are : AreMapsOf image maps) (stand : AllMapsStand maps) where
  may_stand : (n : ℕ) (e : MapEntry) → n < length image → entry_in image n ≡ Some e → MayStand n e
  may_stand n e inside here =
      let whole : 64 * (n / 64) + n % 64 ≡ n = omega arith in
      subst (λ (m : ℕ). MayStand m e) whole (stand (n / 64) (omega (arith, are.size)) (n % 64) e (omega arith) (sym (entry_is image maps are n inside) ∙ here))

  some_entry : AreMaps image
  some_entry n inside =
      let map = are.map (n / 64) (omega (arith, are.size)) in
      subst IsSome (sym (entry_is image maps are n inside ∙ slice_get-get_or (get_or maps (n / 64) []) (n % 64) reserved (omega (arith, map.long)))) refl

  pub grounds_are : (label : Label) → HasLabel image label → 64 * label.cylinders ≡ length image → AreGrounds image label
  grounds_are label has size = record {
    has = has;
    size = size;
    maps = some_entry;
    own = λ n e here. let below = map_in_image image n e here in (may_stand n e (omega (arith, below, are.size)) here).own;
    fixed = λ n inside fixed. at n inside fixed (entry_in image n) refl (some_entry n inside);
  }
    where
      at : (n : ℕ) → n < length image → is_fixed n ≡ true → (o : Option MapEntry) → entry_in image n ≡ o → IsSome o → o ≡ Some reserved
      at n inside fixed None is some = cc
      at n inside fixed (Some e) is some = ap Some ((may_stand n e inside is).fixed fixed)

-- ---- a map that was read from a disk

pub map_is : {D : Type 0} (g : Ghosts D) (d : D) (image : Image) (c : ℕ) (map : List MapEntry) → Stores g d image → (Tells g d → IsMapOf (g.content d) (64 * c) map) → IsMap map × (block_at image (64 * c) ≡ map_spelling map)
map_is g d image c map stored read =
    let is = read stored.tells in
    let at : map_of (64 * c) ≡ 64 * c = omega arith in
    (is.is_map, (λ i. block_at (sym stored.content i) (sym at i)) ∙ is.spelled)

pub no_map : {D : Type 0} (g : Ghosts D) (d : D) (image : Image) (c : ℕ) (f : Damage) → Stores g d image → 64 * c + 64 ≤ length image → IsNoMap g d (64 * c) f → IsFaultOf image f
no_map g d image c f stored inside is =
    let at : map_of (64 * c) ≡ 64 * c = omega arith in
    let bad = subst (λ (i : Image). IsBadMap i (64 * c)) stored.content (is.bad stored.tells) in
    let block = is.block ∙ at in
    let code = is.code in
    subst (IsFaultOf image) (λ i. record { block = sym block i; code = sym code i }) (no_map_fault image c inside bad)

-- a list of maps gets one more
pub one_more_map : (P : ℕ → List MapEntry → Type 0) (maps more : List (List MapEntry)) (c : ℕ) (map : List MapEntry) → more ≡ maps ++ map ∷ [] → length maps ≡ c
    → ((j : ℕ) → j < c → P j (get_or maps j [])) → P c map → (j : ℕ) → j < c + 1 → P j (get_or more j [])
one_more_map P maps more c map is long each new j less = elim (cases_lt j c) [
  | inl before ↦
      let inside : j < length maps = omega (arith, long, before) in
      subst (P j) (sym (ap (λ (ms : List (List MapEntry)). get_or ms j []) is ∙ get_or_append_left maps (map ∷ []) [] j inside)) (each j before)
  | inr last ↦
      let here : j ≡ length maps = omega (arith, long, last, less) in
      let place : c ≡ j = omega (arith, long, last, less) in
      subst (P j) (sym (ap (λ (ms : List (List MapEntry)). get_or ms j []) is ∙ ap (λ (k : ℕ). get_or (maps ++ map ∷ []) k []) here ∙ get_or-append_seam maps map [] []))
      (subst (λ (k : ℕ). P k map) place new)
]
