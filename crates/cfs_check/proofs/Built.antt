-- The image that mending makes of one whose faults are of entries alone, where no block is used twice.
use Rattle.std.proofs.Common.{◌≡◌, ◌≢◌, ◌⊎◌, inl, inr, ℕ, zero, suc, ◌+◌, ◌*◌, ◌/◌, ◌%◌, ◌<◌, ◌≤◌, ◌^◌, Bool, true, false, ◌==◌, ◌&&◌, if◌then◌else◌, nat_lt, nat_le, List, [], ◌∷◌, ◌++◌, length, map, get_or, Option, Some, None, is_some, refl, sym, ◌∙◌, ap, subst, arith, length-append}
use Rattle.std.proofs.Math.Nat.{mul_assoc}
use Rattle.std.proofs.lemmas.Bool.{cases_eq, cases_lt}
use Rattle.std.proofs.lemmas.Bool.Decides.{nat_tests}
use Rattle.std.proofs.lemmas.List.{ext_get_or, get_or_past}
use Rattle.std.proofs.lemmas.List.Elements.{All-from_get_or}
use Rattle.std.proofs.lemmas.List.FromFn.{get_or-map-range_with_len, length-map-range_with_len}
use Rattle.std.proofs.lemmas.Option.{slice_get-get_or}
use Rattle.std.specs.List.{Contains, range_with_len}
use Rattle.std.specs.Prelude.{IsSome, slice_get}
use Rattle.cfs_base.specs.Disk.{Image, block_at}
use Rattle.cfs_base.specs.declared.identifier.Puid.{Puid}
use Rattle.cfs_base.specs.declared.kind.Place.{Place}
use Rattle.cfs_base.specs.declared.kind.Place.TheVariants as places
use Rattle.block_tree.specs.Pointers.{Level, leaf_pointers, levels_below, node_levels, node_pointers, width}
use Rattle.block_tree.specs.Root.{IsRootBlock}
use Rattle.block_tree.specs.Tree.{tree_of}
unfoldable use Rattle.block_tree.specs.Tree.{levels_of}
use Rattle.block_tree.specs.declared.root.Root.{Root}
use Rattle.cyl_map.proofs.Entries.{of_table}
use Rattle.cyl_map.proofs.Maps.{entries_read}
use Rattle.cyl_map.specs.Entry.{IsEntry, row}
use Rattle.cyl_map.specs.Map.{IsMap, entry_at}
use Rattle.cyl_map.specs.Volume.{map_of}
unfoldable use Rattle.cyl_map.specs.Volume.{entry_in}
use Rattle.cyl_map.specs.declared.entry.MapEntry.{MapEntry}
use Rattle.cyl_map.specs.declared.state.BlockState.TheVariants.{Free, Allocated}
use Rattle.ufs_model.specs.Numbers.{has_number}
use Rattle.vol_image.proofs.Parts.{is_inner, not_root, place_inner}
use Rattle.vol_image.specs.Fault.{AsRoot, IsReachedIn, IsUsed, NamesRoot, Next, TheRoot, shown_root, shown_tree}
use Rattle.vol_image.specs.Part.{is_fixed}
use Rattle.vol_image.specs.Seen.{Held, place_above, place_at}
use Rattle.cfs_recover.proofs.Objects as found
use Rattle.cfs_check.specs.Items.{IsItemOf, IsUseOf, Item, ItemUses, ItsRoot, ItsTwig}
use Rattle.cfs_check.specs.Twigs.{IsShownBy, Twig, twigs_of}
unfoldable use Rattle.cfs_check.specs.Repair.{entries_below, mended}
use Rattle.cfs_check.specs.Repair.{AreMapUses, mended_block, mended_entries, mended_entry, mended_map}
use Rattle.cfs_check.specs.Sized.{AreSized}
use Rattle.cfs_check.specs.Surveyed.{IsWholeSurvey}
use Rattle.cfs_check.specs.Uses.{Use}
use Rattle.cfs_check.specs.declared.survey.Survey.{Survey}
use Rattle.cfs_check.specs.declared.uses.Use.TheVariants as uses
use Rattle.cfs_check.proofs.Placed.{twigs_placed}
use Rattle.cfs_check.proofs.Reading.{HasGoodRoots, its_right, its_shown, object_of, root_of}
use Rattle.cfs_check.proofs.Right.{IsRight}
use Rattle.cfs_check.proofs.Whole.{root_some}

-- ---- places of trees are those of the table

width_both : (above under : List Level) → width (above ++ under) ≡ width above * width under
width_both [] under = omega arith
width_both (l ∷ above) under = ap (λ (n : ℕ). l.count * n) (width_both above under) ∙ sym (mul_assoc l.count (width above) (width under))

width_some : (h : ℕ) → 1 ≤ width (levels_below h)
width_some zero = omega arith
width_some (suc h) = let rest = width_some h in omega (arith, rest)

-- a block with this number above so many levels, of all that a root may lead to
abbrev FitsAbove : ℕ → ℕ → Type 0
FitsAbove h n = (h ≡ 0 → n ≤ 15359) × (h ≢ 0 → n ≤ 119)

fits_above : (h n w : ℕ) → n < w → w * width (levels_below h) ≡ 15360 → FitsAbove h n
fits_above zero n w below whole = (λ is. omega (arith, below, whole), λ other. absurd (other refl))
fits_above (suc h) n w below whole =
    let some = width_some h in
    let wide : w * (leaf_pointers.count * width (levels_below h)) ≡ leaf_pointers.count * (w * width (levels_below h)) = omega arith in
    (λ is. absurd (omega (arith, is)), λ other. small (width (levels_below h)) some (omega (arith, whole, wide)))
  where
    small : (v : ℕ) → 1 ≤ v → 128 * (w * v) ≡ 15360 → n ≤ 119
    small zero some is = absurd (omega (arith, some))
    small (suc v) some is = let more : w * suc v ≡ w + w * v = omega arith in omega (arith, is, more, below)

-- an entry of the table
entry_by : (owner : ℕ) (h n : ℕ) → 0 < owner → owner < 2 ^ 32 → FitsAbove h n → IsEntry (mended_entry (uses.By owner (place_above (levels_below h) n)))
entry_by owner zero n some small fits =
    let number : n ≤ 15359 = fits.0 refl in
    of_table 4 (row Free Allocated None false false) (mended_entry (uses.By owner (places.Leaf n))) (omega arith) (grind (arith, nat_tests))
entry_by owner (suc h) n some small fits =
    let number : n ≤ 119 = fits.1 (λ none. omega (arith, none)) in
    of_table 3 (row Free Allocated None false false) (mended_entry (uses.By owner (places.Node n))) (omega arith) (grind (arith, nat_tests))

root_entry : (owner : ℕ) → 0 < owner → owner < 2 ^ 32 → IsEntry (mended_entry (uses.By owner places.Root))
root_entry owner some small = of_table 1 (row Free Allocated None false false) (mended_entry (uses.By owner places.Root)) (omega arith) (grind (arith, nat_tests))

-- a block of a tree is no root block's place
no_root_place : (h n : ℕ) → place_above (levels_below h) n ≢ places.Root
no_root_place zero n is = cc
no_root_place (suc h) n is = cc

module _ (image : Image) (whole : AreSized image) (long : 3 ≤ length image) (few : length image < 2 ^ 32) (s : Survey) (w : IsWholeSurvey image s) where
  abbrev use_of : ℕ → Use
  use_of n = get_or s.uses n uses.Free

  -- ---- what a use says is an entry

  twig_entry : (id : Puid) (root : Root) (t : Twig) → IsReachedIn image id → IsShownBy image id.block root → Contains (twigs_of image id.block root) t → IsEntry (mended_entry (uses.By t.spot.owner t.spot.place))
  unfolding levels_of
  twig_entry id root t reached shown has =
      let at = twigs_placed image id root reached shown t has in
      let it = at.it in
      let ground = root_some image long id reached in
      let wide : width (levels_of (shown_root image at.has.from.read.id.block)) ≡ width (at.has.from.above ++ at.has.from.level ∷ []) * width (levels_below it.height) =
      ap width (found.whole image id.block root it at.has) ∙ width_both (at.has.from.above ++ at.has.from.level ∷ []) (levels_below it.height) in
      let fits = fits_above it.height it.number (width (at.has.from.above ++ at.has.from.level ∷ [])) (found.small image id.block root it at.has) (sym wide) in
      let entry = entry_by id.block it.height it.number ground.0 (omega (arith, ground.1, few)) fits in
      subst (λ (u : Twig). IsEntry (mended_entry (uses.By u.spot.owner u.spot.place))) (sym at.is) entry

  item_entry : (i : Item) → IsItemOf image i → (owner n : ℕ) (place : Place) → ItemUses image i owner place n → IsEntry (mended_entry (uses.By owner place))
  item_entry i (ItsRoot id reached) owner n place its =
      let at = root_some image long id reached in
      subst (λ (p : Place). IsEntry (mended_entry (uses.By owner p))) (sym its.1) (root_entry owner (omega (arith, its.0, at.0)) (omega (arith, its.0, at.1, few)))
  item_entry i (ItsTwig id root t reached shown has) owner n place its =
      subst (λ (p : Place). IsEntry (mended_entry (uses.By owner p))) (sym its.2) (subst (λ (r : ℕ). IsEntry (mended_entry (uses.By r t.spot.place))) (sym its.1) (twig_entry id root t reached shown has))

  use_entry : (n : ℕ) (u : Use) → IsUseOf image w.items n u → IsEntry (mended_entry u)
  use_entry n uses.Free is = record { in_table = refl }
  use_entry n uses.Fixed is = record { in_table = refl }
  use_entry n (uses.By r p) is = item_entry is.1.item (w.only is.1.item is.1.its) r n p is.1.uses
  use_entry n uses.Twice is = record { in_table = refl }

  pub entry_ok : AreMapUses s.uses
  entry_ok n = elim (cases_lt n (length image)) [
    | inl below ↦ use_entry n (use_of n) (w.found.uses n below)
    | inr past ↦ subst (λ (u : Use). IsEntry (mended_entry u)) (sym (get_or_past s.uses n uses.Free (omega (arith, past, w.found.size)))) (record { in_table = refl })
  ]

  -- ---- the image

  abbrev b : Image
  b = mended image s.roots.blocks s.uses

  pub same_size : length b ≡ length image
  unfolding mended
  same_size = length-map-range_with_len (mended_block image s.roots.blocks s.uses) 0 (length image)

  pub block_is : (n : ℕ) → n < length image → block_at b n ≡ mended_block image s.roots.blocks s.uses n
  unfolding mended
  block_is n below = get_or-map-range_with_len (mended_block image s.roots.blocks s.uses) 0 (length image) n n [] below (omega arith)

  pub map_is : (j : ℕ) → 64 * j < length image → block_at b (64 * j) ≡ mended_map s.uses j
  map_is j below =
      let test : (64 * j % 64 == 0) ≡ true = grind (arith, nat_tests) in
      let same : 64 * j / 64 ≡ j = omega arith in
      block_is (64 * j) below ∙ ap (λ (t : Bool). if t then mended_map s.uses (64 * j / 64) else (if has_number (64 * j) s.roots.blocks then shown_root image (64 * j) else block_at image (64 * j))) test ∙ ap (mended_map s.uses) same

  no_map : (n : ℕ) → n % 64 ≢ 0 → (n % 64 == 0) ≡ false
  no_map n apart = grind (arith, nat_tests)

  pub root_is : (n : ℕ) → n < length image → n % 64 ≢ 0 → has_number n s.roots.blocks ≡ true → block_at b n ≡ shown_root image n
  root_is n below apart has =
      block_is n below ∙ ap (λ (t : Bool). if t then mended_map s.uses (n / 64) else (if has_number n s.roots.blocks then shown_root image n else block_at image n)) (no_map n apart)
      ∙ ap (λ (t : Bool). if t then shown_root image n else block_at image n) has

  pub other_is : (n : ℕ) → n % 64 ≢ 0 → has_number n s.roots.blocks ≡ false → block_at b n ≡ block_at image n
  other_is n apart none = elim (cases_lt n (length image)) [
    | inl below ↦
        block_is n below ∙ ap (λ (t : Bool). if t then mended_map s.uses (n / 64) else (if has_number n s.roots.blocks then shown_root image n else block_at image n)) (no_map n apart)
        ∙ ap (λ (t : Bool). if t then shown_root image n else block_at image n) none
    | inr past ↦ get_or_past b n [] (omega (arith, past, same_size)) ∙ sym (get_or_past image n [] past)
  ]

  -- ---- its entries

  pub is_map : (j : ℕ) → IsMap (mended_entries s.uses j)
  unfolding entries_below
  is_map j = record {
    long = length-map-range_with_len (λ k. mended_entry (use_of (64 * j + k))) 0 64;
    each = All-from_get_or IsEntry (map (λ k. mended_entry (use_of (64 * j + k))) (range_with_len 0 64)) (mended_entry uses.Free)
        (λ k below. subst IsEntry (sym (get_or-map-range_with_len (λ i. mended_entry (use_of (64 * j + i))) 0 64 k k (mended_entry uses.Free) (omega (arith, below, length-map-range_with_len (λ i. mended_entry (use_of (64 * j + i))) 0 64)) (omega arith))) (entry_ok (64 * j + k)));
  }

  entry_of_map : (j k : ℕ) → k < 64 → slice_get (mended_entries s.uses j) k ≡ Some (mended_entry (use_of (64 * j + k)))
  unfolding entries_below
  entry_of_map j k below =
      let es : List MapEntry = map (λ i. mended_entry (use_of (64 * j + i))) (range_with_len 0 64) in
      slice_get-get_or es k (mended_entry uses.Free) (omega (arith, below, length-map-range_with_len (λ i. mended_entry (use_of (64 * j + i))) 0 64))
      ∙ ap Some (get_or-map-range_with_len (λ i. mended_entry (use_of (64 * j + i))) 0 64 k k (mended_entry uses.Free) below (omega arith))

  pub entry_is : (n : ℕ) → n < length image → length image % 64 ≡ 0 → entry_in b n ≡ Some (mended_entry (use_of n))
  unfolding entry_in
  entry_is n below round =
      let j = n / 64 in
      let k = n % 64 in
      let same : 64 * j + k ≡ n = omega arith in
      let inside : 64 * j < length image = omega (arith, below) in
      entries_read (block_at b (64 * j)) (mended_entries s.uses j) (is_map j) (map_is j inside) k (omega arith) ∙ entry_of_map j k (omega arith) ∙ ap (λ (m : ℕ). Some (mended_entry (use_of m))) same
