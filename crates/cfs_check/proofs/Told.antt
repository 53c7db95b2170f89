-- Once every rooted object was looked at: what is wrong with what was looked at are the faults of the volume.
use Rattle.std.proofs.Common.{◌≡◌, ◌≢◌, ◌⊎◌, inl, inr, ℕ, zero, suc, ◌+◌, ◌*◌, ◌/◌, ◌%◌, ◌<◌, ◌≤◌, Bool, true, false, if◌then◌else◌, List, [], ◌∷◌, ◌++◌, length, get_or, slice_get, Some, None, Option, unwrap_or, refl, sym, ◌∙◌, ap, subst, arith, filter}
use Rattle.std.proofs.lemmas.Option.{slice_get_within}
use Rattle.std.specs.List.{Contains, range_with_len}
use Rattle.cfs_base.specs.Codes as codes
use Rattle.cfs_base.specs.Disk.{Image, block_at}
use Rattle.cfs_base.specs.declared.identifier.Puid.{Puid}
use Rattle.cfs_base.specs.declared.kind.Kind.TheVariants as kinds
use Rattle.cfs_base.specs.declared.kind.Place.{Place}
use Rattle.cfs_base.specs.declared.kind.Place.TheVariants as places
use Rattle.block_tree.specs.Pointers.{leaf_pointers, levels_below}
use Rattle.block_tree.specs.Tree.{levels_of, path_to, pointer, tree_of}
use Rattle.block_tree.specs.declared.root.Root.{Root}
use Rattle.cyl_map.specs.Volume.{entry_in}
use Rattle.leaf_changes.proofs.Contents.{content_is}
use Rattle.leaf_changes.proofs.Given.{index_to_leaves}
use Rattle.ufs_model.proofs.Rising.{in_filter, in_numbers, to_filter, to_numbers}
use Rattle.ufs_model.specs.Numbers.{has_number}
use Rattle.ufs_model.specs.Object.{leaves_in}
use Rattle.ufs_model.specs.declared.object.Index.{Index}
use Rattle.ufs_model.specs.declared.object.Object.{Object}
use Rattle.ufs_model.specs.declared.object.Object.TheVariants as objects
use Rattle.vol_image.proofs.Views.{held_is}
use Rattle.vol_image.specs.Fault.{AsRoot, Fault, HasLeaf, InTree, IsReachedIn, IsUsed, NamesNothing, ObjectFault, Shows, has_own_bit, holder, shown_root, shown_tree}
unfoldable use Rattle.vol_image.specs.Fault.{standing}
use Rattle.vol_image.specs.Part.{BelongsTo, part_at, stands_for}
use Rattle.vol_image.specs.Reading.{leaf_content, leaf_in, slot_in}
use Rattle.vol_image.specs.Seen.{Held, held_at, place_above, place_at}
use Rattle.cfs_recover.proofs.Named.{named_nothing}
use Rattle.cfs_recover.proofs.Objects as found
use Rattle.cfs_recover.specs.Checks.{SpotFault}
use Rattle.cfs_recover.specs.Entries.{damage}
use Rattle.cfs_recover.specs.Walk.{HasBlock}
use Rattle.cfs_recover.specs.declared.walk_below.Twig as walked
use Rattle.cfs_check.specs.Findings.{HasBadName, IsLeafTwig, IsNodeTwig, TwigFault}
use Rattle.cfs_check.specs.Items.{AtRoot, AtTwig, IsFaultIn, IsItemOf, Item, ItemFault, ItsRoot, ItsTwig, RootFault}
use Rattle.cfs_check.specs.Sized.{AreSized}
use Rattle.cfs_check.specs.Surveyed.{IsBadShadow, IsWholeSurvey}
use Rattle.cfs_check.specs.Twigs.{Extent, IsShownBy, Twig, extent_of, twigs_of}
use Rattle.cfs_check.specs.declared.survey.Survey.{Survey}
use Rattle.cfs_check.proofs.Along.{IsTwigAt, held_listed, leaf_listed, node_listed, one_more_place, path_listed}
use Rattle.cfs_check.proofs.Placed.{IsPlacedTwig, twigs_placed}
use Rattle.cfs_check.proofs.Walking.{leaf_level}
use Rattle.cfs_check.proofs.Whole.{all_of, found_all, found_from, root_some, shown_by}

-- ---- shadow roots that stand

pub stands_in : (image : Image) (r s : ℕ) → has_number s (standing image r) ≡ true → (has_own_bit r (part_at image r) ≡ true) × (stands_for r (entry_in image s) ≡ true) × (s < length image)
unfolding standing
stands_in image r s has = at (has_own_bit r (part_at image r)) refl has
  where
    at : (b : Bool) → has_own_bit r (part_at image r) ≡ b → has_number s (if b then filter (λ n. stands_for r (entry_in image n)) (range_with_len 0 (length image)) else []) ≡ true
        → (has_own_bit r (part_at image r) ≡ true) × (stands_for r (entry_in image s) ≡ true) × (s < length image)
    at true on is =
        let two = in_filter (λ n. stands_for r (entry_in image n)) s (range_with_len 0 (length image)) is in
        (on, two.0, let below = (in_numbers s 0 (length image) two.1).1 in omega arith)
    at false off is = cc

to_standing : (image : Image) (r s : ℕ) → has_own_bit r (part_at image r) ≡ true → stands_for r (entry_in image s) ≡ true → s < length image → has_number s (standing image r) ≡ true
unfolding standing
to_standing image r s on stands below =
    subst (λ (b : Bool). has_number s (if b then filter (λ n. stands_for r (entry_in image n)) (range_with_len 0 (length image)) else []) ≡ true) (sym on)
    (to_filter (λ n. stands_for r (entry_in image n)) s (range_with_len 0 (length image)) stands (to_numbers s 0 (length image) (omega arith) (omega (arith, below))))

module _ (image : Image) (long : AreSized image) (some : 3 ≤ length image) where
  -- ---- what is wrong with an item is a fault

  module _ (id : Puid) (reached : IsReachedIn image id) where
    root_is_fault : (code n : ℕ) → RootFault image id.block code n → Fault image code n
    root_is_fault code n (RootFault.NoRoot none) = Fault.InObject id codes.no_root id.block reached (ObjectFault.NoRoot none)
    root_is_fault code n (RootFault.NotOwned none) = Fault.InObject id codes.not_owned id.block reached (ObjectFault.NotOwned places.Root id.block AsRoot none)
    root_is_fault code n (RootFault.TwoShadows two) = Fault.InObject id codes.two_shadows id.block reached (ObjectFault.TwoShadows two)
    root_is_fault code n (RootFault.OtherIndex root two read other) =
        subst (λ (m : ℕ). Fault image codes.names_nothing m) (sym two) (Fault.InObject id codes.names_nothing 2 reached (ObjectFault.NoRootIndex root two read other))

    module _ (root : Root) (it : walked.Twig) (has : HasBlock image id.block root it) where
      abbrev t : Twig
      t = record { spot = record { holder = it.holder; block = it.block; owner = id.block; place = place_above (levels_below it.height) it.number }; extent = extent_of root }

      high : (h n m : ℕ) → place_above (levels_below h) n ≡ places.Node m → h ≢ 0
      high zero n m is = cc
      high (suc h) n m is = λ none. omega (arith, none)

      twig_is_fault : (code n : ℕ) → TwigFault image t code n → Fault image code n
      twig_is_fault code n (TwigFault.PastDisk past) = found.spot_fault image id.block root it has (damage it.holder 4) (SpotFault.PastDisk past)
      twig_is_fault code n (TwigFault.NotOwned (below, other)) = found.spot_fault image id.block root it has (damage it.block 5) (SpotFault.NotOwned below other)
      twig_is_fault code n (TwigFault.BadName (leaf, is, index, bad)) =
          let level = leaf_level it.height it.number leaf is.place in
          let named = found.slots_named image id.block root it has level.0 index is.on_disk (long it.block is.on_disk) bad.slot bad.id (bad.has.small, omega (arith, bad.has.within, level.1), bad.has.is) in
          named_nothing image bad.id it.block named bad.nothing
      twig_is_fault code n (TwigFault.LateLeaf (leaf, is, past)) =
          let level = leaf_level it.height it.number leaf is.place in
          found.late_leaf image id.block root it has level.0 is.on_disk (omega (arith, past, level.1))
      twig_is_fault code n (TwigFault.LateByte (leaf, is, at)) =
          let level = leaf_level it.height it.number leaf is.place in
          found.late_byte image id.block root it has level.0 is.on_disk (at.0, at.1, omega (arith, at.2, level.1), at.3)
      twig_is_fault code n (TwigFault.DeadEnd (is, none)) =
          found.dead_end image id.block root it has (high it.height it.number is.number is.place) is.on_disk none

  item_is_fault : (i : Item) → IsItemOf image i → (code n : ℕ) → ItemFault image i code n → Fault image code n
  item_is_fault i (ItsRoot id reached) code n wrong = root_is_fault id reached code n wrong
  item_is_fault i (ItsTwig id root t reached shown has) code n wrong =
      let at = twigs_placed image id root reached shown t has in
      twig_is_fault id reached root at.it at.has code n (subst (λ (u : Twig). TwigFault image u code n) at.is wrong)

  module _ (s : Survey) (w : IsWholeSurvey image s) where
    pub in_items_is_fault : (code n : ℕ) → IsFaultIn image w.items code n → Fault image code n
    in_items_is_fault code n is = item_is_fault is.item (w.only is.item is.its) code n is.fault

    pub bad_shadow_is_fault : (n : ℕ) → n < length image → IsBadShadow image s.roots.blocks n → Fault image codes.no_root n
    bad_shadow_is_fault n below bad =
        let from = found_from image long s w bad.root bad.is_found in
        Fault.InObject from.0 codes.no_root n from.1
        (subst (λ (r : ℕ). ObjectFault image r codes.no_root n) (sym from.2) (ObjectFault.NoShadow n (to_standing image bad.root n bad.bit bad.stands below) bad.other))

    -- ---- a fault of an object is wrong with one of its items, or with its shadow root

    abbrev IsTold : ℕ → ℕ → Type 0
    IsTold code n = IsFaultIn image w.items code n ⊎ ((code ≡ codes.no_root) × (n < length image) × IsBadShadow image s.roots.blocks n)

    module _ (id : Puid) (reached : IsReachedIn image id) where
      of_root : (code n : ℕ) → RootFault image id.block code n → IsTold code n
      of_root code n wrong = inl (record { item = AtRoot id.block; its = (all_of image long s w id reached).root; fault = wrong })

      of_twig : (root : Root) (o : Object) → Shows image id.block root o → (t : Twig) (path : List ℕ) → IsTwigAt image id.block root t path → (code n : ℕ) → TwigFault image t code n → IsTold code n
      of_twig root o shows t path at code n wrong = inl (record { item = AtTwig t; its = (all_of image long s w id reached).twigs root t (shown_by image id.block root o shows) at.its; fault = wrong })

      -- a leaf
      module _ (root : Root) (o : Object) (leaf : ℕ) (h : Held) (has : HasLeaf image id.block root o leaf h) where
        abbrev its_leaf : (t : Twig) × IsTwigAt image id.block root t (path_to (levels_of (shown_root image id.block)) leaf) × (t.spot.block ≡ h.block) × (block_at image t.spot.block ≡ h.content) × (t.spot.place ≡ places.Leaf leaf)
        its_leaf = leaf_listed image id.block root leaf h has.here

        abbrev u : Twig
        u = its_leaf.0

        is_leaf : IsLeafTwig image u leaf
        is_leaf = record { on_disk = omega (arith, has.on_disk, its_leaf.2); place = its_leaf.4 }

        of_leaf : (code : ℕ) → TwigFault image u code u.spot.block → IsTold code h.block
        of_leaf code wrong = subst (λ (n : ℕ). IsTold code n) its_leaf.2 (of_twig root o has.shows u (path_to (levels_of (shown_root image id.block)) leaf) its_leaf.1 code u.spot.block wrong)

        late_told : leaves_in root.size ≤ leaf → IsTold codes.late_leaf h.block
        late_told past = of_leaf codes.late_leaf (TwigFault.LateLeaf (leaf, is_leaf, subst (λ (e : Extent). leaves_in e.size ≤ leaf) (sym its_leaf.1.extent) past))

        byte_told : (i : ℕ) → i < 512 → root.size ≤ 512 * leaf + i → get_or h.content i 0 ≢ root.fill → IsTold codes.late_byte h.block
        byte_told i below past other = of_leaf codes.late_byte (TwigFault.LateByte (
          leaf,
          is_leaf,
          (i, below, omega (arith, past, ap (λ (e : Extent). e.size) its_leaf.1.extent), λ same. other (ap (λ (c : List ℕ). get_or c i 0) (sym its_leaf.3) ∙ same ∙ ap (λ (e : Extent). e.fill) its_leaf.1.extent)),
        ))

      unwrapped : (slots : List (Option Puid)) (s : ℕ) (x : Puid) → slice_get slots s ≡ Some (Some x) → unwrap_or (slice_get slots s) None ≡ Some x
      unwrapped slots s x is = ap (λ o. unwrap_or o None) is

      slot_told : (x : Puid) (root : Root) (index : Index) (s : ℕ) (h : Held) → HasLeaf image id.block root (objects.Index index) (s / 64) h → slice_get index.slots s ≡ Some (Some x) → NamesNothing image x → IsTold codes.names_nothing h.block
      slot_told x root index s h has slot nothing =
          let l = s / 64 in
          let leaf = leaf_in (shown_tree image id.block) in
          let gives = index_to_leaves root leaf index has.shows.object in
          let at = its_leaf root (objects.Index index) l h has in
          let below = slice_get_within index.slots s (Some x) slot in
          let bytes : leaf_content root.fill (leaf l) ≡ block_at image at.0.spot.block =
          ap (leaf_content root.fill) has.here ∙ content_is root.fill (Some h) (block_at image at.0.spot.block) (ap Some (sym at.3)) (long at.0.spot.block (omega (arith, has.on_disk, at.2)))
          in
          let holds : slot_in (block_at image at.0.spot.block) (s % 64) ≡ Some x =
          ap (λ (c : List ℕ). slot_in c (s % 64)) (sym bytes) ∙ sym (gives.slots s (omega (arith, below, gives.size))) ∙ unwrapped index.slots s x slot
          in
          of_leaf root (objects.Index index) l h has codes.names_nothing (TwigFault.BadName (
            l,
            is_leaf root (objects.Index index) l h has,
            ap (λ (e : Extent). e.kind) at.1.extent ∙ gives.kind,
            record {
              slot = s % 64;
              id = x;
              before = omega arith;
              has = record { small = omega arith; within = omega (arith, below, gives.size, ap (λ (e : Extent). e.size) at.1.extent); is = holds };
              nothing = nothing;
            },
          ))

      owned_told : (place : Place) (n : ℕ) → IsUsed image id.block place n → ¬ BelongsTo id.block place (part_at image n) → IsTold codes.not_owned n
      owned_told place n AsRoot none = of_root codes.not_owned id.block (RootFault.NotOwned none)
      owned_told place n (InTree root o path h shows at below) none =
          let t = held_listed image id.block root path h at in
          subst (λ (m : ℕ). IsTold codes.not_owned m) t.2
          (of_twig root o shows t.0 path t.1 codes.not_owned t.0.spot.block (TwigFault.NotOwned (omega (arith, below, t.2), λ is. none (as_path t.0 h path t.1.owner t.1.place t.2 is))))
        where
          as_path : (t : Twig) (h : Held) (path : List ℕ) → t.spot.owner ≡ id.block → t.spot.place ≡ place_at (levels_of (shown_root image id.block)) path → t.spot.block ≡ h.block → BelongsTo t.spot.owner t.spot.place (part_at image t.spot.block)
              → BelongsTo id.block (place_at (levels_of (shown_root image id.block)) path) (part_at image h.block)
          as_path t h path owner place block is =
              subst (λ (b : ℕ). BelongsTo id.block (place_at (levels_of (shown_root image id.block)) path) (part_at image b)) block
              (subst (λ (p : Place). BelongsTo id.block p (part_at image t.spot.block)) place (subst (λ (r : ℕ). BelongsTo r t.spot.place (part_at image t.spot.block)) owner is))

      past_told : (root : Root) (o : Object) (path : List ℕ) (k : ℕ) → Shows image id.block root o → length image ≤ tree_of image (shown_root image id.block) (path ++ k ∷ []) → IsTold codes.past_disk (holder image id.block path)
      past_told root o path k shows past =
          let t = path_listed image id.block root (path ++ k ∷ []) (λ none. omega (arith, none, past, some)) in
          subst (λ (n : ℕ). IsTold codes.past_disk n) (t.1.holder_is path k refl)
          (of_twig root o shows t.0 (path ++ k ∷ []) t.1 codes.past_disk t.0.spot.holder (TwigFault.PastDisk (omega (arith, past, t.1.block))))

      end_told : (root : Root) (o : Object) (path : List ℕ) (h : Held) → Shows image id.block root o → (shown_tree image id.block).below path ≡ Some h → h.block < length image → length path < length (levels_of (shown_root image id.block))
          → ((k : ℕ) → (shown_tree image id.block).below (path ++ k ∷ []) ≡ None) → IsTold codes.dead_end h.block
      end_told root o path h shows at below short none =
          let n = tree_of image (shown_root image id.block) path in
          let is = held_is image n h at in
          let t = node_listed image id.block root path is.1 short in
          let block : t.0.spot.block ≡ h.block = t.1.block ∙ sym (ap (λ (k : Held). k.block) is.0) in
          subst (λ (m : ℕ). IsTold codes.dead_end m) block
          (of_twig root o shows t.0 path t.1 codes.dead_end t.0.spot.block (TwigFault.DeadEnd (
            record { on_disk = omega (arith, below, block); number = t.2.0; place = t.2.1 },
            λ j. ap (λ (m : ℕ). pointer leaf_pointers (block_at image m) j) t.1.block ∙ sym (one_more_place image id.block root path j is.1 short) ∙ no_held (tree_of image (shown_root image id.block) (path ++ j ∷ [])) (none j),
          )))
        where
          no_held : (n : ℕ) → held_at image n ≡ None → n ≡ 0
          no_held zero is = refl
          no_held (suc n) is = cc

      pub object_told : (code n : ℕ) → ObjectFault image id.block code n → IsTold code n
      object_told code n (ObjectFault.NoRoot none) = of_root codes.no_root id.block (RootFault.NoRoot none)
      object_told code n (ObjectFault.NoShadow m has other) =
          let stands = stands_in image id.block m has in
          inr (refl, stands.2, record { root = id.block; on_disk = (root_some image some id reached).1; is_found = found_all image long s w id reached; bit = stands.0; stands = stands.1; other = other })
      object_told code n (ObjectFault.PastDisk root o path k shows past) = past_told root o path k shows past
      object_told code n (ObjectFault.NotOwned place m used none) = owned_told place m used none
      object_told code n (ObjectFault.SlotNamesNothing x root index s h leaf slot nothing) = slot_told x root index s h leaf slot nothing
      object_told code n (ObjectFault.NoRootIndex root two read other) =
          subst (λ (m : ℕ). IsTold codes.names_nothing m) two (of_root codes.names_nothing id.block (RootFault.OtherIndex root two read other))
      object_told code n (ObjectFault.TwoShadows two) = of_root codes.two_shadows id.block (RootFault.TwoShadows two)
      object_told code n (ObjectFault.PastSize root o leaf h here past) = late_told root o leaf h here past
      object_told code n (ObjectFault.NotFilled root o leaf i h here below past other) = byte_told root o leaf h here i below past other
      object_told code n (ObjectFault.DeadEnd root o path h shows at below short none) = end_told root o path h shows at below short none
