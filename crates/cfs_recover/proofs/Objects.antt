-- A block of an object that is read: where it stands, and which faults of the volume are found in it.
use Rattle.std.proofs.Common.{◌≡◌, ◌≢◌, inl, inr, ℕ, ◌+◌, ◌-◌, ◌*◌, ◌/◌, ◌%◌, ◌<◌, ◌≤◌, false, List, [], ◌∷◌, ◌++◌, length, get_or, Option, Some, None, refl, sym, ◌∙◌, ap, subst, arith, append_assoc, append-nil, length-append}
use Rattle.cfs_recover.proofs.Words.{InTree, AreNamed, BelongsTo, BySlot, Damage, Fault, HasBlock, HasPointers, Image, HasLeaf, IsFaultOf, IsKeptBlock, IsNotFilled, IsShown, IsUsed, Kind, Level, Object, ObjectFault, Place, Puid, Root, Shows, SpotFault, Twig, block_at, cases_lt, content_is, damage, shown_root, digits_below, div-mul-add, end_of, get_or_past, held, held_at, held_there, holder, index_to_leaves, leaf_content, leaf_in, leaf_pointers, leaves_in, length-path_to, levels_below, levels_of, mod-mul-add, nat_tests, node_pointers, nodes_of, part_at, path_more, path_to, place_above, place_at, place_from, pointer, pointers_of, object_shown, shown_tree, slice_get, slot_in, slot_of, some_index, tree_of, unwrap_or, width, width_more}
use Rattle.cfs_base.specs.declared.kind.Kind.TheVariants as kinds
use Rattle.cfs_recover.specs.Reads.{is_leaf_read}
use Rattle.cfs_recover.proofs.Trees.{down, holder_is, length-pointers, one_more, place_on}

-- the pointers of a root are those that its block has
pub root_pointers : (image : Image) (id : Puid) (from : ℕ) (root : Root) → IsShown image id from root → root.nodes ≡ pointers_of node_pointers (shown_root image id.block)
root_pointers image id from root is = nodes_of root is.shows.read.spelled.good.0 ∙ ap (pointers_of node_pointers) (sym is.shows.read.spelled.spelled)

module _ (image : Image) (owner : ℕ) (root : Root) (twig : Twig) (has : HasBlock image owner root twig) where
  abbrev id : Puid
  id = has.from.read.id

  abbrev content : List ℕ
  content = shown_root image id.block

  abbrev object : Object
  object = object_shown image id root

  -- the path that ends at it, and the levels on it
  abbrev path : List ℕ
  path = path_to has.from.above has.at.number ++ has.k ∷ []

  abbrev above : List Level
  above = has.from.above ++ has.from.level ∷ []

  abbrev under : List Level
  under = levels_below twig.height

  block_is : twig.block ≡ get_or has.pointers has.k 0
  block_is = ap (λ (t : Twig). t.block) has.is

  height_is : twig.height ≡ has.at.height
  height_is = ap (λ (t : Twig). t.height) has.is

  number_is : twig.number ≡ has.at.number * has.from.level.count + has.k
  number_is = ap (λ (t : Twig). t.number) has.is ∙ ap (λ (n : ℕ). has.at.number * n + has.k) has.from.count

  of_level : has.k < has.from.level.count
  of_level = elim (cases_lt has.k (length has.pointers)) [
    | inl less ↦ omega (arith, less, has.from.count)
    | inr past ↦ absurd (has.some (block_is ∙ get_or_past has.pointers has.k 0 past))
  ]

  pub small : twig.number < width above
  small = let digits = digits_below has.at.number has.k (width has.from.above) has.from.level.count has.from.inside of_level in omega (arith, digits, number_is, width_more has.from.above has.from.level)

  path_is : path_to above twig.number ≡ path
  path_is =
      let n = has.at.number in
      let c = has.from.level.count in
      ap (path_to above) number_is ∙ path_more has.from.above has.from.level (n * c + has.k) (digits_below n has.k (width has.from.above) c has.from.inside of_level)
      ∙ λ i. path_to has.from.above (div-mul-add n c has.k of_level i) ++ mod-mul-add n c has.k of_level i ∷ []

  pub whole : levels_of content ≡ above ++ under
  whole = has.from.whole ∙ ap (λ (h : ℕ). has.from.above ++ has.from.level ∷ levels_below h) (sym height_is) ∙ sym (append_assoc has.from.above (has.from.level ∷ []) under)

  -- what stands at the end of paths through it
  stands : (rest : List ℕ) → tree_of image content (path ++ rest) ≡ end_of image under twig.block rest
  stands rest =
      ap (tree_of image content) (append_assoc (path_to has.from.above has.at.number) (has.k ∷ []) rest) ∙ has.from.leads has.k rest
      ∙ λ i. end_of image (levels_below (sym height_is i)) (sym block_is i) rest

  here : tree_of image content path ≡ twig.block
  here = ap (tree_of image content) (sym (append-nil path)) ∙ stands []

  is_held : (shown_tree image id.block).below path ≡ Some (held image twig.block)
  is_held = ap (held_at image) here ∙ held_there image twig.block has.some

  pub used : twig.block < length image → IsUsed image id.block (place_at (levels_of content) path) twig.block
  used below = InTree root object path (held image twig.block) has.from.read.shows is_held below

  pub block_kept : twig.block < length image → IsKeptBlock image twig.block
  block_kept below = record { id = id; place = place_at (levels_of content) path; reached = has.from.read.reached; used = used below }

  in_object : (code n : ℕ) → ObjectFault image id.block code n → Fault image code n
  in_object code n wrong = Fault.InObject id code n has.from.read.reached wrong

  pub place_is : place_at (levels_of content) path ≡ place_above under twig.number
  unfolding place_at
  place_is =
      (λ i. place_from 0 (whole i) (sym path_is i)) ∙ place_on above under twig.number 0 small
      ∙ ap (place_above under) (let e : 0 * width above + twig.number ≡ twig.number = omega arith in e)

  pub spot_fault : (d : Damage) → SpotFault image (record { holder = twig.holder; block = twig.block; owner = owner; place = place_above under twig.number }) d → IsFaultOf image d
  spot_fault d (SpotFault.PastDisk past) =
      subst (λ (n : ℕ). Fault image 4 n) (sym (ap (λ (t : Twig). t.holder) has.is ∙ has.from.here))
      (in_object 4 _ (ObjectFault.PastDisk root object (path_to has.from.above has.at.number) has.k has.from.read.shows (omega (arith, past, here))))
  spot_fault d (SpotFault.NotOwned below not) =
      in_object 5 _ (ObjectFault.NotOwned (place_at (levels_of content) path) twig.block (used below)
      (λ (is : BelongsTo id.block (place_at (levels_of content) path) (part_at image twig.block)). not
      (subst (λ (r : ℕ). BelongsTo r (place_above under twig.number) (part_at image twig.block)) (sym has.from.read.owner_is)
      (subst (λ (p : Place). BelongsTo id.block p (part_at image twig.block)) place_is is))))

  -- ---- a node

  module _ (more : twig.height ≢ 0) where
    next : (j : ℕ) (rest : List ℕ) → tree_of image content (path ++ j ∷ rest) ≡ end_of image (levels_below (twig.height - 1)) (pointer leaf_pointers (block_at image twig.block) j) rest
    next j rest = stands (j ∷ rest) ∙ down image twig.height twig.block j rest more has.some

    pub dead_end : twig.block < length image → ((j : ℕ) → pointer leaf_pointers (block_at image twig.block) j ≡ 0) → IsFaultOf image (damage twig.block 10)
    dead_end below none =
        in_object 10 _ (ObjectFault.DeadEnd root object path (held image twig.block) has.from.read.shows is_held below
        (let deep = ap length (whole ∙ ap (λ (ls : List Level). above ++ ls) (one_more twig.height more)) in
        omega (arith, deep, length-append above (leaf_pointers ∷ levels_below (twig.height - 1)), sym (ap length path_is), length-path_to above twig.number))
        (λ j. ap (held_at image) (next j [] ∙ none j)))

    -- its own pointers
    pub node_pointers_of : (leaves : List ℕ) → leaves ≡ pointers_of leaf_pointers (block_at image twig.block) → HasPointers image owner root (record { block = twig.block; number = twig.number; height = twig.height - 1 }) leaves
    node_pointers_of leaves is = record {
      read = has.from.read;
      above = above;
      level = leaf_pointers;
      count = ap length is ∙ length-pointers leaf_pointers (block_at image twig.block);
      whole = whole ∙ ap (λ (ls : List Level). above ++ ls) (one_more twig.height more);
      inside = small;
      leads = λ j rest. ap (λ (p : List ℕ). tree_of image content (p ++ j ∷ rest)) path_is ∙ next j rest ∙ ap (λ (ns : List ℕ). end_of image (levels_below (twig.height - 1)) (get_or ns j 0) rest) (sym is);
      here = sym here ∙ sym (holder_is image id.block (path_to has.from.above has.at.number) has.k) ∙ ap (holder image id.block) (sym path_is);
    }

  -- ---- a leaf

  module _ (last : twig.height ≡ 0) where
    leaf_found : leaf_in (shown_tree image id.block) twig.number ≡ Some (held image twig.block)
    leaf_found =
        let levels : levels_of content ≡ above = whole ∙ ap (λ (h : ℕ). above ++ levels_below h) last ∙ append-nil above in
        ap (shown_tree image id.block).below (ap (λ (ls : List Level). path_to ls twig.number) levels ∙ path_is) ∙ is_held

    its_leaf : twig.block < length image → HasLeaf image id.block root object twig.number (held image twig.block)
    its_leaf below = record { shows = has.from.read.shows; here = leaf_found; on_disk = below }

    pub late_leaf : twig.block < length image → leaves_in root.size ≤ twig.number → IsFaultOf image (damage twig.block 8)
    late_leaf below past = in_object 8 _ (ObjectFault.PastSize root object twig.number (held image twig.block) (its_leaf below) past)

    pub late_byte : twig.block < length image → IsNotFilled root.size root.fill twig.number (block_at image twig.block) → IsFaultOf image (damage twig.block 9)
    late_byte below at = in_object 9 _ (ObjectFault.NotFilled root object twig.number at.0 (held image twig.block) (its_leaf below) at.1 at.2 at.3)

    -- what its slots hold is named by it
    pub slots_named : root.kind ≡ kinds.Index → twig.block < length image → length (block_at image twig.block) ≡ 512 → AreNamed image (block_at image twig.block) root.size twig.number twig.block
    slots_named index below long s x slot =
        let l = twig.number in
        let leaf = leaf_in (shown_tree image id.block) in
        let some = some_index root leaf index in
        let gives = index_to_leaves root leaf some.0 some.1 in
        let eight = (has.from.read.shows.read.spelled.good.1.size.slots index).1 in
        let high : (64 * l + s) / 64 ≡ l = omega (arith, slot.0) in
        let low : (64 * l + s) % 64 ≡ s = omega (arith, slot.0) in
        let found : leaf ((64 * l + s) / 64) ≡ Some (held image twig.block) = ap leaf high ∙ leaf_found in
        let bytes : leaf_content root.fill (leaf ((64 * l + s) / 64)) ≡ block_at image twig.block = ap (leaf_content root.fill) found ∙ content_is root.fill (Some (held image twig.block)) (block_at image twig.block) refl long in
        let holds : slot_of some.0 (64 * l + s) ≡ Some x = gives.slots (64 * l + s) (omega (arith, slot.1, eight)) ∙ (λ i. slot_in (bytes i) (low i)) ∙ slot.2 in
        BySlot id root some.0 (64 * l + s) (held image twig.block) has.from.read.reached
        (subst (λ (p : Object). Shows image id.block root p) some.1 has.from.read.shows)
        (filled (slice_get some.0.slots (64 * l + s)) holds) found below
      where
        filled : (o : Option (Option Puid)) → unwrap_or o None ≡ Some x → o ≡ Some (Some x)
        filled None none = cc
        filled (Some what) is = ap Some is

-- ---- a leaf that isn't read

pub unread_leaf : (kind : Kind) (size leaf : ℕ) → is_leaf_read kind size leaf ≡ false → (kind ≢ kinds.Index) × (512 * leaf + 512 ≤ size)
unread_leaf kinds.Normal size leaf is = (λ index. cc, grind (arith, nat_tests))
unread_leaf kinds.Special size leaf is = (λ index. cc, grind (arith, nat_tests))
unread_leaf kinds.Index size leaf is = cc
