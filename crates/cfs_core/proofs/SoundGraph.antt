-- What a sound image of blocks reads as is a well-formed graph.
use Rattle.std.proofs.Common.{◌≡◌, ◌≢◌, ◌⊎◌, inl, inr, ℕ, suc, ◌+◌, ◌*◌, ◌/◌, ◌%◌, ◌<◌, ◌≤◌, List, [], ◌∷◌, length, get_or, refl, sym, ◌∙◌, ap, subst, arith, Bool, true, false, cond, not, Option, Some, None, is_some, ◌==◌, is_none, is_lt, is_eq, Ordering, Less, Equal, Greater}
use Rattle.cfs_core.proofs.Words.{absent_byte, all_among, all_filter, all_numbers, all_pairs, and_from, and_parts, AreBlocks, block_at, blocks_differ, byte_may_stand, each_among, each_from, eq-eqb, eqb-true, false_from_ne_true, File, file_to_leaves, found, GivesFile, GivesIndex, Graph, graph_pairs, has_number, Held, held-rise, held_byte, held_in, held_is, Holds, ids_of, Image, Index}
use Rattle.cfs_core.proofs.Words.{index_to_leaves, is_among, is_object, is_root_index, is_there, is_there-ids, IsGraph, IsSoundAs, IsTree, keys_of, le-leb, leaf_content, leaf_in, leaves_in, list_all, lt-ltb, ne_eqb, Object, object_at, object_there, or_left, or_right, part_at, part_of, Puid, puid_cmp, range_with_len, ReadsAs, reserved, rises, same_block, same_puid, same_slot, slot_get, slot_in, slot_may_stand, source, to_held, tree_in}
use Rattle.ufs_model.specs.declared.object.Object.TheVariants as objects
use Rattle.ufs_model.proofs.Reached.{same_puid_is, same_puid_itself}
use Rattle.ufs_model.specs.Limits.{most_bytes, most_slots}
use Rattle.vol_image.specs.Sight.{sight}

-- ---- one object

-- each passes by its place
each_place : {A : Type 0} (test : ℕ → A → Bool) (d : A) (xs : List A) → ((k : ℕ) → k < length xs → test k (get_or xs k d) ≡ true) → each_from test 0 xs ≡ true
each_place {A} test d xs all = from 0 xs (λ n k is below. subst (λ (m : ℕ). test m (get_or xs k d) ≡ true) (omega (arith, is)) (all k below))
  where
    from : (at : ℕ) (ys : List A) → ((n k : ℕ) → at + k ≡ n → k < length ys → test n (get_or ys k d) ≡ true) → each_from test at ys ≡ true
    from at [] all = refl
    from at (y ∷ ys) all =
        and_from (test at y) (each_from test (at + 1) ys) (all at 0 (omega arith) (omega arith)) (from (at + 1) ys (λ n k is below. all n (suc k) (omega (arith, is)) (omega (arith, below))))

module _ (image : Image) (blocks : AreBlocks image) (id : Puid) (o : Object) (reads : ReadsAs (length image) id (sight image id.block) o) where
  abbrev leaf : ℕ → Option Held
  leaf n = leaf_in (tree_in image (block_at image (source image id.block))) n

  abbrev size : ℕ
  size = reads.source.size

  abbrev fill : ℕ
  fill = reads.source.fill

  tree : IsTree (length image) id.block (tree_in image (block_at image (source image id.block))) reads.source o
  unfolding sight
  tree = reads.tree

  -- leaves that are held lie within the size
  all_held : (test : ℕ → Bool) → ((n : ℕ) → n < leaves_in size → test n ≡ true) → list_all test (held_in reads.source leaf) ≡ true
  all_held test each = all_filter test (λ n. is_some (leaf n)) (range_with_len 0 (leaves_in size)) (all_numbers test 0 (leaves_in size) (λ n from below. each n (omega (arith, below))))

  -- a byte of a leaf is one, and the fill byte where the leaf isn't held
  leaf_byte_is : (n i : ℕ) → i < 512 → (h : Option Held) → leaf n ≡ h → (get_or (leaf_content fill h) i 0 < 256) × ((is_some h ≡ true) ⊎ (get_or (leaf_content fill h) i 0 ≡ fill))
  leaf_byte_is n i small None is = let e = absent_byte fill i small in (omega (arith, e, tree.spelled.good.0.fill), inr e)
  leaf_byte_is n i small (Some h) is =
      let content : h.content ≡ block_at image h.block = subst (λ (x : Held). x.content ≡ block_at image x.block) (sym (held_is image _ h is).0) refl in
      let block = blocks h.block (tree.on_disk _ h is) in
      let inside : i < length h.content = omega (arith, small, ap length content, block.long) in
      (omega (arith, held_byte fill h i small inside, ap (λ (c : List ℕ). get_or c i 0) content, block.bytes i), inl refl)

  file_whole : (f : File) → o ≡ objects.File f → is_object (objects.File f) ≡ true
  file_whole f is = and_from _ _ (and_from _ _ (and_from _ _ (and_from _ _ (le-leb (length f.bytes) most_bytes (omega (arith, gives.size, tree.spelled.good.1.size.limit)))
      (lt-ltb f.fill 256 (omega (arith, gives.fill, tree.spelled.good.0.fill)))) (rw gives.held (held-rise reads.source leaf)))
      (rw gives.held (all_held _ (λ n below. lt-ltb n (leaves_in (length f.bytes)) (omega (arith, below, gives.size)))))) (each_place (byte_may_stand f) 0 f.bytes byte)
    where
      gives : GivesFile reads.source leaf f
      gives = file_to_leaves reads.source leaf f (tree.object ∙ is)

      byte : (k : ℕ) → k < length f.bytes → byte_may_stand f k (get_or f.bytes k 0) ≡ true
      byte k below =
          let less : k < size = omega (arith, below, gives.size) in
          let at = leaf_byte_is (k / 512) (k % 512) (omega arith) (leaf (k / 512)) refl in
          and_from _ _ (lt-ltb (get_or f.bytes k 0) 256 (omega (arith, gives.bytes k less, at.0))) (elim at.1 [
            | inl some ↦ or_right _ (has_number (k / 512) f.held) (rw gives.held (to_held reads.source leaf (k / 512) some (omega (arith, less))))
            | inr same ↦ or_left _ _ (eq-eqb (get_or f.bytes k 0) f.fill (gives.bytes k less ∙ same ∙ sym gives.fill))
          ])

  index_whole : (i : Index) → o ≡ objects.Index i → is_object (objects.Index i) ≡ true
  index_whole i is = and_from _ _ (and_from _ _ (and_from _ _ (and_from _ _ (ap not (ne_eqb (length i.slots) 0 (λ none. absurd (omega (arith, none, gives.size, sizes.0)))))
      (le-leb (length i.slots) most_slots (omega (arith, gives.size, tree.spelled.good.1.size.limit)))) (rw gives.held (held-rise reads.source leaf)))
      (rw gives.held (all_held _ (λ n below. lt-ltb (n * 64) (length i.slots) (omega (arith, below, gives.size, sizes.1)))))) (each_place (slot_may_stand i) None i.slots slot)
    where
      gives : GivesIndex reads.source leaf i
      gives = index_to_leaves reads.source leaf i (tree.object ∙ is)

      sizes : (8 ≤ size) × (size % 8 ≡ 0)
      sizes = tree.spelled.good.1.size.slots gives.kind

      none_in : (s : ℕ) → s < 64 → slot_in (leaf_content fill None) s ≡ None
      none_in s small = same_slot (leaf_content fill None) [] s 0 (λ b few. absent_byte fill (8 * s + b) (omega (arith, small, few)) ∙ tree.spelled.good.1.fill gives.kind)

      of_leaf : (s : ℕ) → s < size / 8 → (h : Option Held) → leaf (s / 64) ≡ h → slot_may_stand i s (slot_in (leaf_content fill h) (s % 64)) ≡ true
      of_leaf s below None none = or_left _ _ (ap is_none (none_in (s % 64) (omega arith)))
      of_leaf s below (Some h) here = or_right _ (has_number (s / 64) i.held) (rw gives.held (to_held reads.source leaf (s / 64) (ap is_some here) (omega (arith, below))))

      slot : (s : ℕ) → s < length i.slots → slot_may_stand i s (get_or i.slots s None) ≡ true
      slot s below =
          let less : s < size / 8 = omega (arith, below, gives.size) in
          subst (λ (what : Option Puid). slot_may_stand i s what ≡ true) (sym (gives.slots s less) ∙ slot_get i.slots s) (of_leaf s less (leaf (s / 64)) refl)

object_whole : (image : Image) → AreBlocks image → (id : Puid) (o : Object) → ReadsAs (length image) id (sight image id.block) o → is_object o ≡ true
object_whole image blocks id (objects.File f) reads = file_whole image blocks id (objects.File f) reads f refl
object_whole image blocks id (objects.Index i) reads = index_whole image blocks id (objects.Index i) reads i refl

-- ---- lists of identifiers that rise

above_is_other : (k x : Puid) → is_lt (puid_cmp k x) ≡ true → k ≢ x
above_is_other k x less same = at (puid_cmp k k) (subst (λ (y : Puid). is_lt (puid_cmp k y) ≡ true) (sym same) less) (same_puid_itself k)
  where
    at : (r : Ordering) → is_lt r ≡ true → is_eq r ≡ true → ⊥
    at Less lt eq = cc
    at Equal lt eq = cc
    at Greater lt eq = cc

-- what passes by its identifier passes in the list
each_object : (test : Object → Bool) (root : Puid) (es : List (Puid × Object)) → rises (keys_of es) ≡ true → ((x : Puid) (o : Object) → found x es ≡ Some o → test o ≡ true) → list_all (λ e. test e.1) es ≡ true
each_object test root [] up all = refl
each_object test root (e ∷ es) up all =
    let two = and_parts _ (rises (keys_of es)) up in
    and_from (test e.1) _ (all e.0 e.1 (ap (λ (b : Bool). cond b (Some e.1) (found e.0 es)) (same_puid_itself e.0))) (each_object test root es two.1 (λ x o at.
    let there : is_among x (keys_of es) ≡ true = sym (is_there-ids (record { root = root; objects = es }) x) ∙ ap is_some at in
    let apart : same_puid x e.0 ≡ false = false_from_ne_true _ (λ same. above_is_other e.0 x (each_among (λ y. is_lt (puid_cmp e.0 y)) x (keys_of es) two.0 there) (sym (same_puid_is x e.0 same))) in
    all x o (ap (λ (b : Bool). cond b (Some e.1) (found x es)) apart ∙ at)))

-- identifiers with blocks of their own, none of them 0
differ : (ids : List Puid) → rises ids ≡ true → ((x : Puid) → is_among x ids ≡ true → x.block ≢ 0) → ((x y : Puid) → is_among x ids ≡ true → is_among y ids ≡ true → x.block ≡ y.block → x ≡ y) → blocks_differ ids ≡ true
differ [] up some one = refl
differ (k ∷ ids) up some one =
    let two = and_parts _ (rises ids) up in
    let here : is_among k (k ∷ ids) ≡ true = or_left _ _ (same_puid_itself k) in
    and_from _ (blocks_differ ids) (and_from _ _ (ap not (ne_eqb k.block 0 (some k here))) (all_among (λ x. not (x.block == k.block)) ids (λ x there.
    ap not (false_from_ne_true _ (λ same. above_is_other k x (each_among (λ y. is_lt (puid_cmp k y)) x ids two.0 there) (sym (one x k (later x there) here (eqb-true x.block k.block same))))))))
    (differ ids two.1 (λ x there. some x (later x there)) (λ x y in_x in_y. one x y (later x in_x) (later y in_y)))
  where
    later : (x : Puid) → is_among x ids ≡ true → is_among x (k ∷ ids) ≡ true
    later x there = or_right (same_puid x k) _ there

-- ---- the graph

-- block 0 is a map's, and no root's
pub root_some : (image : Image) (g : Graph) (x : Puid) (o : Object) → Holds image g → object_at g x ≡ Some o → x.block ≢ 0
unfolding sight
root_some image g x o holds at none =
    let part = (holds.objects x o at).part in
    let label = holds.label in
    let fixed = holds.fixed 0 (omega (arith, label.size_is, label.is_label.some)) refl in
    let here : part_of (Some reserved) ≡ Some part.is = sym (ap part_of fixed) ∙ subst (λ (n : ℕ). part_at image n ≡ Some part.is) none part.here in
    let place = part.place_is in
    cc

pub sound_graph : (image : Image) (g : Graph) → AreBlocks image → IsSoundAs image g → IsGraph g
sound_graph image g blocks sound = and_from _ _ (and_from _ _ (and_from _ _ (and_from _ _ sound.graph.ordered (differ (ids_of g) sound.graph.ordered some one)) root)
    (all_pairs (λ _. is_there g) (graph_pairs g) sound.graph.closed)) (each_object is_object g.root g.objects sound.graph.ordered (λ x o at. object_whole image blocks x o (sound.holds.objects x o at)))
  where
    object : (x : Puid) → is_among x (ids_of g) ≡ true → (o : Object) × (object_at g x ≡ Some o)
    object x there = object_there g x (is_there-ids g x ∙ there)

    some : (x : Puid) → is_among x (ids_of g) ≡ true → x.block ≢ 0
    some x there = let o = object x there in root_some image g x o.0 sound.holds o.1

    one : (x y : Puid) → is_among x (ids_of g) ≡ true → is_among y (ids_of g) ≡ true → x.block ≡ y.block → x ≡ y
    one x y in_x in_y = let o = object x in_x in let p = object y in_y in same_block image (length image) x y o.0 p.0 (sound.holds.objects x o.0 o.1) (sound.holds.objects y p.0 p.1)

    root : is_root_index (object_at g g.root) ≡ true
    root = let index = sound.graph.root in ap is_root_index index.1 ∙ eq-eqb (length index.0.slots) 64 index.2
