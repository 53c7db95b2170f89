-- Objects that are read by their roots, and new ones, below whose roots nothing stands.
use Rattle.std.proofs.Common.{◌≡◌, ℕ, zero, suc, ◌+◌, ◌*◌, ◌/◌, false, List, [], ◌∷◌, ◌++◌, length, get_or, take, replicate, Option, Some, None, refl, sym, ◌∙◌, ap, subst, arith}
use Rattle.vol_image.proofs.Words.{BelongsTo, Held, Image, IsBareRoot, IsRootBlock, IsTree, Kind, Level, Object, Puid, ReadsAs, Root, Tree, bare_object, block_at, drop-replicate, end_of, filter, first_or, flat_map, from_be_bytes, fun_ext, held_at, is_committed, is_some, leaf_content, leaf_pointers, leaves_in, levels_of, map, new_file, new_index, node_pointers, none-some, number_at, object_with, part_at, path_to, pointer, pointers_of, range_with_len, replicate-append-replicate, shadows, sight, slot_in, source, tree_in, w32}
use Rattle.cfs_base.specs.declared.kind.FileKind.TheVariants as file_kinds
use Rattle.cfs_base.specs.declared.kind.Kind.TheVariants as kinds
use Rattle.block_tree.specs.declared.root.Root as roots
use Rattle.ufs_model.specs.declared.object.Object.TheVariants as objects

-- ---- an object with no commit bit is read by its root

pub no_shadows : (image : Image) (r : ℕ) → is_committed (part_at image r) ≡ false → shadows image r ≡ []
unfolding shadows
no_shadows image r settled = rw settled refl

pub read_by_root : (image : Image) (r : ℕ) (content : List ℕ) → is_committed (part_at image r) ≡ false → block_at image r ≡ content → block_at image (source image r) ≡ content
read_by_root image r content settled there = ap (λ (ss : List ℕ). block_at image (first_or r ss)) (no_shadows image r settled) ∙ there

pub reads_by_root : (image : Image) (id : Puid) (content : List ℕ) (root : roots.Root) (o : Object) → is_committed (part_at image id.block) ≡ false → block_at image id.block ≡ content → IsRootBlock content root → root.word ≡ id.word
    → BelongsTo id.block Root (part_at image id.block) → IsTree (length image) id.block (tree_in image content) root o → ReadsAs (length image) id (sight image id.block) o
unfolding sight
reads_by_root image id content root o settled there spelled word part tree = record {
  part = part;
  root = root;
  spelled = subst (λ (x : List ℕ). IsRootBlock x root) (sym there) spelled;
  word = word;
  one_shadow = rw (no_shadows image id.block settled) (omega arith);
  source = root;
  same_kind = refl;
  same_word = refl;
  tree = subst (λ (t : Tree). IsTree (length image) id.block t root o) (sym (ap (tree_in image) (read_by_root image id.block content settled there))) tree;
}

-- ---- nothing stands below a root with no node

pub get_zero : (n k : ℕ) → ◌≡◌ {A = ℕ} (get_or (replicate n 0) k 0) 0
get_zero zero k = refl
get_zero (suc n) zero = refl
get_zero (suc n) (suc k) = get_zero n k

pub end_none : (image : Image) (levels : List Level) (path : List ℕ) → end_of image levels 0 path ≡ 0
end_none image levels [] = refl
end_none image levels (k ∷ path) = refl

pub below_none : (image : Image) (content : List ℕ) (m : ℕ) → pointers_of node_pointers content ≡ replicate m 0 → (path : List ℕ) → (tree_in image content).below path ≡ None
unfolding levels_of
below_none image content m are [] = refl
below_none image content m are (k ∷ path) =
    let zero_is : pointer node_pointers content k ≡ 0 = ap (λ (x : List ℕ). get_or x k 0) are ∙ get_zero m k in
    ap (λ (n : ℕ). held_at image (end_of image (leaf_pointers ∷ []) n path)) zero_is ∙ ap (held_at image) (end_none image (leaf_pointers ∷ []) path)

pub bare_tree : (image : Image) (size owner : ℕ) (content : List ℕ) (root : roots.Root) (m : ℕ) → pointers_of node_pointers content ≡ replicate m 0 → IsRootBlock content root → IsTree size owner (tree_in image content) root (bare_object root)
bare_tree image size owner content root m are spelled = record {
  spelled = spelled;
  object = ap (λ (f : ℕ → Option Held). object_with root f) (fun_ext (λ n. bare (path_to (levels_of content) n)));
  on_disk = λ path h v. absurd (none-some h (sym (bare path) ∙ v));
  owned = λ path h v. absurd (none-some h (sym (bare path) ∙ v));
  within = λ leaf h v. absurd (none-some h (sym (bare (path_to (levels_of content) leaf)) ∙ v));
  filled = λ leaf i h v below past. absurd (none-some h (sym (bare (path_to (levels_of content) leaf)) ∙ v));
  leads_on = λ path h v inner. absurd (none-some h (sym (bare path) ∙ v));
}
  where
    bare : (path : List ℕ) → (tree_in image content).below path ≡ None
    bare = below_none image content m are

-- a new object reads as one with nothing below its root
pub bare_reads : (image : Image) (id : Puid) (root : roots.Root) → IsBareRoot image id root → ReadsAs (length image) id (sight image id.block) (bare_object root)
bare_reads image id root bare =
    reads_by_root image id (block_at image id.block) root (bare_object root) (ap is_committed bare.part) refl bare.spelled bare.word
    (record { is = record { committed = false; place = Some Root; owner = id.block }; here = bare.part; owner_is = refl; place_is = refl })
    (bare_tree image (length image) id.block (block_at image id.block) root node_pointers.count bare.no_node bare.spelled)

-- ---- an index whose leaves hold zeros alone has empty slots alone

pub length-numbers : (from n : ℕ) → length (range_with_len from n) ≡ n
length-numbers from zero = refl
length-numbers from (suc n) = ap suc (length-numbers (from + 1) n)

first_zero : (m : ℕ) → from_be_bytes w32 (take 4 (replicate m 0)) ≡ 0
first_zero zero = refl
first_zero (suc zero) = refl
first_zero (suc (suc zero)) = refl
first_zero (suc (suc (suc zero))) = refl
first_zero (suc (suc (suc (suc m)))) = refl

zero_number : (m k : ℕ) → number_at (replicate m 0) k ≡ 0
zero_number m k = rw (drop-replicate {X = ℕ} (4 * k) m 0) (first_zero _)

empty_slot : (m s : ℕ) → slot_in (replicate m 0) s ≡ None
empty_slot m s = rw (zero_number m (2 * s), zero_number m (2 * s + 1)) refl

all_empty : (f : ℕ → Option Puid) (ns : List ℕ) → ((n : ℕ) → f n ≡ None) → map f ns ≡ replicate (length ns) None
all_empty f [] none = refl
all_empty f (n ∷ ns) none = rw (none n, all_empty f ns none) refl

zero_leaves : (w : ℕ) (f : ℕ → List ℕ) (ns : List ℕ) → ((n : ℕ) → f n ≡ replicate w 0) → flat_map f ns ≡ replicate (w * length ns) 0
zero_leaves w f [] zeros = let none : 0 ≡ w * 0 = omega arith in ap (λ (n : ℕ). replicate n 0) none
zero_leaves w f (n ∷ ns) zeros =
    ap (λ (x : List ℕ). x ++ flat_map f ns) (zeros n) ∙ ap (λ (x : List ℕ). replicate w 0 ++ x) (zero_leaves w f ns zeros)
    ∙ replicate-append-replicate w (w * length ns) 0 ∙ ap (λ (n : ℕ). replicate n 0) (omega arith)

empty_slots : (bytes : List ℕ) (m n : ℕ) → bytes ≡ replicate m 0 → map (slot_in bytes) (range_with_len 0 n) ≡ replicate n None
empty_slots bytes m n is =
    ap (λ (x : List ℕ). map (slot_in x) (range_with_len 0 n)) is ∙ all_empty (slot_in (replicate m 0)) (range_with_len 0 n) (empty_slot m) ∙ ap (λ (l : ℕ). replicate l None) (length-numbers 0 n)

pub empty_index : (word size : ℕ) (nodes : List ℕ) (leaf : ℕ → Option Held) → ((n : ℕ) → leaf_content 0 (leaf n) ≡ replicate 512 0)
    → object_with (record { kind = kinds.Index; fill = 0; word = word; size = size; nodes = nodes }) leaf
    ≡ objects.Index (record { slots = replicate (size / 8) None; held = filter (λ n. is_some (leaf n)) (range_with_len 0 (leaves_in size)) })
unfolding object_with
empty_index word size nodes leaf zeros =
    ap (λ (s : List (Option Puid)). objects.Index (record { slots = s; held = filter (λ n. is_some (leaf n)) (range_with_len 0 (leaves_in size)) }))
    (empty_slots _ _ (size / 8) (zero_leaves 512 (λ n. leaf_content 0 (leaf n)) (range_with_len 0 (leaves_in size)) zeros))

-- ---- new files and indices

abbrev nothing : ℕ → Option Held
nothing n = None

none_held : (ns : List ℕ) → filter (λ n. is_some (nothing n)) ns ≡ []
none_held [] = refl
none_held (n ∷ ns) = none_held ns

module _ (root : roots.Root) where
  -- the root with these in place of its own
  abbrev restated : Kind → ℕ → ℕ → roots.Root
  restated kind fill size = record { kind = kind; fill = fill; word = root.word; size = size; nodes = root.nodes }

  same_root : (kind : Kind) (fill size : ℕ) → root.kind ≡ kind → root.fill ≡ fill → root.size ≡ size → root ≡ restated kind fill size
  same_root kind fill size k f s = λ i. record { kind = k i; fill = f i; word = root.word; size = s i; nodes = root.nodes }

  pub bare_index : (slots : ℕ) → root.kind ≡ kinds.Index → root.fill ≡ 0 → root.size ≡ 8 * slots → bare_object root ≡ objects.Index (new_index slots)
  bare_index slots kind fill size =
      let many : 8 * slots / 8 ≡ slots = omega arith in
      ap bare_object (same_root kinds.Index 0 (8 * slots) kind fill size)
      ∙ empty_index root.word (8 * slots) root.nodes nothing (λ n. refl)
      ∙ ap (λ (held : List ℕ). objects.Index (record { slots = replicate (8 * slots / 8) None; held = held })) (none_held (range_with_len 0 (leaves_in (8 * slots))))
      ∙ ap (λ (n : ℕ). objects.Index (new_index n)) many

  pub bare_normal : root.kind ≡ kinds.Normal → root.size ≡ 0 → bare_object root ≡ objects.File (new_file file_kinds.Normal root.fill)
  unfolding object_with
  bare_normal kind size = ap bare_object (same_root kinds.Normal root.fill 0 kind refl size)

  pub bare_special : root.kind ≡ kinds.Special → root.size ≡ 0 → bare_object root ≡ objects.File (new_file file_kinds.Special root.fill)
  unfolding object_with
  bare_special kind size = ap bare_object (same_root kinds.Special root.fill 0 kind refl size)
