-- Leaves that are read one after another.
use Rattle.normal_files.proofs.Words.{◌≡◌, ◌≢◌, inl, inr, ◌⊎◌, cases_eq, cases_lt, Ghosts, OnlyReads, reads_then, ℕ, zero, suc, ◌+◌, ◌-◌, ◌/◌, ◌<◌, ◌≤◌, List, length, Option, refl, sym, ◌∙◌, ap, subst, arith, min, replicate, slice_range, ext_get_or, take_at, AreBlocks, Image, block_at, IsRootBlock, one_root, bytes_in, overlaid, IsReadTo, laid, length-overlaid, file_to_leaves, read_all, leaves_in, File, leaf_content, leaf_in, Held, held_at, tree_in, leaf_block, leaf_pointers, node_levels, path_to, root_spelling}
use Rattle.normal_files.specs.Standing.{IsFileAt}
use Rattle.block_tree.specs.Along.{IsTo}
use Rattle.block_tree.specs.Path.{SamePlaces, path_of}
use Rattle.block_tree.specs.declared.along.Way.{Way}
use Rattle.block_tree.specs.declared.root.Root as roots

-- what a leaf with this block reads as
pub content_read : (image : Image) (fill block : ℕ) → (block ≢ 0 → length (block_at image block) ≡ 512) → leaf_content fill (held_at image block) ≡ bytes_in image fill block
content_read image fill zero long = refl
content_read image fill (suc n) long = take_at (block_at image (suc n)) (replicate 512 fill) 512 (long (λ none. cc))

module _ (fill : ℕ) (leaf : ℕ → Option Held) (offset : ℕ) (part : List ℕ) where
  -- nor is it past the last
  pub read_on : (n m : ℕ) → min (leaves_in (offset + length part)) m ≤ n → IsReadTo n fill leaf offset part → IsReadTo m fill leaf offset part
  read_on n m last read k inside early = read k inside (omega (arith, last, early, inside))

-- the leaf that was read is the tree's
pub leaf_is_read : (image mid : Image) (at : ℕ) (root : roots.Root) (leaf block : ℕ) (bytes : List ℕ) → IsRootBlock (block_at image at) root → block ≡ leaf_block image (root_spelling root) leaf → mid ≡ image → AreBlocks image → block < length image
    → bytes ≡ bytes_in mid root.fill block → bytes ≡ leaf_content root.fill (leaf_in (tree_in image (block_at image at)) leaf)
leaf_is_read image mid at root leaf block bytes is here same blocks below read =
    read ∙ ap (λ (i : Image). bytes_in i root.fill block) same ∙ sym (content_read image root.fill block (λ some. (blocks block below).long))
    ∙ ap (λ (n : ℕ). leaf_content root.fill (held_at image n)) (here ∙ ap (λ (c : List ℕ). leaf_block image c leaf) (sym is.spelled))

-- two leaves of one node share the path to it
pub one_node_path : (k l : ℕ) → k / leaf_pointers.count ≡ l / leaf_pointers.count → SamePlaces node_levels (path_of k) (path_of l)
unfolding path_to
one_node_path k l same zero less = same
one_node_path k l same (suc d) less = absurd (omega (arith, less))

-- how many nodes have been read before a leaf, and how many leaves
abbrev pub read_before : (from leaf : ℕ) → ℕ
read_before from leaf = min (leaf - from) ((leaf + leaf_pointers.count - 1) / leaf_pointers.count - from / leaf_pointers.count) + (leaf - from)

-- one read more for a leaf, and one for its node, unless the leaf before it has the same
node_reads : (from leaf n : ℕ) → from ≤ leaf → (leaf / leaf_pointers.count ≡ (leaf - 1) / leaf_pointers.count → from < leaf → n ≡ 0) → n ≤ 1 → read_before from leaf + n + 1 ≤ read_before from (leaf + 1)
node_reads from leaf n on shared few = elim (cases_eq n 0) [
  | inl none ↦ omega (arith, none, on)
  | inr some ↦ elim (cases_lt from leaf) [
    | inr first ↦ omega (arith, first, on, few)
    | inl later ↦ elim (cases_eq (leaf / leaf_pointers.count) ((leaf - 1) / leaf_pointers.count)) [
      | inl same ↦ absurd (some (shared same later))
      | inr apart ↦ omega (arith, apart, later, few)
    ]
  ]
]

-- a way reads on to a leaf from the one before it, and then the leaf is read
pub reads_leaf : {D : Type 0} (g : Ghosts D) (from leaf : ℕ) (old mid got new : D) (way : Way) → from ≤ leaf → (from < leaf → IsTo (leaf - 1) way) → OnlyReads g (read_before from leaf) old mid
    → ((n : ℕ) → n ≤ way.read → SamePlaces n way.path (path_of leaf) → OnlyReads g (node_levels - n) mid got) → OnlyReads g 1 got new → OnlyReads g (read_before from (leaf + 1)) old new
reads_leaf {D = D} g from leaf old mid got new way on last before reads one = by (cases_lt from leaf)
  where
    more : (n : ℕ) → n ≤ 1 → OnlyReads g n mid got → (leaf / leaf_pointers.count ≡ (leaf - 1) / leaf_pointers.count → from < leaf → n ≡ 0) → OnlyReads g (read_before from (leaf + 1)) old new
    more n few is shared = reads_then g old got new (read_before from leaf + n) 1 (read_before from (leaf + 1)) (reads_then g old mid got (read_before from leaf) n (read_before from leaf + n) before is (omega arith)) one (node_reads from leaf n on shared few)

    whole : (leaf / leaf_pointers.count ≡ (leaf - 1) / leaf_pointers.count → from < leaf → node_levels ≡ 0) → OnlyReads g (read_before from (leaf + 1)) old new
    whole = more node_levels (omega arith) (reads 0 (omega arith) (λ d none. absurd (omega (arith, none))))

    by : (from < leaf) ⊎ (leaf ≤ from) → OnlyReads g (read_before from (leaf + 1)) old new
    by (inr first) = whole (λ same later. absurd (omega (arith, later, first)))
    by (inl later) = elim (cases_eq (leaf / leaf_pointers.count) ((leaf - 1) / leaf_pointers.count)) [
      | inr apart ↦ whole (λ same _. absurd (apart same))
      | inl same ↦
          let to = last later in
          more (node_levels - node_levels) (omega arith) (reads node_levels (omega (arith, to.whole)) (subst (λ (p : List ℕ). SamePlaces node_levels p (path_of leaf)) (sym to.path) (one_node_path (leaf - 1) leaf (sym same)))) (λ _ _. refl)
    ]

-- so many are no more than all that bytes touch
pub reads_touched : (from leaf to : ℕ) → from ≤ leaf → leaf < to → read_before from (leaf + 1) ≤ (to + leaf_pointers.count - 1) / leaf_pointers.count - from / leaf_pointers.count + (to - from)
reads_touched from leaf to on below = omega (arith, on, below)

-- all that was to be read is the part of the file
pub part_is : (image : Image) (at : ℕ) (root : roots.Root) (f : File) (offset : ℕ) (part : List ℕ) → IsFileAt image at f → IsRootBlock (block_at image at) root → offset + length part ≤ length f.bytes
    → IsReadTo (leaves_in (offset + length part)) root.fill (leaf_in (tree_in image (block_at image at))) offset part → part ≡ slice_range f.bytes offset (offset + length part)
part_is image at root f offset part file is inside read =
    let same = one_root root file.root is.good file.tree.spelled.good (sym is.spelled ∙ file.tree.spelled.spelled) in
    let gives = file_to_leaves file.root (leaf_in (tree_in image (block_at image at))) f file.tree.object in
    read_all file.root (leaf_in (tree_in image (block_at image at))) f offset part gives (omega (arith, inside, gives.size))
    (subst (λ (r : roots.Root). IsReadTo (leaves_in (offset + length part)) r.fill (leaf_in (tree_in image (block_at image at))) offset part) same read)

-- the bytes of a leaf that is there
pub block_read : (image : Image) (fill block : ℕ) → block ≢ 0 → bytes_in image fill block ≡ block_at image block
block_read image fill zero some = absurd (some refl)
block_read image fill (suc n) some = refl

-- bytes that cover a leaf leave nothing of it
pub covered : (at : ℕ) (c d : List ℕ) (from : ℕ) (above : List ℕ) → from ≤ at → length d ≡ length c → at + length c ≤ from + length above → overlaid at c from above ≡ overlaid at d from above
covered at c d from above start same end =
    ext_get_or 0 (overlaid at c from above) (overlaid at d from above) (length-overlaid at c from above ∙ sym same ∙ sym (length-overlaid at d from above))
    (λ k inside. let small : k < length c = omega (arith, inside, length-overlaid at c from above) in
    laid at c from above k small (omega (arith, start)) (omega (arith, small, end)) ∙ sym (laid at d from above k (omega (arith, small, same)) (omega (arith, start)) (omega (arith, small, end))))
