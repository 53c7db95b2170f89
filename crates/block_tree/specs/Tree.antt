-- A tree of blocks over an image: the block at the end of each path of pointers, from a root's content down.
use Rattle.std.specs.Prelude.{◌≡◌, ◌≢◌, ℕ, zero, suc, ◌/◌, ◌%◌, ◌<◌, ◌≤◌, List, [], ◌∷◌, ◌++◌, length, get_or}
use Rattle.std.specs.Prelude.{replicate, filter, not, ◌==◌, Option, Some, None}
use Rattle.std.specs.List.{range_with_len}
use Rattle.cfs_base.specs.Disk.{Image, block_at}
use Rattle.block_tree.specs.Reads.{IsPast, holder_block}
use Rattle.block_tree.specs.Pointers.{Level, levels_below, node_levels, node_pointers, pointers_of, width}
use Rattle.block_tree.specs.declared.follow.Pointer.{Pointer}

-- ---- levels and paths

-- the levels of pointers below a root of this content: the root's to its nodes, and the nodes' to their leaves
unfoldable pub levels_of : List ℕ → List Level
levels_of root = node_pointers ∷ levels_below node_levels

-- the path of a leaf: at each level the place of a pointer
unfoldable pub path_to : List Level → ℕ → List ℕ
path_to [] leaf = []
path_to (level ∷ levels) leaf = leaf / width levels ∷ path_to levels (leaf % width levels)

-- ---- the tree

-- the pointer at a place, or 0 past the last
abbrev pub pointer : Level → List ℕ → ℕ → ℕ
pointer level content k = get_or (pointers_of level content) k 0

-- The block at the end of a path that begins at block n. Block 0 is no block: pointer 0 leads nowhere, and so does a
-- path with more places than levels.
abbrev pub end_of : Image → List Level → ℕ → List ℕ → ℕ
end_of image levels n [] = n
end_of image levels zero (k ∷ path) = 0
end_of image [] (suc n) (k ∷ path) = 0
end_of image (level ∷ levels) (suc n) (k ∷ path) = end_of image levels (pointer level (block_at image (suc n)) k) path

-- the block at the end of each path below a block of this content, or 0 if there is none
abbrev pub below : Image → List Level → List ℕ → List ℕ → ℕ
below image levels content [] = 0
below image [] content (k ∷ path) = 0
below image (level ∷ levels) content (k ∷ path) = end_of image levels (pointer level content k) path

-- the tree of a root of this content
abbrev pub tree_of : Image → List ℕ → List ℕ → ℕ
tree_of image root = below image (levels_of root) root

-- ---- leaves

-- how many leaves the tree may have
abbrev pub leaf_count : List ℕ → ℕ
leaf_count root = width (levels_of root)

-- the block of a leaf, or 0 if the leaf is absent
abbrev pub leaf_block : Image → List ℕ → ℕ → ℕ
leaf_block image root leaf = tree_of image root (path_to (levels_of root) leaf)

-- those of the first `count` leaves that have a block, in increasing order
abbrev pub leaves_with_blocks : Image → List ℕ → ℕ → List ℕ
leaves_with_blocks image root count = filter (λ leaf. not (leaf_block image root leaf == 0)) (range_with_len 0 count)

-- what a leaf with this block reads as: its content, or fill bytes if it is absent
abbrev pub bytes_in : Image → ℕ → ℕ → List ℕ
bytes_in image fill zero = replicate 512 fill
bytes_in image fill (suc n) = block_at image (suc n)

-- the bytes of a leaf; the root's second byte is the fill byte
abbrev pub leaf_bytes : Image → List ℕ → ℕ → List ℕ
leaf_bytes image root leaf = bytes_in image (get_or root 1 0) (leaf_block image root leaf)

-- each block of the tree leads on to a leaf, or is one
abbrev pub HasNoDeadEnd : Image → List ℕ → Type 0
HasNoDeadEnd image root =
    (path : List ℕ) → tree_of image root path ≢ 0 → length path < length (levels_of root)
    → (k : ℕ) × (tree_of image root (path ++ k ∷ []) ≢ 0)

-- ---- pointers

-- the node to which a path leads, which has the pointers with which the path may go on; for no place it is the root,
-- which isn't named
abbrev pub holder_at : Image → List ℕ → List ℕ → Option ℕ
holder_at image root [] = None
holder_at image root (j ∷ path) = Some (tree_of image root (j ∷ path))

-- the pointer at a place of what a path leads to
abbrev pub pointer_at : Image → List ℕ → (path : List ℕ) → (k : ℕ) → Pointer
pointer_at image root path k =
    record { holder = holder_at image root path; block = tree_of image root (path ++ k ∷ []) }

-- the pointer at the end of a leaf's path
pub record IsLeafPointer (image : Image) (root : List ℕ) (leaf : ℕ) (p : Pointer) : Type 0 where
  pub path : List ℕ
  pub k : ℕ
  pub on : path ++ k ∷ [] ≡ path_to (levels_of root) leaf
  pub is : p ≡ pointer_at image root path k

-- a pointer on this leaf's path is past the end
pub record PastOn (image : Image) (size : ℕ) (root : List ℕ) (leaf : ℕ) (p : Pointer) : Type 0 where
  pub path : List ℕ
  pub k : ℕ
  pub rest : List ℕ
  pub on : path ++ k ∷ rest ≡ path_to (levels_of root) leaf
  pub is : p ≡ pointer_at image root path k
  pub past : IsPast size p.block

-- a pointer on the path that isn't the last
pub record PastAbove (image : Image) (size : ℕ) (root : List ℕ) (leaf : ℕ) (p : Pointer) : Type 0 where
  pub past : PastOn image size root leaf p
  pub above : past.rest ≢ []

-- a pointer in this block of the tree with this root leads past the disk
pub record LeadsPast (image : Image) (size : ℕ) (root : List ℕ) (r block : ℕ) : Type 0 where
  pub path : List ℕ
  pub k : ℕ
  pub at : block ≡ holder_block r (holder_at image root path)
  pub past : IsPast size (tree_of image root (path ++ k ∷ []))

-- no such pointer is past the end
abbrev pub HasNearPath : Image → (size : ℕ) → List ℕ → ℕ → Type 0
HasNearPath image size root leaf = (p : Pointer) → ¬ PastAbove image size root leaf p

-- the leaf is absent, and no pointer above it is past the end
pub record IsQuiet (image : Image) (size : ℕ) (root : List ℕ) (leaf : ℕ) : Type 0 where
  pub absent : leaf_block image root leaf ≡ 0
  pub followed : HasNearPath image size root leaf

-- each leaf from `from` up to `to` has P
abbrev pub EachLeaf : (from to : ℕ) → (ℕ → Type 0) → Type 0
EachLeaf from to P = (leaf : ℕ) → from ≤ leaf → leaf < to → P leaf

-- all these leaves are quiet
abbrev pub AreQuiet : Image → ℕ → List ℕ → ℕ → ℕ → Type 0
AreQuiet image size root from to = EachLeaf from to (IsQuiet image size root)
