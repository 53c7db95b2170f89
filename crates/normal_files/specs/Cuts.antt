-- A file set to less: the leaf in which it ends is cut, and so is the way to the last leaf that it may keep.
use Rattle.std.specs.Prelude.{◌≡◌, ◌≢◌, ◌⊎◌, ℕ, ◌-◌, ◌*◌, ◌/◌, ◌%◌, ◌<◌, ◌==◌, if◌then◌else◌, List, get_or, set}
use Rattle.block_tree.specs.Along.{CutsRootPast, IsTo, IsWayWithin, pointer_on, way_leaves, way_node}
use Rattle.block_tree.specs.Node.{node_spelling}
use Rattle.block_tree.specs.Pointers.{leaf_pointers, node_levels}
use Rattle.block_tree.specs.Reads.{leaves_at}
use Rattle.block_tree.specs.Tree.{bytes_in}
use Rattle.block_tree.specs.Way.{CutsAt}
use Rattle.cfs_base.specs.Disk.{Image, Written}
use Rattle.leaf_changes.specs.Bytes.{cut}
use Rattle.ufs_model.specs.Object.{leaves_in}
use Rattle.normal_files.specs.Laid.{node_of}
use Rattle.normal_files.specs.declared.cut.End.{End}
use Rattle.block_tree.specs.declared.root.Root as roots

-- ---- where a file of a size ends

-- the last leaf that the file may keep, or the first if it may keep none
abbrev pub last_leaf : ℕ → ℕ
last_leaf size = leaves_in size - 1

-- the node of that leaf
abbrev pub last_node : ℕ → ℕ
last_node size = last_leaf size / leaf_pointers.count

-- the place in that node from which on the file has no leaf
abbrev pub cut_place : ℕ → ℕ
cut_place size = leaves_in size - leaf_pointers.count * last_node size

-- the block of the leaf within which the file ends: that of the last leaf, or 0 if it ends between leaves
abbrev pub cut_block : (size block : ℕ) → ℕ
cut_block size block = if size % 512 == 0 then 0 else block

-- the block as which a node with these leaves is kept: its own if it has one of them before a place, else 0
abbrev pub IsKeptNode : (leaves : List ℕ) → (place block kept : ℕ) → Type 0
IsKeptNode leaves place block kept =
    ((kept ≡ block) × ((k : ℕ) × (k < place) × (get_or leaves k 0 ≢ 0)))
    ⊎ ((kept ≡ 0) × ((k : ℕ) → k < place → get_or leaves k 0 ≡ 0))

-- all that is known of the end on any disk
pub record IsReadEnd (blocks : ℕ) (root : roots.Root) (size : ℕ) (end : End) : Type 0 where
  -- the way leads to the last leaf that the file may keep
  pub leads : IsTo (last_leaf size) end.way
  pub within : IsWayWithin blocks end.way
  pub there : node_of root (last_node size) < blocks
  pub cut : end.cut ≡ cut_block size (pointer_on root end.way node_levels)
  pub near : end.cut < blocks
  pub kept : IsKeptNode (way_leaves end.way) (cut_place size) (node_of root (last_node size)) end.kept
  pub cuts_node : CutsAt (λ k. get_or (way_leaves end.way) k 0) (cut_place size)
      (λ k. get_or (way_leaves end.next) k 0)
  pub cuts_root : CutsRootPast (record root { size = size }) (last_node size) end.kept end.root

-- the end is that of the file with this root
pub record IsEnd (image : Image) (root : roots.Root) (size : ℕ) (end : End) : Type 0 where
  pub own : way_leaves end.way ≡ leaves_at image (node_of root (last_node size))
  pub content : end.content ≡ cut size root.fill (bytes_in image root.fill end.cut)

-- ---- blocks that are written, if there are any

-- block 0 is no block
abbrev pub put_at : Image → ℕ → List ℕ → Image
put_at c block content = if block == 0 then c else set c block content

abbrev pub MayPutBlock : (Image → Type 0) → ℕ → List ℕ → Image → Type 0
MayPutBlock images block content c = images c ⊎ ((block ≢ 0) × Written images block content c)

-- the image once both are written
abbrev pub trimmed : Image → End → Image
trimmed c end = put_at (put_at c end.cut end.content) end.kept (node_spelling (way_node end.next))

abbrev pub MayTrim : (Image → Type 0) → End → Image → Type 0
MayTrim images end = MayPutBlock (MayPutBlock images end.cut end.content) end.kept (node_spelling (way_node end.next))
