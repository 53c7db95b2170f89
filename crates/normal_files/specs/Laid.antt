-- A file as its blocks are on a disk: its root, the nodes to which that points, and the leaves to which these point.
use Rattle.std.specs.Prelude.{◌≡◌, ◌≢◌, ℕ, ◌+◌, ◌*◌, ◌<◌, false, length, get_or, slice_index, Option}
use Rattle.block_tree.specs.Reads.{leaves_at}
use Rattle.block_tree.specs.Pointers.{leaf_pointers}
use Rattle.cfs_base.specs.Disk.{Image, block_at}
use Rattle.cfs_base.specs.declared.identifier.Puid.{Puid}
use Rattle.cfs_base.specs.declared.kind.Place.{Place}
use Rattle.cfs_base.specs.declared.kind.Place.TheVariants.{Root, Node, Leaf}
use Rattle.block_tree.specs.Root.{IsGoodRoot, root_spelling}
use Rattle.leaf_changes.specs.Leaves.{LeavesFit}
use Rattle.ufs_model.specs.declared.object.Object.{Object}
use Rattle.vol_image.specs.Part.{BelongsTo, is_committed, part_at}
use Rattle.vol_image.specs.Reading.{leaf_in, object_with}
use Rattle.vol_image.specs.Seen.{Held, tree_in}
use Rattle.block_tree.specs.declared.root.Root as roots

-- the block of a node, and of a leaf of it, or 0 if it is absent
abbrev pub node_of : roots.Root → ℕ → ℕ
node_of root n = slice_index root.nodes n

abbrev pub leaf_of : Image → roots.Root → ℕ → ℕ → ℕ
leaf_of image root n k = get_or (leaves_at image (node_of root n)) k 0

-- the leaves below a root, and the object that they give
abbrev pub leaves_of : Image → roots.Root → ℕ → Option Held
leaves_of image root = leaf_in (tree_in image (root_spelling root))

abbrev pub object_laid : Image → roots.Root → Object
object_laid image root = object_with root (leaves_of image root)

-- the block is one of the disk, and has this owner and place
pub record IsAt (image : Image) (owner : ℕ) (place : Place) (block : ℕ) : Type 0 where
  pub below : block < length image
  pub part : BelongsTo owner place (part_at image block)

pub record IsLaid (image : Image) (owner : ℕ) (root : roots.Root) : Type 0 where
  pub good : IsGoodRoot root
  pub nodes : (n : ℕ) → node_of root n ≢ 0 → IsAt image owner (Node n) (node_of root n)
  pub leaves : (n k : ℕ) → k < leaf_pointers.count → leaf_of image root n k ≢ 0
      → IsAt image owner (Leaf (leaf_pointers.count * n + k)) (leaf_of image root n k)
  -- a node leads to a leaf
  pub leads : (n : ℕ) → node_of root n ≢ 0 → (k : ℕ) × (k < leaf_pointers.count) × (leaf_of image root n k ≢ 0)
  pub fit : LeavesFit root (leaves_of image root)

-- the file with this identifier has this root, and is read by it
pub record IsRooted (image : Image) (id : Puid) (root : roots.Root) : Type 0 where
  pub laid : IsLaid image id.block root
  pub here : block_at image id.block ≡ root_spelling root
  pub part : BelongsTo id.block Root (part_at image id.block)
  pub no_bit : is_committed (part_at image id.block) ≡ false
  pub word : root.word ≡ id.word
