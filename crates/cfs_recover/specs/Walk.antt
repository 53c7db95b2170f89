-- One object of an image that is walked, block by block, and then all of them.
use Rattle.std.specs.Prelude.{◌≡◌, ◌≢◌, ℕ, zero, suc, ◌+◌, ◌*◌, ◌<◌, ◌≤◌, true, List, ◌∷◌, ◌++◌, length, get_or}
use Rattle.cfs_base.specs.Disk.{Image, block_at}
use Rattle.cfs_base.specs.declared.disk.Disk.{Ghosts}
use Rattle.cfs_base.specs.declared.identifier.Puid.{Puid}
use Rattle.cfs_base.specs.declared.kind.Kind.TheVariants as kinds
use Rattle.cfs_base.specs.declared.kind.Place.TheVariants as places
use Rattle.block_tree.specs.declared.node.Node.{Node}
use Rattle.block_tree.specs.declared.root.Root.{Root}
use Rattle.block_tree.specs.Root.{IsRootBlock}
use Rattle.block_tree.specs.Pointers.{Level, leaf_pointers, levels_below, node_levels, node_pointers, pointers_of}
use Rattle.block_tree.specs.Pointers.{width}
use Rattle.block_tree.specs.Tree.{end_of, levels_of, path_to, pointer, tree_of}
use Rattle.cyl_map.specs.declared.entry.MapEntry.{MapEntry}
use Rattle.ufs_model.specs.declared.object.Object.{Object}
use Rattle.ufs_model.specs.Object.{leaves_in}
use Rattle.vol_image.specs.Fault.{IsReachedIn, Shows, holder, reader, shown_root, shown_tree}
use Rattle.vol_image.specs.Part.{BelongsTo, part_at}
use Rattle.vol_image.specs.Reading.{leaf_in, object_with}
use Rattle.vol_image.specs.Seen.{place_above}
use Rattle.vol_image.specs.Sight.{shadows, source}
use Rattle.cfs_recover.specs.declared.found.Found.{Found}
use Rattle.cfs_recover.specs.declared.found.Walk.{Walk}
use Rattle.cfs_recover.specs.declared.walk_below.Branch.{Branch}
use Rattle.cfs_recover.specs.declared.walk_below.Twig.{Twig}
use Rattle.cfs_recover.specs.Checks.{IsFilled}
use Rattle.cfs_recover.specs.declared.head.Head.{Head}
use Rattle.cfs_recover.specs.Found.{AreNoted, IsNamed, IsWalk, holds}
use Rattle.cfs_recover.specs.Stored.{AreMapsOf, Stores}

-- ---- an object

-- the object that is shown, whatever is wrong with its tree
abbrev pub object_shown : Image → Puid → Root → Object
object_shown image id root = object_with root (leaf_in (shown_tree image id.block))

-- the object is reached, and read by this root, which is in this block
pub record IsShown (image : Image) (id : Puid) (from : ℕ) (root : Root) : Type 0 where
  pub reached : IsReachedIn image id
  pub shows : Shows image id.block root (object_shown image id root)
  pub word : shows.read.own.word ≡ id.word
  pub from_is : from ≡ reader image id.block

-- ---- an item of the list that is read

-- the identifier of an item whose root block holds this root
abbrev pub id_of : Found → Root → Puid
id_of x own = record { block = x.block; word = own.word }

-- the root block of an item holds this root, and the block that names the item names its identifier
pub record IsOwn (image : Image) (x : Found) (own : Root) : Type 0 where
  pub spelled : IsRootBlock (block_at image x.block) own
  pub named : IsNamed image (id_of x own) x.by
  pub some : x.block ≢ 0

-- the object is read by this head, and its own block has the entry of a root
pub record IsOpened (image : Image) (id : Puid) (head : Head) : Type 0 where
  pub shown : IsShown image id head.from head.root
  pub owned : BelongsTo id.block places.Root (part_at image id.block)
  pub one_shadow : length (shadows image id.block) ≤ 1

-- the object with this root block is read from the block of the head, which has the head's root
pub record IsCopy (image : Image) (r : ℕ) (head : Head) : Type 0 where
  pub from : head.from ≡ source image r
  pub spelled : IsRootBlock (block_at image head.from) head.root

-- ---- the blocks of an object, each by what leads to it

-- how many reads check a block that is this many levels above the leaves, and all below it
abbrev pub reads_by_height : ℕ → ℕ
reads_by_height zero = 1
reads_by_height (suc height) = 1 + leaf_pointers.count * reads_by_height height

-- how many reads check an object, with its own root and the one by which it is read
abbrev pub reads_of_object : ℕ
reads_of_object = 2 + node_pointers.count * reads_by_height node_levels

-- A survey reads for each block at most an object and a map; a recovery also writes a root and a map.
abbrev pub reads_by_block : ℕ
reads_by_block = reads_of_object + 1

abbrev pub calls_by_block : ℕ
calls_by_block = reads_by_block + 2

-- the object with this root block is read by this root
pub record IsReadByRoot (image : Image) (owner : ℕ) (root : Root) : Type 0 where
  pub id : Puid
  pub reached : IsReachedIn image id
  pub shows : Shows image id.block root (object_shown image id root)
  pub owner_is : owner ≡ id.block

-- A block of its tree has these pointers, as many as a level has. It is number `at.number` of the blocks at the end
-- of the levels above, and its tree goes on as the pointers say.
pub record HasPointers (image : Image) (owner : ℕ) (root : Root) (at : Branch) (pointers : List ℕ) : Type 0 where
  pub read : IsReadByRoot image owner root
  pub above : List Level
  pub level : Level
  pub count : length pointers ≡ level.count
  pub whole : levels_of (shown_root image read.id.block) ≡ above ++ level ∷ levels_below at.height
  pub inside : at.number < width above
  pub leads : (k : ℕ) (path : List ℕ)
      → tree_of image (shown_root image read.id.block) (path_to above at.number ++ k ∷ path)
      ≡ end_of image (levels_below at.height) (get_or pointers k 0) path
  pub here : at.block ≡ holder image read.id.block (path_to above at.number)

-- one of such pointers leads to this block
pub record HasBlock (image : Image) (owner : ℕ) (root : Root) (twig : Twig) : Type 0 where
  pub at : Branch
  pub pointers : List ℕ
  pub k : ℕ
  pub from : HasPointers image owner root at pointers
  pub is : twig ≡ record {
    holder = at.block;
    block = get_or pointers k 0;
    number = at.number * length pointers + k;
    height = at.height;
  }
  pub some : twig.block ≢ 0

-- ---- the blocks of an object, as they were checked and noted

-- the block holds this node, which leads on
pub record IsNodeAt (image : Image) (block : ℕ) (node : Node) : Type 0 where
  pub leaves : node.leaves ≡ pointers_of leaf_pointers (block_at image block)
  pub leads_on : (j : ℕ) × (pointer leaf_pointers (block_at image block) j ≢ 0)

-- what is known of a leaf once it was read, if its content matters
pub record IsReadLeaf (image : Image) (root : Root) (w : Walk) (leaf block : ℕ) : Type 0 where
  pub filled : IsFilled root.size root.fill leaf (block_at image block)
  pub noted : root.kind ≡ kinds.Index → AreNoted w (block_at image block) root.size leaf

-- a leaf with this number
pub record IsGoodLeaf (image : Image) (root : Root) (w : Walk) (leaf block : ℕ) : Type 0 where
  pub within : leaf < leaves_in root.size
  pub read : IsReadLeaf image root w leaf block

-- a block with this number at this height above the leaves is good by itself
pub record IsGood (image : Image) (owner : ℕ) (root : Root) (w : Walk) (height number block : ℕ) : Type 0 where
  pub on_disk : block < length image
  pub owned : BelongsTo owner (place_above (levels_below height) number) (part_at image block)
  pub held : holds w block ≡ true
  pub leads_on : height ≢ 0 → (j : ℕ) × (pointer leaf_pointers (block_at image block) j ≢ 0)
  pub leaf : height ≡ 0 → IsGoodLeaf image root w number block

-- the same with all below it
abbrev pub AreGood : Image → ℕ → Root → Walk → ℕ → ℕ → ℕ → Type 0
AreGood image owner root w zero number block = IsGood image owner root w zero number block
AreGood image owner root w (suc height) number block = IsGood image owner root w (suc height) number block
    × ((j : ℕ) → pointer leaf_pointers (block_at image block) j ≢ 0
    → AreGood image owner root w height (number * leaf_pointers.count + j)
    (pointer leaf_pointers (block_at image block) j))

-- the same for what one of these pointers leads to, and for all below it
abbrev pub IsGoodAt : Image → ℕ → Root → Walk → Branch → List ℕ → ℕ → Type 0
IsGoodAt image owner root w at pointers k = get_or pointers k 0 ≢ 0
    → AreGood image owner root w at.height (at.number * length pointers + k) (get_or pointers k 0)

abbrev pub AreGoodBelow : Image → ℕ → Root → Walk → Branch → List ℕ → ℕ → Type 0
AreGoodBelow image owner root w at pointers below = (k : ℕ) → k < below → IsGoodAt image owner root w at pointers k

-- the same for all below a root of this content
abbrev pub IsGoodTree : Image → ℕ → Root → Walk → List ℕ → Type 0
IsGoodTree image owner root w content = (k : ℕ) → pointer node_pointers content k ≢ 0
    → AreGood image owner root w node_levels (0 * node_pointers.count + k) (pointer node_pointers content k)

-- ---- the walk

-- a walk over the image that a disk holds, whose maps are these, has taken the first `done` items
pub record Walks {D : Type 0} (g : Ghosts D) (d : D) (image : Image) (maps : List (List MapEntry)) (w : Walk)
    (done : ℕ) : Type 0 where
  pub stored : Stores g d image
  pub maps_are : AreMapsOf image maps
  pub walk : IsWalk image w done
