-- Sound images, and the graph as which an image reads.
use Rattle.std.specs.Prelude.{◌≡◌, ℕ, ◌+◌, ◌*◌, ◌/◌, ◌<◌, ◌≤◌, true, false, List, length, filter, replicate, Some}
use Rattle.cfs_base.specs.Disk.{Image, block_at}
use Rattle.cfs_base.specs.declared.identifier.Puid.{Puid}
use Rattle.cfs_base.specs.declared.kind.Place.TheVariants.{Root}
use Rattle.vol_label.specs.declared.label.Label.{Label}
use Rattle.vol_label.specs.Label as labels
use Rattle.block_tree.specs.declared.root.Root as roots
use Rattle.block_tree.specs.Pointers.{pointers_of, node_pointers}
use Rattle.block_tree.specs.Root.{IsRootBlock}
use Rattle.cyl_map.specs.Volume.{entry_in, AreMaps}
use Rattle.ufs_model.specs.declared.limits.TheConstants.{ROOT_SLOTS}
use Rattle.ufs_model.specs.declared.object.Object.{Object}
use Rattle.ufs_model.specs.declared.object.Object.TheVariants as objects
use Rattle.ufs_model.specs.declared.object.Index.{Index}
use Rattle.ufs_model.specs.Identifier.{is_among, rises}
use Rattle.ufs_model.specs.Graph.{Graph, ids_of, object_at, is_there}
pub use Rattle.ufs_model.specs.Graph.{IsClosedGraph}
use Rattle.ufs_model.specs.Reach.{rooted}
pub use Rattle.ufs_model.specs.Room.{graph_blocks}
use Rattle.vol_image.specs.Part.{BelongsTo, RootsOwnThemselves, part_at, is_fixed, reserved}
use Rattle.vol_image.specs.Reading.{IsTree}
use Rattle.vol_image.specs.Sight.{Sight, sight}

-- ---- one object, where each condition begins with the number of the fault if it doesn't hold

-- what is seen of the object with this identifier is well-formed, and reads as this object
pub record ReadsAs (size : ℕ) (id : Puid) (seen : Sight) (o : Object) : Type 0 where
  -- 5: the root block has the part of a root
  pub part : BelongsTo id.block Root seen.part
  -- 3: the root is valid
  pub root : roots.Root
  pub spelled : IsRootBlock seen.root root
  -- 6: it has the identifier's word
  pub word : root.word ≡ id.word
  -- 7: at most one shadow root stands for it
  pub one_shadow : length seen.standing ≤ 1
  -- 3: the object is read by a root of the same kind and word
  pub source : roots.Root
  pub same_kind : source.kind ≡ root.kind
  pub same_word : source.word ≡ root.word
  pub tree : IsTree size id.block seen.tree source o

-- The root of a new object: the block's entry has it as its own root, and it spells a root with no node.
pub record IsBareRoot (image : Image) (id : Puid) (root : roots.Root) : Type 0 where
  pub part : part_at image id.block ≡ Some (record { committed = false; place = Some Root; owner = id.block })
  pub spelled : IsRootBlock (block_at image id.block) root
  pub word : root.word ≡ id.word
  pub no_node : pointers_of node_pointers (block_at image id.block) ≡ replicate node_pointers.count 0

-- ---- the volume

-- the label of a volume with this root index; 1: it names the size of the disk
pub record IsLabelOf (size : ℕ) (id : Puid) (block : List ℕ) : Type 0 where
  pub label : Label
  pub is_label : labels.IsLabel label
  pub spelled : block ≡ labels.spelling label
  pub size_is : 64 * label.cylinders ≡ size
  pub root_is : label.root ≡ id

-- The image has each object of this graph, rooted or not, and a label that names its root.
pub record Holds (image : Image) (g : Graph) : Type 0 where
  pub label : IsLabelOf (length image) g.root (block_at image 1)
  -- 2: the bytes of each entry spell one, and a root's has its own block as the owner
  pub maps : AreMaps image
  pub own : RootsOwnThemselves image
  -- 5: the map blocks and the label are reserved
  pub fixed : (n : ℕ) → n < length image → is_fixed n ≡ true → entry_in image n ≡ Some reserved
  pub objects : (id : Puid) (o : Object) → object_at g id ≡ Some o → ReadsAs (length image) id (sight image id.block) o

-- 11: beside the maps, the label and the graph's objects at least 4 blocks of a disk of this size are left
abbrev pub LeavesFour : ℕ → Graph → Type 0
LeavesFour size g = graph_blocks g + 5 ≤ 63 * (size / 64)

-- the image is sound, and reads as this graph
pub record IsSoundAs (image : Image) (g : Graph) : Type 0 where
  pub holds : Holds image g
  pub graph : IsClosedGraph g
  -- the graph has only what is reached from the root
  pub reached : (x : Puid) → is_there g x ≡ true → is_among x (rooted g) ≡ true
  pub room : LeavesFour (length image) g

abbrev pub IsSound : Image → Type 0
IsSound image = (g : Graph) × IsSoundAs image g

-- the objects that are reached from the root
abbrev pub rooted_part : Graph → Graph
rooted_part g = record g { objects = filter (λ e. is_among e.0 (rooted g)) g.objects }
