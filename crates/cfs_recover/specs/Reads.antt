-- What is read of an object, and of a volume.
use Rattle.std.specs.Prelude.{◌≡◌, ℕ, zero, suc, ◌+◌, ◌*◌, ◌/◌, ◌||◌, Bool, true, false, nat_lt, cond, List, [], ◌∷◌}
use Rattle.std.specs.Prelude.{length, filter, get_or, slice_get, Some}
use Rattle.std.specs.List.{range_with_len, sum_by}
use Rattle.cfs_base.specs.Calls.{OnlyReads}
use Rattle.cfs_base.specs.Disk.{Image, block_at}
use Rattle.cfs_base.specs.declared.disk.Disk.{Ghosts}
use Rattle.cfs_base.specs.declared.identifier.Puid.{Puid}
use Rattle.cfs_base.specs.declared.kind.Kind.{Kind}
use Rattle.cfs_base.specs.declared.kind.Kind.TheVariants as kinds
use Rattle.block_tree.specs.declared.root.Root.{Root}
use Rattle.block_tree.specs.Pointers.{leaf_pointers, pointers_of}
use Rattle.ufs_model.specs.Graph.{Graph}
use Rattle.ufs_model.specs.Kinds.{object_kind}
use Rattle.ufs_model.specs.Object.{held_leaves, held_nodes, size_of}
use Rattle.ufs_model.specs.declared.object.Object.{Object}
use Rattle.vol_image.specs.Sight.{sight}
use Rattle.vol_image.specs.Sound.{ReadsAs}
use Rattle.cfs_recover.specs.declared.found.Found.{Found}

-- ---- an object

abbrev pub is_index_kind : Kind → Bool
is_index_kind kinds.Normal = false
is_index_kind kinds.Special = false
is_index_kind kinds.Index = true

-- the content of a leaf matters if it has slots, or the leaf ends past the size
abbrev pub is_leaf_read : (kind : Kind) → (size leaf : ℕ) → Bool
is_leaf_read kind size leaf = is_index_kind kind || nat_lt size (512 * leaf + 512)

-- the leaves that are held and whose content matters: all leaves of an index, and of a file the one in which it ends
abbrev pub leaves_read : Object → List ℕ
leaves_read o = filter (is_leaf_read (object_kind o) (size_of o)) (held_leaves o)

-- the same with its root, a shadow root if one stands for it, and its nodes
abbrev pub reads_wanted : Object → ℕ
reads_wanted o = 2 + length (held_nodes o) + length (leaves_read o)

-- ---- a volume

abbrev pub reads_of_all : List (Puid × Object) → ℕ
reads_of_all objects = sum_by (λ e. reads_wanted e.1) objects

-- the label, each map, and the objects
abbrev pub reads_of_volume : ℕ → Graph → ℕ
reads_of_volume blocks g = 1 + blocks / 64 + reads_of_all g.objects

-- ---- block by block

-- How many reads check the blocks to which pointers lead, and all below them. Pointer 0 leads nowhere.
abbrev pub reads_if : ℕ → ℕ → ℕ
reads_if zero reads = 0
reads_if (suc block) reads = reads

abbrev pub reads_through : (reads : ℕ → ℕ → ℕ) → (first : ℕ) → List ℕ → ℕ
reads_through reads first pointers =
    sum_by (λ k. reads_if (get_or pointers k 0) (reads (first + k) (get_or pointers k 0)))
    (range_with_len 0 (length pointers))

abbrev pub reads_of_leaf : Root → ℕ → ℕ
reads_of_leaf root leaf = cond (is_leaf_read root.kind root.size leaf) 1 0

-- how many reads check a block with this number that is `height` levels above the leaves, and all below it
abbrev pub reads_below : Image → Root → (height number block : ℕ) → ℕ
reads_below image root zero number block = reads_of_leaf root number
reads_below image root (suc height) number block =
    1 + reads_through (reads_below image root height) (number * leaf_pointers.count)
    (pointers_of leaf_pointers (block_at image block))

-- ---- what was read

-- the item of the list reads as this object, which takes at most this many reads
pub record IsReadItem (image : Image) (x : Found) (reads : ℕ) : Type 0 where
  pub id : Puid
  pub object : Object
  pub block : x.block ≡ id.block
  pub reads_as : ReadsAs (length image) id (sight image id.block) object
  pub count : reads ≡ reads_wanted object

-- the item reads as this object
pub record IsReadAt (image : Image) (found : List Found) (k : ℕ) (e : Puid × Object) : Type 0 where
  pub item : Found
  pub here : slice_get found k ≡ Some item
  pub block : item.block ≡ e.0.block
  pub reads_as : ReadsAs (length image) e.0 (sight image e.0.block) e.1

-- the first items read as these, the last first
abbrev pub AreRead : Image → List Found → ℕ → List (Puid × Object) → Type 0
AreRead image found done [] = done ≡ 0
AreRead image found done (e ∷ es) =
    (before : ℕ) × (done ≡ before + 1) × IsReadAt image found before e × AreRead image found before es

-- a run of only reads, no more than the first items need
abbrev pub HasRead : {D : Type 0} → Ghosts D → Image → List Found → ℕ → D → D → Type 0
HasRead g image found done old new =
    (es : List (Puid × Object)) × AreRead image found done es × OnlyReads g (reads_of_all es) old new
