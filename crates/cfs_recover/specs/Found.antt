-- What a walk over the objects of an image has found.
use Rattle.std.specs.Prelude.{◌≡◌, ◌≢◌, ◌⊎◌, ℕ, ◌+◌, ◌*◌, ◌/◌, ◌<◌, ◌≤◌, true, false, Bool, is_some, IsSome, List}
use Rattle.std.specs.Prelude.{length, get_or, slice_get, Some}
use Rattle.cfs_base.specs.Disk.{Image}
use Rattle.cfs_base.specs.declared.identifier.Puid.{Puid}
use Rattle.cfs_base.specs.declared.refusal.Damage.{Damage}
use Rattle.vol_label.specs.declared.label.Label.{Label}
use Rattle.block_tree.specs.declared.root.Root.{Root}
use Rattle.ufs_model.specs.declared.limits.TheConstants.{LEAF_SLOTS}
use Rattle.ufs_model.specs.declared.object.Object.{Object}
use Rattle.ufs_model.specs.declared.object.Object.TheVariants as objects
use Rattle.ufs_model.specs.declared.object.Index.{Index}
use Rattle.ufs_model.specs.Identifier.{is_among, rises}
use Rattle.ufs_model.specs.Graph.{Graph, ids_of, object_at, referred}
pub use Rattle.vol_image.specs.Fault.{IsKeptBlock}
use Rattle.vol_image.specs.Fault.{Fault, HasLabel, HasRootSlots, IsReachedIn, Shows, shown_tree}
use Rattle.vol_image.specs.Reading.{leaf_in, slot_in}
use Rattle.vol_image.specs.Seen.{Held}
use Rattle.vol_image.specs.Sight.{sight}
use Rattle.vol_image.specs.Sound.{ReadsAs}
use Rattle.puid_space.specs.Directory.{directory_kind}
use Rattle.puid_space.specs.Kinds.{kinds_of}
use Rattle.cfs_recover.specs.declared.found.Found.{Found}
use Rattle.cfs_recover.specs.declared.found.Walk.{Walk}

abbrev pub IsFaultOf : Image → Damage → Type 0
IsFaultOf image d = Fault image d.code d.block

-- ---- what an image says

-- A block of the volume names this identifier: the label, or a leaf of an index that is reached. Whether the
-- identifier names an object isn't said.
pub data IsNamed (image : Image) (id : Puid) : ℕ → Type 0 where
  ByLabel : (label : Label) → HasLabel image label → label.root ≡ id → IsNamed image id 1
  BySlot : (i : Puid) (root : Root) (index : Index) (s : ℕ) (h : Held) → IsReachedIn image i
      → Shows image i.block root (objects.Index index)
      → slice_get index.slots s ≡ Some (Some id) → leaf_in (shown_tree image i.block) (s / LEAF_SLOTS) ≡ Some h
      → h.block < length image
      → IsNamed image id h.block

-- ---- what a walk has

abbrev pub lists : Walk → Puid → Bool
lists w id = is_some (directory_kind w.directory.named id)

abbrev pub holds : Walk → ℕ → Bool
holds w n = get_or w.held.items n false

-- the identifier is listed, or clashes with one that is listed
abbrev pub IsNotedIn : Walk → Puid → Type 0
IsNotedIn w id = (lists w id ≡ true) ⊎ IsSome w.clash

-- nothing is lost
pub record Grows (old new : Walk) : Type 0 where
  pub room : new.directory.room ≡ old.directory.room
  pub listed : (id : Puid) → lists old id ≡ true → lists new id ≡ true
  pub found : (k : ℕ) (x : Found) → slice_get old.found.items k ≡ Some x → slice_get new.found.items k ≡ Some x
  pub held : (n : ℕ) → holds old n ≡ true → holds new n ≡ true
  pub clash : IsSome old.clash → IsSome new.clash

-- an item of the list, with the identifier that is listed
pub record IsFoundItem (image : Image) (w : Walk) (x : Found) : Type 0 where
  pub id : Puid
  pub listed : lists w id ≡ true
  pub block : x.block ≡ id.block
  pub some : id.block ≢ 0
  pub named : IsNamed image id x.by

-- this identifier clashes with one that is listed: it has the same root block, but another word
pub record IsClash (image : Image) (w : Walk) (by : ℕ) : Type 0 where
  pub id : Puid
  pub other : Puid
  pub named : IsNamed image id by
  pub listed : lists w other ≡ true
  pub block : id.block ≡ other.block
  pub word : id.word ≢ other.word

-- an object was read: it is this one, what it refers to was noted, and its blocks are held
pub record IsWalkedObject (image : Image) (w : Walk) (id : Puid) (o : Object) : Type 0 where
  pub reached : IsReachedIn image id
  pub reads : ReadsAs (length image) id (sight image id.block) o
  pub leads : (x : Puid) → is_among x (referred o) ≡ true → IsNotedIn w x
  -- the root index is an index of 64 slots
  pub sort : id.block ≡ 2 → HasRootSlots reads.source
  pub root : holds w id.block ≡ true
  pub below : (path : List ℕ) (h : Held) → (shown_tree image id.block).below path ≡ Some h → holds w h.block ≡ true

-- The walk has taken the first `done` items of the list. A graph has all that is listed: the objects that were taken
-- are as they read.
pub record IsWalk (image : Image) (w : Walk) (done : ℕ) : Type 0 where
  pub graph : Graph
  pub named : w.directory.named ≡ kinds_of graph
  pub ordered : rises (ids_of graph) ≡ true
  pub root : (label : Label) → HasLabel image label → graph.root ≡ label.root
  pub room : w.directory.room ≡ length image
  pub within : done ≤ length w.found.items
  pub found : (k : ℕ) (x : Found) → slice_get w.found.items k ≡ Some x → IsFoundItem image w x
  pub once : (j k : ℕ) (x y : Found) → slice_get w.found.items j ≡ Some x → slice_get w.found.items k ≡ Some y
      → x.block ≡ y.block → j ≡ k
  pub listed : (id : Puid) → lists w id ≡ true
      → (k : ℕ) × (x : Found) × (slice_get w.found.items k ≡ Some x) × (x.block ≡ id.block)
  pub taken : (k : ℕ) (x : Found) (id : Puid) (o : Object) → k < done → slice_get w.found.items k ≡ Some x
      → x.block ≡ id.block
      → object_at graph id ≡ Some o → IsWalkedObject image w id o
  pub held : (n : ℕ) → holds w n ≡ true → IsKeptBlock image n
  pub clash : (by : ℕ) → w.clash ≡ Some by → IsClash image w by

-- the item that is taken next has this root block
pub record IsNextItem (found : List Found) (done block : ℕ) : Type 0 where
  pub item : Found
  pub here : slice_get found done ≡ Some item
  pub is : item.block ≡ block

-- ---- the slots of a leaf with these bytes, of an index of this size

abbrev pub IsInSlot : List ℕ → ℕ → ℕ → ℕ → Puid → Type 0
IsInSlot bytes size leaf s id = (s < 64) × (512 * leaf + 8 * s < size) × (slot_in bytes s ≡ Some id)

-- this block names each identifier in such a slot
abbrev pub AreNamed : Image → List ℕ → ℕ → ℕ → ℕ → Type 0
AreNamed image bytes size leaf by = (s : ℕ) (id : Puid) → IsInSlot bytes size leaf s id → IsNamed image id by

abbrev pub AreNoted : Walk → List ℕ → ℕ → ℕ → Type 0
AreNoted w bytes size leaf = (s : ℕ) (id : Puid) → IsInSlot bytes size leaf s id → IsNotedIn w id
