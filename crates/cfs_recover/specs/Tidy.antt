-- What recovery writes, and the images that it may leave on the way: roots are copied, and then maps are tidied.
use Rattle.std.specs.Prelude.{◌≡◌, ◌≢◌, ◌⊎◌, ℕ, ◌+◌, ◌*◌, ◌%◌, ◌<◌, Bool, true, false, List, [], length, get_or}
use Rattle.std.specs.Prelude.{slice_get, Some}
use Rattle.cfs_base.specs.Disk.{Image, block_at}
use Rattle.cfs_base.specs.declared.identifier.Puid.{Puid}
use Rattle.cfs_base.specs.declared.kind.Place.TheVariants.{Root}
use Rattle.cyl_map.specs.declared.entry.MapEntry.{MapEntry}
use Rattle.cyl_map.specs.declared.state.BlockState.TheVariants.{Allocated}
use Rattle.cyl_map.specs.Map.{IsMap, entry_at, free_entries, map_spelling}
use Rattle.cyl_map.specs.Volume.{entry_in, AreMaps}
use Rattle.cyl_alloc.specs.Space.{unheld_entry}
use Rattle.ufs_model.specs.declared.object.Object.{Object}
use Rattle.ufs_model.specs.Graph.{Graph, object_at}
use Rattle.vol_image.specs.Part.{BelongsTo, RootsOwnThemselves, OwnsItself, part_of, part_at, is_committed, is_fixed}
use Rattle.vol_image.specs.Part.{stands_for}
use Rattle.vol_image.specs.Seen.{Held, tree_in}
use Rattle.vol_image.specs.Sight.{source}
use Rattle.vol_image.specs.Sound.{Holds}
use Rattle.vol_owners.specs.Account.{StandsIn}

-- ---- the roots

-- Image b is image a in which the content by which an object is read is written to the roots of some objects.
pub record CopiesRoots (a : Image) (g : Graph) (b : Image) : Type 0 where
  pub size : length b ≡ length a
  pub each : (n : ℕ) → (block_at b n ≡ block_at a n)
      ⊎ ((id : Puid) × (o : Object) × (object_at g id ≡ Some o) × (n ≡ id.block)
      × (block_at b n ≡ block_at a (source a id.block)))

-- the root of each object has the content by which the object is read
abbrev pub AreCopied : Image → Graph → Type 0
AreCopied a g = (id : Puid) (o : Object) → object_at g id ≡ Some o
    → block_at a (source a id.block) ≡ block_at a id.block

-- ---- the maps

-- Image b is image a with other maps, in which no object loses a block or gets a commit bit or a shadow root.
pub record Tidies (a : Image) (g : Graph) (b : Image) : Type 0 where
  pub size : length b ≡ length a
  pub maps : AreMaps b
  pub own : RootsOwnThemselves b
  pub fixed : (n : ℕ) → is_fixed n ≡ true → entry_in b n ≡ entry_in a n
  pub content : (n : ℕ) → n % 64 ≢ 0 → block_at b n ≡ block_at a n
  pub root : (id : Puid) (o : Object) → object_at g id ≡ Some o → BelongsTo id.block Root (part_at b id.block)
  pub bit : (id : Puid) (o : Object) → object_at g id ≡ Some o → is_committed (part_at b id.block) ≡ true
      → is_committed (part_at a id.block) ≡ true
  pub inner : (id : Puid) (o : Object) (path : List ℕ) (h : Held) → object_at g id ≡ Some o
      → (tree_in a (block_at a id.block)).below path ≡ Some h
      → part_at b h.block ≡ part_at a h.block
  pub standing : (id : Puid) (o : Object) (n : ℕ) → object_at g id ≡ Some o → stands_for id.block (entry_in b n) ≡ true
      → stands_for id.block (entry_in a n) ≡ true

-- such an image may have this entry of a block
pub record IsTidy (a : Image) (g : Graph) (n : ℕ) (e : MapEntry) : Type 0 where
  pub own : OwnsItself n e
  pub fixed : is_fixed n ≡ true → entry_in a n ≡ Some e
  pub root : (id : Puid) (o : Object) → object_at g id ≡ Some o → n ≡ id.block
      → BelongsTo id.block Root (part_of (Some e))
  pub bit : (id : Puid) (o : Object) → object_at g id ≡ Some o → n ≡ id.block → is_committed (part_of (Some e)) ≡ true
      → is_committed (part_at a id.block) ≡ true
  pub inner : (id : Puid) (o : Object) (path : List ℕ) (h : Held) → object_at g id ≡ Some o
      → (tree_in a (block_at a id.block)).below path ≡ Some h → n ≡ h.block
      → part_of (Some e) ≡ part_at a n
  pub standing : (id : Puid) (o : Object) → object_at g id ≡ Some o → stands_for id.block (Some e) ≡ true
      → stands_for id.block (entry_in a n) ≡ true

-- such an image may have each entry of a map
abbrev pub IsTidyMap : Image → Graph → ℕ → List ℕ → Type 0
IsTidyMap a g j block = (k : ℕ) → k < 64 → (e : MapEntry) × (entry_at block k ≡ Some e) × IsTidy a g (64 * j + k) e

-- ---- the entries that are written

-- each block that an object holds is marked: its root, and what is below it
pub record AreMarked (a : Image) (g : Graph) (held : ℕ → Bool) : Type 0 where
  pub root : (id : Puid) (o : Object) → object_at g id ≡ Some o → held id.block ≡ true
  pub inner : (id : Puid) (o : Object) (path : List ℕ) (h : Held) → object_at g id ≡ Some o
      → (tree_in a (block_at a id.block)).below path ≡ Some h → held h.block ≡ true

-- a map block and the label keep theirs, what is held is Allocated, and all else is Free
abbrev pub tidied : Bool → Bool → MapEntry → MapEntry
tidied true held e = e
tidied false true e = record e { state = Allocated; committed = false }
tidied false false e = unheld_entry

-- an object of the graph has this block: as its root, or in the tree of its root's content
pub record IsHeldIn (a : Image) (g : Graph) (n : ℕ) : Type 0 where
  pub id : Puid
  pub object : Object
  pub there : object_at g id ≡ Some object
  pub here : (n ≡ id.block) ⊎ StandsIn (tree_in a (block_at a id.block)) n

-- each entry of image b is the tidied one of image a, by marks of exactly the blocks that objects have
pub record IsTidied (a : Image) (g : Graph) (held : ℕ → Bool) (b : Image) : Type 0 where
  pub entries : (n : ℕ) (e : MapEntry) → entry_in a n ≡ Some e → entry_in b n ≡ Some (tidied (is_fixed n) (held n) e)
  pub only : (n : ℕ) → held n ≡ true → IsHeldIn a g n
  pub all : (n : ℕ) (id : Puid) (o : Object) → object_at g id ≡ Some o
      → (n ≡ id.block) ⊎ StandsIn (tree_in a (block_at a id.block)) n → held n ≡ true

-- a map of a cylinder with each entry tidied by these marks
pub record IsTidiedMap (cylinder : ℕ) (map : List MapEntry) (held : List Bool) (tidy : List MapEntry) : Type 0 where
  pub entries : (k : ℕ) (e : MapEntry) → k < 64 → slice_get map k ≡ Some e
      → slice_get tidy k ≡ Some (tidied (is_fixed (64 * cylinder + k)) (get_or held (64 * cylinder + k) false) e)
  pub whole : IsMap tidy

-- the image, each of whose objects is read by its own root, is tidied by these marks
pub record IsTidying (a : Image) (g : Graph) (held : List Bool) : Type 0 where
  pub holds : Holds a g
  pub copied : AreCopied a g
  pub marked : AreMarked a g (λ n. get_or held n false)

-- this is the map of a cylinder
pub record IsMapIn (a : Image) (cylinder : ℕ) (map : List MapEntry) : Type 0 where
  pub entries : (k : ℕ) → k < 64 → entry_in a (64 * cylinder + k) ≡ slice_get map k
  pub whole : IsMap map

-- the map of a cylinder is this map, tidied, and `count` of its blocks are Free
pub record HasTidied (b : Image) (cylinder : ℕ) (map : List MapEntry) (held : List Bool) (count : ℕ) : Type 0 where
  pub tidy : List MapEntry
  pub tidied : IsTidiedMap cylinder map held tidy
  pub spelled : block_at b (64 * cylinder) ≡ map_spelling tidy
  pub free : count ≡ free_entries tidy

-- so are the maps of the first `done` cylinders
abbrev pub AreTidied : Image → List (List MapEntry) → List Bool → List ℕ → ℕ → Type 0
AreTidied b maps held free done = (k : ℕ) → k < done → HasTidied b k (get_or maps k []) held (get_or free k 0)
