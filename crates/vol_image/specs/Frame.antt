-- Frames: what an image may become while all that is seen of a graph's objects stays.
use Rattle.std.specs.Prelude.{◌≡◌, ◌≢◌, ◌⊎◌, ℕ, ◌%◌, true, false, List, length, Option, Some}
use Rattle.cfs_base.specs.Disk.{Image, block_at}
use Rattle.cfs_base.specs.declared.identifier.Puid.{Puid}
use Rattle.cyl_map.specs.declared.state.BlockState.TheVariants.{Allocated}
use Rattle.cyl_map.specs.declared.entry.MapEntry.{MapEntry}
use Rattle.cyl_map.specs.Volume.{entry_in, AreMaps}
use Rattle.ufs_model.specs.declared.object.Object.{Object}
use Rattle.ufs_model.specs.Graph.{Graph, object_at}
use Rattle.vol_image.specs.Part.{SameAt, RootsOwnThemselves, part_at, part_of, is_committed, is_fixed, stands_for}
use Rattle.vol_image.specs.Seen.{Held}
use Rattle.vol_image.specs.Sight.{source, sight}

-- a block of the object with this root block: the root, the block by which it is read, or one to which that leads
abbrev pub IsBlockOf : Image → ℕ → ℕ → Type 0
IsBlockOf image r n = (n ≡ r)
    ⊎ ((n ≡ source image r)
    ⊎ ((path : List ℕ) × (h : Held) × ((sight image r).tree.below path ≡ Some h) × (h.block ≡ n)))

-- a block of some object of the graph
abbrev pub IsHeldBy : Image → Graph → ℕ → Type 0
IsHeldBy image g n = (id : Puid) × (o : Object) × (object_at g id ≡ Some o) × IsBlockOf image id.block n

-- Image b is within the frame of image a: it doesn't differ where a reading of a as this graph looks.
pub record Frames (a : Image) (g : Graph) (b : Image) : Type 0 where
  pub size : length b ≡ length a
  pub maps : AreMaps b
  pub own : RootsOwnThemselves b
  pub label : block_at b 1 ≡ block_at a 1
  pub fixed : (n : ℕ) → is_fixed n ≡ true → entry_in b n ≡ entry_in a n
  pub held : (n : ℕ) → IsHeldBy a g n → SameAt a b n
  -- the same shadow roots stand for the objects whose commit bit is set
  pub standing : (id : Puid) (o : Object) → object_at g id ≡ Some o → is_committed (part_at a id.block) ≡ true
      → (n : ℕ) → stands_for id.block (entry_in b n) ≡ stands_for id.block (entry_in a n)

-- the block is no map block, not the label, and not of any object of the graph
pub record IsLoose (image : Image) (g : Graph) (n : ℕ) : Type 0 where
  pub apart : is_fixed n ≡ false
  pub unheld : ¬ IsHeldBy image g n

-- a block with this entry is no shadow root of an object of the graph whose commit bit is set
abbrev pub StandsForNone : Image → Graph → MapEntry → Type 0
StandsForNone image g e = (id : Puid) (o : Object) → object_at g id ≡ Some o
    → is_committed (part_at image id.block) ≡ true → stands_for id.block (Some e) ≡ false

-- One entry may take the place of another: the block is no map block and not the label, a block that is held keeps
-- its part, and no shadow root of an object whose commit bit is set is made or ended.
pub record MayChange (image : Image) (g : Graph) (n : ℕ) (old new : Option MapEntry) : Type 0 where
  pub apart : is_fixed n ≡ false
  pub keeps : IsHeldBy image g n → part_of new ≡ part_of old
  pub standing : (id : Puid) (o : Object) → object_at g id ≡ Some o → is_committed (part_at image id.block) ≡ true
      → stands_for id.block new ≡ stands_for id.block old

-- Image b has the blocks of image c except its maps, in which each entry is the same or may take the place of the old
-- one.
pub record ChangesMaps (image : Image) (g : Graph) (c b : Image) : Type 0 where
  pub size : length b ≡ length c
  pub maps : AreMaps b
  pub own : RootsOwnThemselves b
  pub contents : (n : ℕ) → n % 64 ≢ 0 → block_at b n ≡ block_at c n
  pub entries : (n : ℕ) → (entry_in b n ≡ entry_in c n) ⊎ MayChange image g n (entry_in c n) (entry_in b n)

-- the object with this root block has no commit bit, and each of its blocks is Allocated
pub record IsAtRest (image : Image) (r : ℕ) : Type 0 where
  pub no_bit : is_committed (part_at image r) ≡ false
  pub each : (n : ℕ) (e : MapEntry) → IsBlockOf image r n → entry_in image n ≡ Some e → e.state ≡ Allocated
