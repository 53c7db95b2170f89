-- How many blocks of each cylinder are Free, and what the maps of a volume say of them.
use Rattle.std.specs.Prelude.{◌≡◌, ◌≢◌, ℕ, ◌+◌, ◌-◌, ◌*◌, ◌/◌, ◌<◌, ◌≤◌, min, true, false, List, length, get_or, set}
use Rattle.std.specs.Prelude.{sum, None, Option, Some, IsSome}
use Rattle.cfs_base.specs.Disk.{Image}
use Rattle.cfs_base.specs.declared.kind.Place.{Place}
use Rattle.cyl_map.specs.declared.state.BlockState.{BlockState}
use Rattle.cyl_map.specs.declared.state.BlockState.TheVariants.{Free, Allocated, IntendAllocate}
use Rattle.cyl_map.specs.declared.entry.MapEntry.{MapEntry}
use Rattle.cyl_map.specs.Volume.{entry_in, is_free_in, free_from, map_of}
use Rattle.cyl_alloc.specs.Left.{LeftCommit}

-- what a space keeps: how many blocks of each cylinder are Free, and a commit that isn't carried out
pub record Kept : Type 0 where
  pub free : List ℕ
  pub left : Option LeftCommit

-- ---- one count changed

-- the count of a block's cylinder
abbrev pub count_at : Kept → ℕ → ℕ
count_at kept n = get_or kept.free (n / 64) 0

-- another count for a block's cylinder
abbrev pub with_count : Kept → ℕ → ℕ → Kept
with_count kept n count = record kept { free = set kept.free (n / 64) count }

-- one block less is Free
abbrev pub after_taking : Kept → ℕ → Kept
after_taking kept n = with_count kept n (count_at kept n - 1)

-- `count` more blocks are Free, as far as the cylinder has them
abbrev pub after_giving : Kept → ℕ → ℕ → Kept
after_giving kept n count = with_count kept n (min 64 (count_at kept n + count))

-- at most `most` blocks were taken, there are as many cylinders, and what is left of a commit stays
pub record TakesAtMost (most : ℕ) (before after : Kept) : Type 0 where
  pub cylinders : length after.free ≡ length before.free
  pub left : after.left ≡ before.left
  pub takes : sum before.free ≤ sum after.free + most

-- ---- the maps of an image

-- how many blocks of a cylinder are Free
unfoldable pub free_in_cylinder : Image → ℕ → ℕ
free_in_cylinder image j = free_from image (64 * j) 64

-- the counts are those of the image's maps
pub record AreCounts (image : Image) (kept : Kept) : Type 0 where
  pub size : length image ≡ 64 * length kept.free
  pub each : (j : ℕ) → j < length kept.free → get_or kept.free j 0 ≡ free_in_cylinder image j

-- Block n is a map block, by whose count some blocks of its cylinder are Free. If the disk tells its content, none
-- is.
pub record IsMiscounted (Told : Type 0) (image : Image) (kept : Kept) (n : ℕ) : Type 0 where
  pub map : n ≡ map_of n
  pub counted : 0 < count_at kept n
  pub none : Told → free_in_cylinder image (n / 64) ≡ 0

-- the image has as many blocks, and in each cylinder but that of block n as many are Free
pub record IsFreeElsewhere (image : Image) (n : ℕ) (other : Image) : Type 0 where
  pub size : length other ≡ length image
  pub same : (m : ℕ) → map_of m ≢ map_of n → is_free_in other m ≡ is_free_in image m

-- `count` more blocks are Free in the cylinder of block n, and as many elsewhere
pub record HasMoreFree (image : Image) (n count : ℕ) (other : Image) : Type 0 where
  pub elsewhere : IsFreeElsewhere image n other
  pub more : free_in_cylinder other (n / 64) ≡ free_in_cylinder image (n / 64) + count

-- the least-numbered Free block
pub record IsLeastFree (image : Image) (n : ℕ) : Type 0 where
  pub free : is_free_in image n ≡ true
  pub least : (m : ℕ) → m < n → is_free_in image m ≡ false

-- the map block of a block is no map: the bytes of some entry spell none
abbrev pub IsBadMap : Image → ℕ → Type 0
IsBadMap image n = (k : ℕ) × (k < 64) × (entry_in image (map_of n + k) ≡ None)

-- the bytes of each of its 64 entries spell one
abbrev pub IsGoodMap : Image → ℕ → Type 0
IsGoodMap image n = (k : ℕ) → k < 64 → IsSome (entry_in image (map_of n + k))

-- ---- the entries that are written

-- a block that has a place in an object
abbrev pub entered : BlockState → Place → ℕ → MapEntry
entered state place owner = record { state = state; committed = false; place = Some place; owner = owner }

-- a block that an object holds
abbrev pub allocated : Place → ℕ → MapEntry
allocated place owner = entered Allocated place owner

-- a block that an object will hold once its draft is committed
abbrev pub intended : Place → ℕ → MapEntry
intended place owner = entered IntendAllocate place owner

-- a block that nobody holds
abbrev pub unheld_entry : MapEntry
unheld_entry = record { state = Free; committed = false; place = None; owner = 0 }
