-- The map blocks that a cache holds, and what each call makes of them.
use Rattle.std.specs.Prelude.{◌≡◌, ◌≢◌, ◌⊎◌, ◌%◌, ◌≤◌, ℕ, Bool, false, IsTrue}
use Rattle.std.specs.Prelude.{List, [], Option, Some, is_some, length, nat_eq}
use Rattle.std.specs.Map.{lookup}
use Rattle.cfs_base.specs.Outside.{count_after}
use Rattle.lru.specs.LruCache.{lru_cache, promoted, put_entries}
use Rattle.map_cache.specs.declared.held.Stage.{Stage}
use Rattle.map_cache.specs.declared.held.Stage.TheVariants.{Waiting, Keeping, Over}

-- blocks by their numbers, with their bytes, the last used first
abbrev pub Blocks : Type 0
Blocks = List (ℕ × List ℕ)

-- what is held, how many blocks there may be at most, how far the cache has come, and how often a block wasn't held
-- for want of memory, up to the last number of a u64
pub record Holding : Type 0 where
  pub blocks : Blocks
  pub capacity : ℕ
  pub stage : Stage
  pub wants : ℕ

abbrev pub holding : Blocks → ℕ → Stage → ℕ → Holding
holding blocks capacity stage wants =
    record { blocks = blocks; capacity = capacity; stage = stage; wants = wants }

-- the bytes of a block that is held
abbrev pub held_block : Holding → ℕ → Option (List ℕ)
held_block h n = lookup (nat_eq n) h.blocks

-- whether a block is held
abbrev pub has_map : Holding → ℕ → Bool
has_map h n = is_some (held_block h n)

-- What is true of every cache.
pub record IsHolding (h : Holding) : Type 0 where
  pub room : 1 ≤ h.capacity
  pub few : length h.blocks ≤ h.capacity
  -- only map blocks are held
  pub maps : (n : ℕ) → IsTrue (has_map h n) → n % 64 ≡ 0
  -- nothing is held before a barrier is done, nor after a write or a barrier that failed
  pub none : h.stage ≢ Keeping → h.blocks ≡ []

-- the cache after a look-up: a block that is held comes to the front
abbrev pub found : Holding → ℕ → Holding
found h n = record h { blocks = promoted (nat_eq n) h.blocks }

-- the blocks with this one in front; a new one pushes the last out of a full cache
abbrev pub with_front : Holding → ℕ → List ℕ → Blocks
with_front h n block = put_entries nat_eq (lru_cache h.blocks h.capacity) n block

-- The block is held with these bytes, in front. Another block is dropped only if it was the last of a full cache.
pub record IsPutInFront (old new : Holding) (n : ℕ) (block : List ℕ) : Type 0 where
  pub front : new.blocks ≡ with_front old n block
  pub is_held : held_block new n ≡ Some block
  pub no_want : new.wants ≡ old.wants

-- For want of memory, which is counted, the block isn't held, and wasn't before. What was held still is.
pub record IsStarved (old new : Holding) (n : ℕ) : Type 0 where
  pub stays : new.blocks ≡ old.blocks
  pub not_held : has_map old n ≡ false
  pub want : new.wants ≡ count_after old.wants

-- A block was read or written with these bytes, and the call of the lower disk is done.
pub record TakesIn (old new : Holding) (n : ℕ) (block : List ℕ) : Type 0 where
  -- while blocks are kept a map block is put in front, unless there was no memory
  pub put : old.stage ≡ Keeping → n % 64 ≡ 0 → IsPutInFront old new n block ⊎ IsStarved old new n
  pub no_map : n % 64 ≢ 0 → new ≡ old
  pub not_kept : old.stage ≢ Keeping → new ≡ old
  -- if this block is held, it has these bytes
  pub this : (bytes : List ℕ) → held_block new n ≡ Some bytes → bytes ≡ block
  -- any other block that is held was held before
  pub others : (m : ℕ) (bytes : List ℕ) → m ≢ n → held_block new m ≡ Some bytes → held_block old m ≡ Some bytes
  pub capacity : new.capacity ≡ old.capacity
  pub stage : new.stage ≡ old.stage

-- the stage after a barrier that is done
abbrev pub stage_after_barrier : Stage → Stage
stage_after_barrier Waiting = Keeping
stage_after_barrier Keeping = Keeping
stage_after_barrier Over = Over

-- blocks are kept from the first barrier that is done, but never after a write or a barrier that failed
abbrev pub after_barrier : Holding → Holding
after_barrier h = record h { stage = stage_after_barrier h.stage }

-- after a write or a barrier that failed nothing is held any more
abbrev pub after_failure : Holding → Holding
after_failure h = record h { blocks = []; stage = Over }
