-- Why a call on the maps of a volume is refused.
use Rattle.std.specs.Prelude.{◌≡◌, ◌⊎◌, ℕ, ◌*◌, ◌/◌, ◌<◌, Some, sum}
use Rattle.cfs_base.specs.Calls.{HasStopped}
use Rattle.cfs_base.specs.Codes.{no_entry, other_count}
use Rattle.cfs_base.specs.Run.{Tells}
use Rattle.cfs_base.specs.declared.disk.Disk.{Ghosts}
use Rattle.cfs_base.specs.declared.refusal.Damage.{Damage}
use Rattle.cfs_base.specs.declared.refusal.Refused.{Refused}
use Rattle.cfs_base.specs.declared.refusal.Refused.TheVariants as refused
use Rattle.cfs_base.specs.declared.refusal.Trouble.{Trouble}
use Rattle.cfs_base.specs.declared.refusal.Trouble.TheVariants as trouble
use Rattle.cyl_map.specs.Volume.{map_of}
use Rattle.cyl_alloc.specs.Counts.{IsFirstAbove}
use Rattle.cyl_alloc.specs.Space.{Kept, IsBadMap, IsGoodMap, IsMiscounted}

-- ---- the map of one block

-- the map block of this block was read, and is no map
pub record IsNoMap {D : Type 0} (g : Ghosts D) (old : D) (n : ℕ) (damage : Damage) : Type 0 where
  pub code : damage.code ≡ no_entry
  pub block : damage.block ≡ map_of n
  pub bad : Tells g old → IsBadMap (g.content old) n

-- a device call failed, or the map block of this block is no map
abbrev pub IsMapTrouble : {D : Type 0} → Ghosts D → D → D → ℕ → Trouble → Type 0
IsMapTrouble g old new n (trouble.Disk tried) = HasStopped g tried old new
IsMapTrouble g old new n (trouble.Damaged damage) = IsNoMap g old n damage

-- ---- the least-numbered Free block

-- no Free block was found in the first map that has one by the counts: it is no map, or has none
pub record IsNoFind {D : Type 0} (g : Ghosts D) (old : D) (kept : Kept) (damage : Damage) : Type 0 where
  pub block : damage.block ≡ map_of damage.block
  pub on_disk : damage.block < g.blocks old
  pub first : IsFirstAbove kept.free (Some (damage.block / 64))
  pub why : ((damage.code ≡ no_entry) × (Tells g old → IsBadMap (g.content old) damage.block))
      ⊎ ((damage.code ≡ other_count) × IsMiscounted (Tells g old) (g.content old) kept damage.block)

-- no block is Free, a device call failed, or no Free block was found where one was counted
abbrev pub IsFindRefusal : {D : Type 0} → Ghosts D → D → D → Kept → Refused → Type 0
IsFindRefusal g old new kept (refused.Full need) = (need.free ≡ 0) × (need.need ≡ 1) × (sum kept.free ≡ 0)
IsFindRefusal g old new kept (refused.Disk tried) = HasStopped g tried old new
IsFindRefusal g old new kept (refused.Damaged damage) = IsNoFind g old kept damage
IsFindRefusal g old new kept refused.Memory = ⊥

-- ---- all maps

-- the first map block of the disk that is no map
pub record IsFirstNoMap {D : Type 0} (g : Ghosts D) (old : D) (damage : Damage) : Type 0 where
  pub code : damage.code ≡ no_entry
  pub block : damage.block ≡ map_of damage.block
  pub on_disk : damage.block < g.blocks old
  pub bad : Tells g old → IsBadMap (g.content old) damage.block
  pub first : Tells g old → (j : ℕ) → 64 * j < damage.block → IsGoodMap (g.content old) (64 * j)

-- a device call failed, some map block is no map, or there was no memory
abbrev pub IsCountRefusal : {D : Type 0} → Ghosts D → D → D → Refused → Type 0
IsCountRefusal g old new (refused.Full need) = ⊥
IsCountRefusal g old new (refused.Disk tried) = HasStopped g tried old new
IsCountRefusal g old new (refused.Damaged damage) = IsFirstNoMap g old damage
IsCountRefusal g old new refused.Memory = Unit {0}
