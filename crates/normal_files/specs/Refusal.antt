-- Why a call on a file is refused.
use Rattle.std.specs.Prelude.{◌≡◌, ℕ, ◌+◌, ◌<◌, sum}
use Rattle.cfs_base.specs.Calls.{HasStopped}
use Rattle.cfs_base.specs.Codes.{no_root, past_disk}
use Rattle.cfs_base.specs.Disk.{block_at}
use Rattle.cfs_base.specs.Run.{Tells}
use Rattle.cfs_base.specs.declared.disk.Disk.{Ghosts}
use Rattle.cfs_base.specs.declared.refusal.Damage.{Damage}
use Rattle.cfs_base.specs.declared.refusal.Refused.{Refused}
use Rattle.cfs_base.specs.declared.refusal.Trouble.{Trouble}
use Rattle.cyl_alloc.specs.Space.{Kept}
use Rattle.block_tree.specs.Pointers.{leaf_pointers}
use Rattle.block_tree.specs.Root.{IsRootBlock}
use Rattle.leaf_changes.specs.Tops.{IsFarBlock, Top}
use Rattle.cfs_base.specs.declared.refusal.Refused.TheVariants as refusals
use Rattle.cfs_base.specs.declared.refusal.Trouble.TheVariants as trouble
use Rattle.block_tree.specs.declared.root.Root as roots

-- What is wrong with the block that is named: the root block is no root, or a pointer of a node, or of the root from
-- which the call goes down, leads past the disk.
pub data IsDamage {D : Type 0} (g : Ghosts D) (at : Top) (old : D) (damage : Damage) : Type 0 where
  NoRoot : damage.code ≡ no_root → damage.block ≡ at.block
      → (Tells g old → (root : roots.Root) → ¬ IsRootBlock (block_at (g.content old) at.block) root)
      → IsDamage g at old damage
  FarRoot : damage.code ≡ past_disk → damage.block ≡ at.block → at.IsFar (g.blocks old) → IsDamage g at old damage
  FarNode : damage.code ≡ past_disk
      → (Tells g old → IsFarBlock (g.blocks old) (g.content old) leaf_pointers damage.block) → IsDamage g at old damage

-- a device call failed, or a block that was read is damaged
abbrev pub IsTrouble : {D : Type 0} → Ghosts D → Top → D → D → Trouble → Type 0
IsTrouble g at old new (trouble.Disk tried) = HasStopped g tried old new
IsTrouble g at old new (trouble.Damaged damage) = IsDamage g at old damage

-- fewer blocks are Free than are needed plus the floor, a device call failed, or a block that was read is damaged in
-- this way
abbrev pub IsRefusal : {D : Type 0} → Ghosts D → (Damage → Type 0) → (floor : ℕ) → D → D → Kept → Refused → Type 0
IsRefusal g IsSo floor old new kept (refusals.Full need) =
    (need.free ≡ sum kept.free) × (sum kept.free < need.need + floor)
IsRefusal g IsSo floor old new kept (refusals.Disk tried) = HasStopped g tried old new
IsRefusal g IsSo floor old new kept (refusals.Damaged damage) = IsSo damage
IsRefusal g IsSo floor old new kept refusals.Memory = ⊥
