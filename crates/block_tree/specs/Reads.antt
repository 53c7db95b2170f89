-- Blocks of a tree that are read, and why following pointers ends.
use Rattle.std.specs.Prelude.{◌≡◌, ◌≢◌, ℕ, zero, suc, ◌<◌, ◌≤◌, Bool, true, false, List, get_or, replicate, Option}
use Rattle.std.specs.Prelude.{Some, None}
use Rattle.cfs_base.specs.Calls.{HasFailed, HasStopped}
use Rattle.cfs_base.specs.Codes.{no_root, past_disk}
use Rattle.cfs_base.specs.Disk.{Image, block_at}
use Rattle.cfs_base.specs.Run.{Tells}
use Rattle.cfs_base.specs.declared.disk.Disk.{Ghosts}
use Rattle.cfs_base.specs.declared.refusal.Damage.{Damage}
use Rattle.cfs_base.specs.declared.refusal.Trouble.{Trouble}
use Rattle.cfs_base.specs.declared.refusal.Trouble.TheVariants as trouble
use Rattle.block_tree.specs.Pointers.{leaf_pointers, pointers_of}
use Rattle.block_tree.specs.Root.{IsRootBlock}
use Rattle.block_tree.specs.declared.fault.TreeFault.{TreeFault}
use Rattle.block_tree.specs.declared.fault.TreeFault.TheVariants as faults
use Rattle.block_tree.specs.declared.follow.Pointer.{Pointer}
use Rattle.block_tree.specs.declared.root.Root.{Root}

-- a number that is not 0, and is no block of a disk of this size
abbrev pub IsPast : ℕ → ℕ → Type 0
IsPast size block = (block ≢ 0) × (size ≤ block)

-- Why following pointers ended: a device call failed, or this pointer is past the disk's end and, if the disk tells
-- its content, has P.
abbrev pub IsFault : {D : Type 0} → Ghosts D → D → D → (Pointer → Type 0) → TreeFault → Type 0
IsFault g old new P faults.Disk = HasFailed g old new
IsFault g old new P (faults.BadPointer block holder) =
    IsPast (g.blocks old) block × (Tells g old → P (record { holder = holder; block = block }))

-- the block that has a pointer: a node, or the root in block r
abbrev pub holder_block : ℕ → Option ℕ → ℕ
holder_block r None = r
holder_block r (Some block) = block

-- what is reported of it: a failed device call as it is, and a pointer past the disk by the block that has it
abbrev pub trouble_of : ℕ → TreeFault → Trouble
trouble_of r faults.Disk = trouble.Disk false
trouble_of r (faults.BadPointer block holder) =
    trouble.Damaged (record { block = holder_block r holder; code = past_disk })

-- ---- nodes

-- the leaf pointers of the node at a block; if that is 0 the node is absent, and has no leaf
abbrev pub leaves_at : Image → ℕ → List ℕ
leaves_at image zero = replicate leaf_pointers.count 0
leaves_at image (suc n) = pointers_of leaf_pointers (block_at image (suc n))

-- the node at a block is on a disk of this size, and so is each leaf to which it points
pub record IsNear (size : ℕ) (image : Image) (block : ℕ) : Type 0 where
  pub here : block < size
  pub leaves : (k : ℕ) → get_or (leaves_at image block) k 0 < size

-- ---- why a root, a node or a leaf can't be read: a device call failed, or the block with the damage is named

abbrev pub is_damage : Trouble → Bool
is_damage (trouble.Disk tried) = false
is_damage (trouble.Damaged damage) = true

-- a device call failed
abbrev pub HasStoppedBy : {D : Type 0} → Ghosts D → D → D → Trouble → Type 0
HasStoppedBy g old new (trouble.Disk tried) = HasStopped g tried old new
HasStoppedBy g old new (trouble.Damaged damage) = ⊥

-- or the block that should be a root is no root
abbrev pub IsRootTrouble : {D : Type 0} → Ghosts D → ℕ → D → D → Trouble → Type 0
IsRootTrouble g at old new (trouble.Disk tried) = (tried ≡ false) × HasStopped g tried old new
IsRootTrouble g at old new (trouble.Damaged damage) = (damage ≡ record { block = at; code = no_root })
    × (Tells g old → (root : Root) → ¬ IsRootBlock (block_at (g.content old) at) root)

-- the pointer to a node, which its holder has, leads past the disk, or one of the node's own pointers does
pub data IsNodeDamage {D : Type 0} (g : Ghosts D) (block holder : ℕ) (old : D) (damage : Damage) : Type 0 where
  Far : damage ≡ record { block = holder; code = past_disk } → IsPast (g.blocks old) block
      → IsNodeDamage g block holder old damage
  FarLeaf : damage ≡ record { block = block; code = past_disk }
      → (Tells g old → (k : ℕ)
      × (g.blocks old ≤ get_or (pointers_of leaf_pointers (block_at (g.content old) block)) k 0))
      → IsNodeDamage g block holder old damage

abbrev pub IsNodeTrouble : {D : Type 0} → Ghosts D → (block holder : ℕ) → D → D → Trouble → Type 0
IsNodeTrouble g block holder old new (trouble.Disk tried) = (tried ≡ false) × HasStopped g tried old new
IsNodeTrouble g block holder old new (trouble.Damaged damage) = IsNodeDamage g block holder old damage
