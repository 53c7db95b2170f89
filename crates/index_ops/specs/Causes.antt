-- Why an index can't be read.
use Rattle.std.specs.Prelude.{◌≡◌, ℕ, false}
use Rattle.cfs_base.specs.Calls.{HasFailed}
use Rattle.cfs_base.specs.Codes.{past_disk}
use Rattle.cfs_base.specs.Disk.{Image}
use Rattle.cfs_base.specs.Run.{Tells}
use Rattle.cfs_base.specs.declared.disk.Disk.{Ghosts}
use Rattle.cfs_base.specs.declared.refusal.Damage.{Damage}
use Rattle.cfs_base.specs.declared.refusal.Trouble.{Trouble}
use Rattle.cfs_base.specs.declared.refusal.Trouble.TheVariants as trouble
use Rattle.block_tree.specs.Reads.{holder_block}
use Rattle.block_tree.specs.Root.{root_spelling}
use Rattle.block_tree.specs.Tree.{PastOn}
use Rattle.block_tree.specs.declared.follow.Pointer.{Pointer}
use Rattle.block_tree.specs.declared.root.Root.{Root}

-- ---- what is wrong with the block that is named

-- on a disk of this size a pointer on the way to a leaf of this root, which is in block `at`, leads past the end; the
-- damage names the block that has it
pub record IsFarLeaf (image : Image) (size at : ℕ) (root : Root) (leaf : ℕ) (damage : Damage) : Type 0 where
  pub pointer : Pointer
  pub past : PastOn image size (root_spelling root) leaf pointer
  pub block : damage.block ≡ holder_block at pointer.holder

-- ---- why a call is refused: a device call failed, or a block is damaged

abbrev pub IsLeafTrouble : {D : Type 0} → Ghosts D → ℕ → Root → ℕ → D → D → Trouble → Type 0
IsLeafTrouble g at root leaf old new (trouble.Disk tried) = (tried ≡ false) × HasFailed g old new
IsLeafTrouble g at root leaf old new (trouble.Damaged damage) =
    (damage.code ≡ past_disk) × (Tells g old → IsFarLeaf (g.content old) (g.blocks old) at root leaf damage)
