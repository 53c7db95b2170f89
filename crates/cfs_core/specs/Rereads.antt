-- A root that is read again once parts of a commit were made.
use Rattle.std.specs.Prelude.{◌≡◌, ◌≢◌, ℕ, ◌+◌, ◌*◌, ◌<◌, ◌≤◌, Bool, true, false, length, Result, Ok, IfErr, IfOk}
use Rattle.block_tree.specs.Pointers.{size_limit}
use Rattle.block_tree.specs.declared.root.Root.{Root}
use Rattle.cfs_base.specs.Calls.{OnlyReads}
use Rattle.cfs_base.specs.Run.{Tells}
use Rattle.cfs_base.specs.declared.disk.Disk.{Ghosts}
use Rattle.cfs_base.specs.declared.refusal.Refused.{Refused}
use Rattle.cfs_base.specs.declared.refusal.Refused.TheVariants as refusals
use Rattle.normal_files.specs.Standing.{IsRootAt}
use Rattle.special_files.specs.Refusal.{has_met_damage}
use Rattle.ufs_model.specs.declared.object.Index.{Index}
use Rattle.ufs_model.specs.declared.object.Object.TheVariants as objects
use Rattle.cfs_core.specs.Damage.{IsOutside}
use Rattle.cfs_core.specs.Looks.{IsReadCause, KnowsObject}

-- If parts were made, the root is the one that the block has now, and else that which was read. It has the slot.
pub record RereadsIndex {D : Type 0} (g : Ghosts D) (at : ℕ) (tried : Bool) (read : Root) (slot : ℕ) (old new : D)
    (result : Result Root Refused) : Type 0 where
  pub anew : tried ≡ true → Tells g old → IfOk result (IsRootAt (g.content old) at)
  pub same : tried ≡ false → (result ≡ Ok read) × (new ≡ old)
  pub within : IfOk result (λ root. 8 * slot + 8 ≤ root.size)
  pub limit : IfOk result (λ root. root.size ≤ size_limit)
  pub reads : OnlyReads g 1 old new
  -- it is refused for the block, and no damage is met if the index has the slot
  pub cause : IfErr result
      (IsReadCause g (IsOutside (Tells g old) (g.content old) (g.blocks old) (λ n. n ≡ at) (8 * slot + 8)) old new)
  pub sound : (i : Index) → KnowsObject g old at (objects.Index i) → slot < length i.slots
      → IfErr result (λ e. has_met_damage e ≡ false)
  pub never : IfErr result (λ e. e ≢ refusals.Memory)
