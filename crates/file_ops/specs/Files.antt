-- How a file is read.
use Rattle.std.specs.Prelude.{◌≡◌, ℕ, ◌+◌, ◌≤◌, false, List, length, slice_range, IfErr, IfOk, Result}
use Rattle.block_tree.specs.Reads.{is_damage}
use Rattle.cfs_base.specs.Calls.{HasStopped}
use Rattle.cfs_base.specs.declared.disk.Disk.{Ghosts}
use Rattle.cfs_base.specs.declared.refusal.Refused.{Refused}
use Rattle.cfs_base.specs.declared.refusal.Refused.TheVariants as refusals
use Rattle.cfs_base.specs.declared.refusal.Trouble.{Trouble}
use Rattle.leaf_changes.specs.Tops.{Top}
use Rattle.normal_files.specs.Refusal.{IsDamage}
use Rattle.special_files.specs.Refusal.{has_met_damage}
use Rattle.ufs_model.specs.declared.object.File.{File}

-- its bytes from an offset on, and no damage is met
pub record ReadsFile (f : File) (offset count : ℕ) (result : Result (List ℕ) Refused) : Type 0 where
  pub bytes : offset + count ≤ length f.bytes
      → IfOk result (λ bytes. bytes ≡ slice_range f.bytes offset (offset + count))
  pub sound : IfErr result (λ e. has_met_damage e ≡ false)

-- its size, as a part of what is read, and no damage is met
pub record MeasuresFile {A : Type 0} (size : A → ℕ) (f : File) (result : Result A Trouble) : Type 0 where
  pub size_is : IfOk result (λ x. size x ≡ length f.bytes)
  pub sound : IfErr result (λ trouble. is_damage trouble ≡ false)

-- why a read is refused: there was no memory, and no call was made; a device call failed; or a block that was read is
-- damaged
abbrev pub IsReadRefusal : {D : Type 0} → Ghosts D → Top → D → D → Refused → Type 0
IsReadRefusal g at old new (refusals.Full need) = ⊥
IsReadRefusal g at old new (refusals.Disk tried) = HasStopped g tried old new
IsReadRefusal g at old new (refusals.Damaged damage) = IsDamage g at old damage
IsReadRefusal g at old new refusals.Memory = new ≡ old
