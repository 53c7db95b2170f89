-- How an index is read.
use Rattle.std.specs.Prelude.{◌≡◌, ℕ, ◌<◌, false, length, Option, IfErr, IfOk, Result}
use Rattle.block_tree.specs.Reads.{is_damage}
use Rattle.cfs_base.specs.declared.identifier.Puid.{Puid}
use Rattle.cfs_base.specs.declared.refusal.Trouble.{Trouble}
use Rattle.ufs_model.specs.Object.{slot_of}
use Rattle.ufs_model.specs.declared.object.Index.{Index}

-- what one of its slots holds; no damage is met
pub record FindsIn (i : Index) (slot : ℕ) (result : Result (Option Puid) Trouble) : Type 0 where
  pub found : slot < length i.slots → IfOk result (λ what. what ≡ slot_of i slot)
  pub sound : IfErr result (λ trouble. is_damage trouble ≡ false)
