-- How a draft is read.
use Rattle.std.specs.Prelude.{◌≡◌, ℕ, ◌+◌, false, List, length, slice_range, Option, IfErr, IfOk, OnOk, Result}
use Rattle.block_tree.specs.Reads.{is_damage}
use Rattle.cfs_base.specs.Calls.{OnlyReads}
use Rattle.cfs_base.specs.Refusals.{trouble_had_tried}
use Rattle.cfs_base.specs.declared.disk.Disk.{Ghosts}
use Rattle.cfs_base.specs.declared.identifier.Puid.{Puid}
use Rattle.cfs_base.specs.declared.refusal.Trouble.{Trouble}
use Rattle.cyl_alloc.specs.Space.{Kept}
use Rattle.special_files.specs.Drafting.{Drafting}
use Rattle.special_files.specs.Refusal.{IsDraftTrouble, top_of}
use Rattle.special_files.specs.View.{DraftSeen}
use Rattle.ufs_model.specs.Object.{slot_of}
use Rattle.ufs_model.specs.declared.object.File.{File}
use Rattle.ufs_model.specs.declared.object.Index.{Index}
use Rattle.ufs_model.specs.declared.object.Object.TheVariants as objects

-- The part has the bytes of the draft of the model. No damage is met if the disk holds the object.
pub record ReadsDraft {D : Type 0} {g : Ghosts D} {disk : D} {was : Drafting} (v : DraftSeen g disk was) (offset : ℕ)
    (old new : List ℕ) (result : Result (Unit {0}) Trouble) : Type 0 where
  pub bytes : (f : File) → v.draft.object ≡ objects.File f
      → OnOk result (new ≡ slice_range f.bytes offset (offset + length old))
  pub sound : IfErr result (λ trouble. is_damage trouble ≡ false)

-- what a slot of the draft of an index holds
pub record FindsSlot {D : Type 0} {g : Ghosts D} {disk : D} {was : Drafting} (v : DraftSeen g disk was) (slot : ℕ)
    (result : Result (Option Puid) Trouble) : Type 0 where
  pub found : (i : Index) → v.draft.object ≡ objects.Index i → IfOk result (λ what. what ≡ slot_of i slot)
  pub sound : IfErr result (λ trouble. is_damage trouble ≡ false)

-- how such a call ends on any disk: at most n reads are made
pub record ReadCall {D A : Type 0} (g : Ghosts D) (n : ℕ) (old new : D) (was : Drafting)
    (result : Result A Trouble) : Type 0 where
  pub refused : (kept : Kept) → IfErr result (IsDraftTrouble g (top_of was) old new kept)
  pub untried : IfErr result (λ trouble. trouble_had_tried trouble ≡ false)
  pub reads : OnlyReads g n old new
