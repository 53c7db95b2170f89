-- How an object is opened.
use Rattle.std.specs.Prelude.{◌≡◌, ℕ, ◌+◌, ◌<◌, ◌≤◌, Bool, true, false, sum}
use Rattle.std.specs.Prelude.{Option, Some, None, Result, Ok, Err, IfErr, IfOk, IfSome}
use Rattle.cfs_base.specs.Calls.{HasStopped, MakesAtMost, OnlyReads}
use Rattle.cfs_base.specs.Run.{Leaves}
use Rattle.cfs_base.specs.declared.disk.Disk.{Ghosts}
use Rattle.cfs_base.specs.declared.kind.Kind.{Kind}
use Rattle.cfs_base.specs.declared.kind.Kind.TheVariants as kinds
use Rattle.cfs_base.specs.declared.kind.Mode.{Mode}
use Rattle.cfs_base.specs.declared.kind.Mode.TheVariants as modes
use Rattle.cfs_base.specs.declared.refusal.Refused.{Refused}
use Rattle.cfs_base.specs.declared.refusal.Refused.TheVariants as refusals
use Rattle.cyl_alloc.specs.Space.{Kept}
use Rattle.leaf_changes.specs.Tops.{Top, still_top}
use Rattle.open_table.specs.declared.fault.AcquireFault.{AcquireFault}
use Rattle.open_table.specs.declared.fault.AcquireFault.TheVariants as faults
use Rattle.special_files.specs.Begins.{OpensDraft, drafts_begun, equal_to}
use Rattle.special_files.specs.Drafting.{Drafting, IsOpen}
use Rattle.special_files.specs.Refusal.{IsDraftDamage}
use Rattle.special_files.specs.View.{IsShut, ObjectView}
use Rattle.ufs_model.specs.declared.asked.Reply.{Reply}
use Rattle.ufs_model.specs.declared.asked.Reply.TheVariants as replies
use Rattle.ufs_model.specs.Limits.{reserve}
use Rattle.vol_image.specs.Sound.{Holds}

-- an object of this kind gets a draft when it is opened in this mode
abbrev pub gets_draft : Kind → Mode → Bool
gets_draft kinds.Special modes.Writing = true
gets_draft kinds.Special modes.Reading = false
gets_draft kinds.Normal mode = false
gets_draft kinds.Index modes.Writing = true
gets_draft kinds.Index modes.Reading = false

abbrev pub reply_to_fault : AcquireFault → Reply
reply_to_fault (faults.Locked mode) = replies.Locked
reply_to_fault faults.Grants = replies.Grants

-- ---- how a draft begins

-- The store has the draft, and each image that a crash leaves has the objects. A block was Free for it beside the last
-- four.
pub record IsBegun {D : Type 0} {g : Ghosts D} {old : D} {before : Kept} {at : ℕ} (v : ObjectView g old before at)
    (new : D) (after : Kept) (drafting : Drafting) : Type 0 where
  pub opens : OpensDraft v new after drafting
  pub opened : IsOpen (drafts_begun v drafting) v.id drafting (equal_to v.object)
  pub bare : drafting.created ≡ None
  pub leaves : Leaves g old new (λ c. Holds c v.graph)
  pub free : 1 + reserve ≤ sum before.free

-- how it ends if the store has the object, which has no draft, by whether it is to have one
abbrev pub BeginsSo : {D : Type 0} {g : Ghosts D} {old : D} {before : Kept} {at : ℕ} → ObjectView g old before at
    → (wanted : Bool) → D → Kept → Result (Option Drafting) Refused → Type 0
BeginsSo {old = old} {before = before} v wanted new after (Ok None) =
    (wanted ≡ false) × (new ≡ old) × (after ≡ before)
BeginsSo v wanted new after (Ok (Some drafting)) = (wanted ≡ true) × IsBegun v new after drafting
BeginsSo {g = g} {old = old} {before = before} v wanted new after (Err (refusals.Full need)) = (wanted ≡ true)
    × (need ≡ record { free = sum before.free; need = 1 }) × (sum before.free < 1 + reserve) × OnlyReads g 2 old new
    × (after ≡ before)
BeginsSo {g = g} {old = old} {before = before} v wanted new after (Err (refusals.Disk false)) =
    OnlyReads g 2 old new × (after ≡ before)
BeginsSo {g = g} {old = old} v wanted new after (Err (refusals.Disk true)) = Leaves g old new (λ c. Holds c v.graph)
BeginsSo v wanted new after (Err (refusals.Damaged damage)) = ⊥
BeginsSo {g = g} {old = old} {before = before} v wanted new after (Err refusals.Memory) =
    OnlyReads g 2 old new × (after ≡ before)

-- why no draft begins: as many blocks were counted Free as it says, which is too few beside the floor; a device call
-- failed; a block that was read is damaged; or there was no memory
abbrev pub IsRefusalOrMemory : {D : Type 0} → Ghosts D → Top → ℕ → D → D → (before after : Kept) → Refused → Type 0
IsRefusalOrMemory g at floor old new before after (refusals.Full need) =
    (need.free ≡ sum before.free) × (need.free < need.need + floor)
IsRefusalOrMemory g at floor old new before after (refusals.Disk tried) = HasStopped g tried old new
IsRefusalOrMemory g at floor old new before after (refusals.Damaged damage) = IsDraftDamage g at old new after damage
IsRefusalOrMemory g at floor old new before after refusals.Memory = Unit {0}

pub record Begins {D : Type 0} (g : Ghosts D) (at : ℕ) (wanted : Bool) (old new : D) (before after : Kept)
    (result : Result (Option Drafting) Refused) : Type 0 where
  pub ends : (v : ObjectView g old before at) → (wanted ≡ true → IsShut v) → BeginsSo v wanted new after result
  pub ready : IfOk result (λ o.
      IfSome o (λ drafting. (wanted ≡ true) × (drafting.at ≡ at) × ((s : ℕ) × (drafting.shadow ≡ Some s))
      × (drafting.created ≡ None)))
  pub cause : IfErr result (IsRefusalOrMemory g (still_top at) reserve old new before after)
  pub left : after.left ≡ before.left
  pub calls : MakesAtMost g 3 1 old new
