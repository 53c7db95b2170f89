-- How bytes are written into a draft.
use Rattle.std.specs.Prelude.{◌≡◌, ℕ, ◌+◌, ◌-◌, ◌*◌, ◌/◌, ◌<◌, ◌≤◌, true, false, List, length, sum, IfErr, OnOk, Result}
use Rattle.cfs_base.specs.Calls.{HasTried}
use Rattle.cfs_base.specs.declared.disk.Disk.{Ghosts}
use Rattle.cfs_base.specs.declared.identifier.Puid.{Puid}
use Rattle.cfs_base.specs.declared.refusal.Refused.{Refused}
use Rattle.cfs_base.specs.declared.refusal.Refused.TheVariants as refusals
use Rattle.claims.specs.Claims.{AreClaimed}
use Rattle.cyl_alloc.specs.Space.{Kept}
use Rattle.leaf_changes.specs.Tops.{IsFarRoot}
use Rattle.special_files.specs.Becomes.{DraftBecomes}
use Rattle.special_files.specs.Drafting.{Drafting, IsOpen, need_beside, shadow_need}
use Rattle.special_files.specs.Ends.{EndsCall}
use Rattle.special_files.specs.Order.{claims_between}
use Rattle.special_files.specs.Puts.{StaysBut}
use Rattle.special_files.specs.Refusal.{is_full_refusal, top_of}
use Rattle.special_files.specs.View.{DraftView}
use Rattle.ufs_model.specs.Object.{leaves_in}
use Rattle.ufs_model.specs.State.{changed_draft}
use Rattle.ufs_model.specs.declared.change.Change.TheVariants.{Overwrite}
use Rattle.ufs_model.specs.declared.object.Draft.{Draft}
use Rattle.ufs_model.specs.declared.object.File.{File}
use Rattle.ufs_model.specs.declared.object.Object.TheVariants as objects
use Rattle.vol_owners.specs.Account.{Drafts}

-- The draft is that of the model with the bytes written. Each leaf that isn't fresh took the least Free block, and
-- after it its node, in increasing order.
pub record WritesDraft {D : Type 0} {g : Ghosts D} {old : D} {before : Kept} {was : Drafting}
    (v : DraftView g old before was) (offset : ℕ) (bytes : List ℕ) (new : D) (after : Kept)
    (now : Drafting) : Type 0 where
  pub becomes : (f : File) → v.draft.object ≡ objects.File f
      → DraftBecomes g v.graph v.ds v.id (changed_draft (Overwrite offset bytes) v.draft) old new after now
  pub order : AreClaimed (claims_between was (offset / 512) (leaves_in (offset + length bytes))) (g.content old)
      (g.content new)

-- how many blocks are needed
abbrev pub write_need : ℕ → List ℕ → Draft → Drafting → ℕ
write_need offset bytes d was = need_beside (Overwrite offset bytes) d was

-- how many leaves are written
abbrev pub leaves_written : ℕ → List ℕ → ℕ
leaves_written offset bytes = leaves_in (offset + length bytes) - offset / 512

-- how it ends on any disk
pub record WriteCall {D : Type 0} (g : Ghosts D) (offset : ℕ) (bytes : List ℕ) (floor : ℕ) (old new : D)
    (before after : Kept) (was now : Drafting) (result : Result (Unit {0}) Refused) : Type 0 where
  pub stays : StaysBut was now
  -- it is full exactly if the model's need plus the floor isn't Free, and all is as it was then
  pub full : IfErr result (λ e. is_full_refusal e ≡ true → (new ≡ old) × (after ≡ before) × (now ≡ was)
      × ((ds : Drafts) (id : Puid) (d : Draft) → IsOpen ds id was d
      → (e ≡ refusals.Full (record { free = sum before.free; need = write_need offset bytes d was }))
      × (sum before.free < write_need offset bytes d was + floor)))
  pub room : (ds : Drafts) (id : Puid) (d : Draft) → IsOpen ds id was d
      → OnOk result (write_need offset bytes d was + floor ≤ sum before.free)
  pub ends : EndsCall g (top_of was) floor (8 * leaves_written offset bytes) (4 * leaves_written offset bytes)
      (sum before.free) old new before after result
  -- a block is left for a shadow root
  pub spare : OnOk result (shadow_need was ≤ sum after.free)
  -- each pointer of its root that leads past the disk did so before
  pub near : IsFarRoot (g.blocks new) now.root → IsFarRoot (g.blocks new) was.root
  -- if there are bytes a leaf is written
  pub tried : 1 ≤ length bytes → OnOk result (HasTried g old new)
  pub kept : IfErr result (λ e. e ≡ refusals.Disk false → now ≡ was)
