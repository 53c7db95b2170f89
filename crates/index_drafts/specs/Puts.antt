-- A slot of the draft of an index, filled or emptied.
use Rattle.std.specs.Prelude.{◌≡◌, ◌⊎◌, ℕ, ◌+◌, ◌/◌, ◌<◌, ◌≤◌, false, sum, Option, None, Err, IfErr, Result}
use Rattle.block_tree.specs.Root.{root_spelling}
use Rattle.cfs_base.specs.declared.disk.Disk.{Ghosts}
use Rattle.cfs_base.specs.declared.identifier.Puid.{Puid}
use Rattle.cfs_base.specs.declared.refusal.Refused.{Refused}
use Rattle.cfs_base.specs.declared.refusal.Refused.TheVariants as refusals
use Rattle.claims.specs.Claims.{AreClaimed}
use Rattle.cyl_alloc.specs.Space.{Kept}
use Rattle.special_files.specs.Becomes.{DraftBecomes}
use Rattle.special_files.specs.Drafting.{Drafting, draft_takes}
use Rattle.special_files.specs.Ends.{EndsCall}
use Rattle.special_files.specs.Fills.{filled_draft}
use Rattle.special_files.specs.Leaves.{SameBeside}
use Rattle.special_files.specs.Order.{leaf_claims}
use Rattle.special_files.specs.Puts.{StaysBut}
use Rattle.special_files.specs.Refusal.{is_full_refusal, top_of}
use Rattle.special_files.specs.View.{DraftView, GoesHolding}
use Rattle.ufs_model.specs.Numbers.{missing}
use Rattle.ufs_model.specs.Object.{written_anew}
use Rattle.ufs_model.specs.declared.change.Change.TheVariants.{Fill}
use Rattle.ufs_model.specs.declared.object.Draft.{Draft}
use Rattle.ufs_model.specs.declared.object.Index.{Index}
use Rattle.ufs_model.specs.declared.object.Object.TheVariants as objects
use Rattle.vol_image.specs.Seen.{tree_in}

-- The store has the draft, and its draft of the model is this index.
pub record IndexView {D : Type 0} (g : Ghosts D) (disk : D) (space : Kept) (was : Drafting) : Type 0 where
  pub view : DraftView g disk space was
  pub index : Index
  pub is : view.draft.object ≡ objects.Index index

-- how many blocks a draft of the model takes for a slot
abbrev pub slot_need : ℕ → Draft → ℕ
slot_need slot d = missing (written_anew (Fill slot None) d.object d.fresh) d.fresh

-- The draft is the model's with this in the slot. If its leaf wasn't fresh it took the least Free block, and after it
-- its node. Or a slot that was to be emptied was empty, and nothing is done. No other leaf and node of its tree
-- changed.
pub record PutsInDraft {D : Type 0} {g : Ghosts D} {old : D} {before : Kept} {was : Drafting}
    (i : IndexView g old before was) (slot : ℕ) (what : Option Puid) (new : D) (after : Kept)
    (now : Drafting) : Type 0 where
  pub becomes : DraftBecomes g i.view.graph i.view.ds i.view.id (filled_draft i.index slot what i.view.draft) old new
      after
      now
  pub order : ((what ≡ None) × (g.content new ≡ g.content old) × (now ≡ was))
      ⊎ AreClaimed (leaf_claims was.at was.leaves was.nodes (slot / 64)) (g.content old) (g.content new)
  pub beside : SameBeside (slot / 64) (tree_in (g.content old) (root_spelling was.root))
      (tree_in (g.content new) (root_spelling now.root))

-- It is full exactly if fewer blocks are Free than these plus the floor. Nothing was done then.
pub record IsFullBelow {D A : Type 0} (need floor : ℕ) (old new : D) (before after : Kept) (was now : Drafting)
    (result : Result A Refused) : Type 0 where
  pub full : sum before.free < need + floor
      → (result ≡ Err (refusals.Full (record { free = sum before.free; need = need }))) × (new ≡ old)
      × (after ≡ before) × (now ≡ was)
  pub spare : need + floor ≤ sum before.free → IfErr result (λ e. is_full_refusal e ≡ false)

-- how it ends on any disk
pub record PutCall {D : Type 0} (g : Ghosts D) (slot floor : ℕ) (old new : D) (before after : Kept) (was now : Drafting)
    (result : Result (Unit {0}) Refused) : Type 0 where
  pub stays : StaysBut was now
  pub full : IsFullBelow (draft_takes was (slot / 64)) floor old new before after was now result
  pub ends : EndsCall g (top_of was) floor 8 4 (draft_takes was (slot / 64)) old new before after result
  pub kept : IfErr result (λ e. e ≡ refusals.Disk false → now ≡ was)

-- how a slot of a draft gets this: if the store has the draft, in blocks of the model's need, and on any disk
pub record PutsIn {D : Type 0} (g : Ghosts D) (slot : ℕ) (what : Option Puid) (floor : ℕ) (old new : D)
    (before after : Kept) (was now : Drafting) (result : Result (Unit {0}) Refused) : Type 0 where
  pub puts : (i : IndexView g old before was)
      → GoesHolding g i.view.graph (PutsInDraft i slot what new after now) old new result
  pub need : (i : IndexView g old before was) → draft_takes was (slot / 64) ≡ slot_need slot i.view.draft
  pub call : PutCall g slot floor old new before after was now result
