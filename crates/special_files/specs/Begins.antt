-- How a draft begins.
use Rattle.std.specs.Prelude.{◌≡◌, ℕ, ◌+◌, ◌<◌, ◌≤◌, true, false, [], length, sum, None, Some, IfErr, IfOk}
use Rattle.std.specs.Prelude.{Result}
use Rattle.block_tree.specs.Root.{IsRootBlock}
use Rattle.cfs_base.specs.Calls.{MakesAtMost, OnlyReads}
use Rattle.cfs_base.specs.Disk.{block_at}
use Rattle.cfs_base.specs.Refusals.{had_tried}
use Rattle.cfs_base.specs.Run.{Tells}
use Rattle.cfs_base.specs.declared.disk.Disk.{Ghosts}
use Rattle.cfs_base.specs.declared.refusal.Refused.{Refused}
use Rattle.cfs_base.specs.declared.refusal.Refused.TheVariants as refusals
use Rattle.cyl_alloc.specs.Space.{IsLeastFree, Kept}
use Rattle.intentions.specs.Store.{StoreHas}
use Rattle.leaf_changes.specs.Tops.{still_top}
use Rattle.special_files.specs.Drafting.{Drafting, begun_at, opened_as}
use Rattle.special_files.specs.Refusal.{IsDraftRefusal, is_full_refusal}
use Rattle.special_files.specs.Store.{Steps}
use Rattle.special_files.specs.View.{IsShut, ObjectView}
use Rattle.ufs_model.specs.declared.object.Draft.{Draft}
use Rattle.ufs_model.specs.declared.object.Object.{Object}
use Rattle.vol_owners.specs.Account.{Drafts, with_opened}

-- the draft of the model that equals an object
abbrev pub equal_to : Object → Draft
equal_to o = record { object = o; fresh = [] }

-- the drafts that there are once this one has begun
abbrev pub drafts_begun : {D : Type 0} {g : Ghosts D} {old : D} {before : Kept} {at : ℕ} → ObjectView g old before at
    → Drafting → Drafts
drafts_begun v draft = with_opened v.id (opened_as draft (equal_to v.object)) v.ds

-- The store also has this draft, which equals the object. The block that was the least Free one is its shadow root.
pub record OpensDraft {D : Type 0} {g : Ghosts D} {old : D} {before : Kept} {at : ℕ}
    (v : ObjectView g old before at) (new : D) (after : Kept) (draft : Drafting) : Type 0 where
  pub steps : Steps g v.graph v.id (drafts_begun v draft) old new after
  pub least : (s : ℕ) × (draft.shadow ≡ Some s) × IsLeastFree (g.content old) s

-- the same for an object that has no draft yet
abbrev pub BeginsDraft : {D : Type 0} {g : Ghosts D} {old : D} {before : Kept} {at : ℕ} → ObjectView g old before at → D
    → Kept → Drafting → Type 0
BeginsDraft v new after draft = IsShut v → OpensDraft v new after draft

-- the store also has a draft without a shadow root, of the root that the block holds
abbrev pub BeginsDirect : {D : Type 0} {g : Ghosts D} {old : D} {before : Kept} {at : ℕ} → ObjectView g old before at
    → D → Kept → Drafting → Type 0
BeginsDirect {g = g} v new after draft = IsShut v → StoreHas g v.graph (drafts_begun v draft) new after

-- how it ends on any disk: it is Full if fewer blocks are Free than 1 plus the floor, and nothing was done then
pub record BeginCall {D : Type 0} (g : Ghosts D) (at floor : ℕ) (old new : D) (before after : Kept)
    (result : Result Drafting Refused) : Type 0 where
  -- the draft equals its object, and has a shadow root
  pub begun : IfOk result (λ draft. (s : ℕ) × (draft ≡ begun_at at (Some s) draft.own))
  pub root : Tells g old → IfOk result (λ draft. IsRootBlock (block_at (g.content old) at) draft.own)
  pub room : IfOk result (λ draft. 1 + floor ≤ sum before.free)
  pub full : IfErr result (λ e. is_full_refusal e ≡ true
      → (e ≡ refusals.Full (record { free = sum before.free; need = 1 })) × (sum before.free < 1 + floor) × (new ≡ old))
  pub refused : IfErr result (IsDraftRefusal g (still_top at) floor old new after)
  pub untried : IfErr result (λ e. had_tried e ≡ false → (after ≡ before) × OnlyReads g 2 old new)
  pub cylinders : length after.free ≡ length before.free
  pub left : after.left ≡ before.left
  pub calls : MakesAtMost g 3 1 old new
