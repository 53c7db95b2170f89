-- An object made, and its identifier put into a slot of the draft of an index. The object is in the graph at once.
use Rattle.std.specs.Prelude.{◌≡◌, ◌⊎◌, ℕ, ◌+◌, ◌/◌, ◌≤◌, ◌||◌, false, ◌∷◌, length, sum, Some, IfErr, IfOk}
use Rattle.std.specs.Prelude.{IsTrue, OnOk, Result}
use Rattle.cfs_base.specs.Calls.{MakesAtMost, OnlyReads}
use Rattle.cfs_base.specs.Run.{Leaves}
use Rattle.cfs_base.specs.declared.disk.Disk.{Ghosts}
use Rattle.cfs_base.specs.declared.identifier.Puid.{Puid}
use Rattle.cfs_base.specs.declared.kind.Place.TheVariants as places
use Rattle.cfs_base.specs.declared.refusal.Refused.{Refused}
use Rattle.cfs_base.specs.declared.refusal.Refused.TheVariants as refusals
use Rattle.claims.specs.Claims.{AreClaimed, IsClaimed}
use Rattle.cyl_alloc.specs.Space.{IsLeastFree, Kept, allocated}
use Rattle.cyl_map.specs.declared.entry.MapEntry.{MapEntry}
use Rattle.index_drafts.specs.Puts.{IndexView, IsFullBelow, slot_need}
use Rattle.intentions.specs.Store.{StoreHas}
use Rattle.special_files.specs.Committing.{puid_at}
use Rattle.special_files.specs.Creates.{IsOpenMap}
use Rattle.special_files.specs.Drafting.{Drafting, IsOpen, draft_takes, opened_as}
use Rattle.special_files.specs.Fills.{filled_draft}
use Rattle.special_files.specs.Order.{leaf_claims}
use Rattle.special_files.specs.Puts.{StaysBut}
use Rattle.special_files.specs.Refusal.{IsDraftRefusal, has_met_damage, top_of}
use Rattle.ufs_model.specs.Graph.{Graph, has_block, with_object}
use Rattle.ufs_model.specs.declared.object.Draft.{Draft}
use Rattle.ufs_model.specs.declared.object.Object.{Object}
use Rattle.vol_image.specs.Sound.{Holds}
use Rattle.vol_owners.specs.Account.{Drafts, with_opened}
use Rattle.vol_owners.specs.Change.{ChangesOnly, of_draft, of_owner}

-- the entry of the root of a new object
abbrev pub new_root_entry : ℕ → MapEntry
new_root_entry n = allocated places.Root n

-- ---- the object alone

-- The store also has the object. The least Free block was claimed for its root, as Allocated, and only this block
-- changed.
pub record MakesAlone {D : Type 0} (g : Ghosts D) (graph : Graph) (ds : Drafts) (id : Puid) (made : Object)
    (old new : D) (after : Kept) : Type 0 where
  pub fresh : has_block graph.objects id.block ≡ false
  pub store : StoreHas g (with_object graph id made) ds new after
  pub claim : IsClaimed (new_root_entry id.block) (g.content old) (g.content new)
  pub only : ChangesOnly (λ entry. of_owner id.block entry) (g.content old) (g.content new)

-- ---- with the slot

-- the draft with the identifier in the slot
abbrev pub made_in : {D : Type 0} {g : Ghosts D} {old : D} {before : Kept} {was : Drafting}
    → IndexView g old before was → ℕ → Puid → Draft
made_in i slot id = filled_draft i.index slot (Some id) i.view.draft

-- the drafts that there are then
abbrev pub drafts_then : {D : Type 0} {g : Ghosts D} {old : D} {before : Kept} {was : Drafting}
    → IndexView g old before was → ℕ → Puid → Drafting → Drafts
drafts_then i slot id now = with_opened i.view.id (opened_as now (made_in i slot id)) i.view.ds

-- The store also has the object, and the draft has its identifier in the slot. The least Free block was claimed for
-- the object's root, as Allocated, and then the draft's leaf and node as for any slot. Nothing else changed except
-- what is meant for the index, and Free blocks.
pub record CreatesInDraft {D : Type 0} {g : Ghosts D} {old : D} {before : Kept} {was : Drafting}
    (i : IndexView g old before was) (slot : ℕ) (made : Object) (new : D) (after : Kept) (now : Drafting)
    (id : Puid) : Type 0 where
  pub store : StoreHas g (with_object i.view.graph id made) (drafts_then i slot id now) new after
  pub is_open : IsOpen (drafts_then i slot id now) i.view.id now (made_in i slot id)
  pub order : AreClaimed (new_root_entry id.block ∷ leaf_claims was.at was.leaves was.nodes (slot / 64)) (g.content old)
      (g.content new)
  pub least : IsLeastFree (g.content old) id.block
  pub only : ChangesOnly (λ entry. of_owner id.block entry || of_draft i.view.id.block entry) (g.content old)
      (g.content new)

-- how it ends if the store has the draft: each image on the way holds all objects as they were, or the new one too
pub record CreateEnds {D : Type 0} {g : Ghosts D} {old : D} {before : Kept} {was : Drafting}
    (i : IndexView g old before was) (slot : ℕ) (made : Object) (word : ℕ) (new : D) (after : Kept) (now : Drafting)
    (result : Result Puid Refused) : Type 0 where
  pub done : IfOk result (λ id. (id.word ≡ word) × CreatesInDraft i slot made new after now id)
  pub leaves : Leaves g old new (λ c. Holds c i.view.graph
      ⊎ ((b : ℕ) × IsLeastFree (g.content old) b × Holds c (with_object i.view.graph (puid_at b word) made)))
  pub sound : IfErr result (λ e. has_met_damage e ≡ false)

-- how it ends on any disk
pub record CreateCall {D : Type 0} (g : Ghosts D) (slot floor : ℕ) (old new : D) (before after : Kept)
    (was now : Drafting) (result : Result Puid Refused) : Type 0 where
  pub stays : StaysBut was now
  pub full : IsFullBelow (1 + draft_takes was (slot / 64)) floor old new before after was now result
  pub told : OnOk result ((b : ℕ) → IsTrue (g.told old b) → IsTrue (g.told new b))
  pub refused : IfErr result (λ e. IsDraftRefusal g (top_of was) floor old new after e ⊎ IsOpenMap g old before e)
  pub untried : IfErr result (λ e. e ≡ refusals.Disk false
      → (now ≡ was) × (after ≡ before) × OnlyReads g 5 old new)
  pub cylinders : length after.free ≡ length before.free
  pub left : after.left ≡ before.left
  pub takes : sum before.free ≤ sum after.free + (1 + draft_takes was (slot / 64))
  pub calls : MakesAtMost g 13 7 old new

-- how the object is made, and its identifier put into a slot of a draft
pub record CreatesIn {D : Type 0} (g : Ghosts D) (slot : ℕ) (made : Object) (word floor : ℕ) (old new : D)
    (before after : Kept) (was now : Drafting) (result : Result Puid Refused) : Type 0 where
  pub creates : (i : IndexView g old before was) → CreateEnds i slot made word new after now result
  pub need : (i : IndexView g old before was) → draft_takes was (slot / 64) ≡ slot_need slot i.view.draft
  pub call : CreateCall g slot floor old new before after was now result
