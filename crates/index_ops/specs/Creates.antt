-- An object made, and its identifier put into a slot of an index, as one commit.
use Rattle.std.specs.Prelude.{◌≡◌, ◌⊎◌, ℕ, ◌/◌, [], ◌∷◌, length, false, IfErr, IfOk, OnOk, Result, Some}
use Rattle.block_tree.specs.Root.{IsRootBlock}
use Rattle.cfs_base.specs.Calls.{MakesAtMost, OnlyReads}
use Rattle.cfs_base.specs.Disk.{block_at}
use Rattle.cfs_base.specs.Run.{IsSettled, Leaves}
use Rattle.cfs_base.specs.declared.disk.Disk.{Ghosts}
use Rattle.cfs_base.specs.declared.identifier.Puid.{Puid}
use Rattle.cfs_base.specs.declared.kind.Place.TheVariants as places
use Rattle.cfs_base.specs.declared.refusal.Refused.{Refused}
use Rattle.cfs_base.specs.declared.refusal.Refused.TheVariants as refusals
use Rattle.cyl_alloc.specs.Left.{LeftCommit}
use Rattle.cyl_alloc.specs.Space.{IsLeastFree, Kept, intended}
use Rattle.index_ops.specs.Changes.{HasSlot, IsIndexRefusal, IsOneLeaf, TakesEntries, index_with, leaf_and_node}
use Rattle.intentions.specs.Left.{StoreIs, final_image}
use Rattle.special_files.specs.Committing.{IsAtBit, IsNoted, puid_at}
use Rattle.leaf_changes.specs.Tops.{root_top}
use Rattle.special_files.specs.Creates.{IsOpenMap}
use Rattle.special_files.specs.Drafting.{Drafting}
use Rattle.special_files.specs.Refusal.{has_met_damage}
use Rattle.ufs_model.specs.Graph.{Graph, with_object}
use Rattle.ufs_model.specs.declared.object.Index.{Index}
use Rattle.ufs_model.specs.declared.object.Object.{Object}
use Rattle.vol_image.specs.Sound.{Holds}
use Rattle.vol_owners.specs.Account.{Drafts}
use Rattle.vol_owners.specs.Change.{ChangesOnly, of_owners}

-- the objects with a new one, whose identifier is in a slot of the index
abbrev pub with_made : Graph → Puid → Index → ℕ → Puid → Object → Graph
with_made graph id i slot new made = with_object (with_object graph new made) id (index_with i slot (Some new))

-- The new object exists, and its identifier is in the slot. Its root is the block that was the least-numbered Free
-- one. No write waits for a barrier. In the image that is to come nothing changed except blocks of the two objects
-- and blocks that were Free.
pub record Creates {D : Type 0} (g : Ghosts D) (graph : Graph) (ds : Drafts) (id : Puid) (i : Index) (slot : ℕ)
    (new : Puid) (made : Object) (old now : D) (space : Kept) : Type 0 where
  pub least : IsLeastFree (g.content old) new.block
  pub store : StoreIs g (with_made graph id i slot new made) ds now space
  pub settled : IsSettled g now
  pub only : ChangesOnly (λ entry. of_owners (id.block ∷ new.block ∷ []) entry) (g.content old)
      (final_image g now space)
  -- only the slot's leaf and its node changed in the index; both take blocks after the root, and then the commit
  -- takes one
  pub beside : IsOneLeaf (slot / 64) id.block (g.content old) (final_image g now space)
  pub takes : TakesEntries (intended places.Root new.block ∷ leaf_and_node (slot / 64) id.block) id.block
      (new.block ∷ [])
      (g.content old) (final_image g now space)

-- how a new object and its index are committed together, if the store has the draft of the index
pub record MakeEnds {D : Type 0} (g : Ghosts D) (graph : Graph) (ds : Drafts) (id : Puid) (i : Index) (slot : ℕ)
    (new : Puid) (made : Object) (old now : D) (space : Kept) (result : Result Puid Refused) : Type 0 where
  pub done : OnOk result (Creates g graph ds id i slot new made old now space)
  pub leaves : Leaves g old now (λ c. Holds c graph ⊎ Holds c (with_made graph id i slot new made))
  pub sound : IfErr result (λ e. has_met_damage e ≡ false)

-- ---- the call

-- If the store has the index and the call is done, the new object exists, with this word, and its identifier is in
-- the slot. Each image has all as it was, or the new object and the index with it, and no damage is met.
pub record PlacesIn {D : Type 0} {g : Ghosts D} {old : D} {before : Kept} {at slot : ℕ}
    (h : HasSlot g old before at slot) (made : Object) (word : ℕ) (new : D) (after : Kept)
    (result : Result Puid Refused) : Type 0 where
  pub done : IfOk result (λ p. (p.word ≡ word)
      × Creates g h.view.graph h.view.ds h.view.id h.index slot p made old new after)
  pub leaves : Leaves g old new (λ c. Holds c h.view.graph ⊎ ((b : ℕ) × IsLeastFree (g.content old) b
      × Holds c (with_made h.view.graph h.view.id h.index slot (puid_at b word) made)))
  pub sound : IfErr result (λ e. has_met_damage e ≡ false)

-- A slot of the index whose draft was just begun gets an object that is made, with this word, if the index has that
-- root.
pub record PutsObject {D : Type 0} (g : Ghosts D) (draft : Drafting) (slot : ℕ) (made : Object) (word : ℕ) (old new : D)
    (before after : Kept) (result : Result Puid Refused) : Type 0 where
  pub places : (h : HasSlot g old before draft.at slot) → IsRootBlock (block_at (g.content old) draft.at) draft.own
      → PlacesIn h made word new after result
  pub refused : IfErr result (λ e. IsIndexRefusal g (root_top draft.at draft.own) old new after e
      ⊎ IsOpenMap g old before e)
  -- before a write or barrier is tried all is as it was
  pub untried : IfErr result (λ e. e ≡ refusals.Disk false → (after ≡ before) × OnlyReads g 8 old new)
  pub cylinders : length after.free ≡ length before.free
  -- the commit is unfinished then
  pub left : OnOk result ((l : LeftCommit) × IsNoted draft.at after.left l)
  pub bit : OnOk result (IsAtBit g old new after.left)
  pub calls : MakesAtMost g 23 13 old new
