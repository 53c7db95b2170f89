-- A slot of an index in a draft, filled or emptied.
use Rattle.std.specs.Prelude.{◌≡◌, ℕ, ◌/◌, ◌<◌, ◌≤◌, ◌++◌, true, false, List, Bool, ◌&&◌, is_none, is_some, sum}
use Rattle.std.specs.Prelude.{if◌then◌else◌, None, Option, IfErr, IfOk, IfSome, Result}
use Rattle.block_tree.specs.Pointers.{leaf_limit, leaf_pointers}
use Rattle.block_tree.specs.Root.{root_spelling}
use Rattle.cfs_base.specs.Calls.{HasTried, OnlyReads}
use Rattle.cfs_base.specs.declared.disk.Disk.{Ghosts}
use Rattle.cfs_base.specs.declared.refusal.Refused.{Refused}
use Rattle.cfs_base.specs.declared.refusal.Refused.TheVariants as refusals
use Rattle.claims.specs.Claims.{AreClaimed}
use Rattle.cyl_alloc.specs.Space.{Kept}
use Rattle.ufs_model.specs.declared.object.Object.TheVariants as objects
use Rattle.vol_image.specs.Seen.{tree_in}
use Rattle.cfs_base.specs.Disk.{Image}
use Rattle.cfs_base.specs.declared.identifier.Puid.{Puid}
use Rattle.ufs_model.specs.declared.change.Change.TheVariants.{Fill}
use Rattle.ufs_model.specs.declared.object.Draft.{Draft}
use Rattle.ufs_model.specs.declared.object.Index.{Index}
use Rattle.ufs_model.specs.Object.{changed_object, fresh_after, slot_of}
use Rattle.special_files.specs.Changed.{IsChanged, unlike}
use Rattle.special_files.specs.Becomes.{DraftBecomes}
use Rattle.special_files.specs.Drafting.{Drafting, draft_takes, opened_as, pointer_to_node}
use Rattle.special_files.specs.Ends.{EndsCall}
use Rattle.special_files.specs.Leaves.{SameBeside}
use Rattle.special_files.specs.Order.{leaf_claims}
use Rattle.special_files.specs.Puts.{StaysBut}
use Rattle.special_files.specs.Refusal.{is_full_refusal, top_of}
use Rattle.special_files.specs.View.{DraftView}
use Rattle.special_files.specs.declared.fill.Swap.{Swap}

-- a slot that is to be emptied is empty
abbrev pub is_empty_already : Index → ℕ → Option Puid → Bool
is_empty_already i slot what = is_none what && is_none (slot_of i slot)

-- The draft with this in the slot, as the model has it. If the slot is to be emptied and is empty, nothing is
-- written, and so no more is fresh than before.
abbrev pub filled_draft : Index → ℕ → Option Puid → Draft → Draft
filled_draft i slot what d = record {
  object = changed_object (Fill slot what) d.object;
  fresh = if is_empty_already i slot what then d.fresh else fresh_after (Fill slot what) d.object d.fresh;
}

-- ---- what was put, if the draft was its object before

-- the blocks that a commit takes then, the leaf and the node above it, and those that were there before, which it
-- drops
abbrev pub swap_takes : Drafting → Swap → List ℕ
swap_takes w s =
    unlike (pointer_to_node w.root (s.leaf / leaf_pointers.count))
    (pointer_to_node w.own (s.leaf / leaf_pointers.count)) ++ unlike s.is s.was

abbrev pub dropped_by : Drafting → Swap → List ℕ
dropped_by w s =
    unlike (pointer_to_node w.own (s.leaf / leaf_pointers.count))
    (pointer_to_node w.root (s.leaf / leaf_pointers.count)) ++ unlike s.was s.is

abbrev pub IsSwapped : Image → Puid → Drafting → Draft → Swap → Type 0
IsSwapped image id w d s = IsChanged image id (opened_as w d) (swap_takes w s) (dropped_by w s)

-- on any disk of this size these blocks are on it
pub record IsNearSwap (size : ℕ) (w : Drafting) (s : Swap) : Type 0 where
  pub leaf : s.leaf < leaf_limit
  pub was : s.was < size
  pub is : s.is < size
  pub own : pointer_to_node w.own (s.leaf / leaf_pointers.count) < size
  pub node : pointer_to_node w.root (s.leaf / leaf_pointers.count) < size

-- ---- the call

-- The draft is that of the model with this in the slot. If its leaf wasn't fresh it took the least Free block, and
-- after it its node. In the draft's tree only that leaf and its node differ then. If the draft was its object, its
-- commit takes the leaf and the node that are put, and drops those that were there.
pub record FillsDraft {D : Type 0} {g : Ghosts D} {old : D} {before : Kept} {was : Drafting}
    (v : DraftView g old before was) (i : Index) (slot : ℕ) (what : Option Puid) (new : D) (after : Kept)
    (now : Drafting) (put : Option Swap) : Type 0 where
  pub becomes : DraftBecomes g v.graph v.ds v.id (filled_draft i slot what v.draft) old new after now
  pub order : is_some put ≡ true
      → AreClaimed (leaf_claims was.at was.leaves was.nodes (slot / 64)) (g.content old) (g.content new)
  pub beside : SameBeside (slot / 64) (tree_in (g.content old) (root_spelling was.root))
      (tree_in (g.content new) (root_spelling now.root))
  pub swaps : was.root ≡ was.own → IfSome put (IsSwapped (g.content new) v.id now (filled_draft i slot what v.draft))

-- the same for an index
abbrev pub FillsIfIndex : {D : Type 0} {g : Ghosts D} {old : D} {before : Kept} {was : Drafting}
    → DraftView g old before was → ℕ → Option Puid → D → Kept → Drafting → Option Swap → Type 0
FillsIfIndex v slot what new after now put = (i : Index) → v.draft.object ≡ objects.Index i
    → FillsDraft v i slot what new after now put

-- how it ends on any disk
pub record FillCall {D : Type 0} (g : Ghosts D) (slot : ℕ) (what : Option Puid) (old new : D) (before after : Kept)
    (was now : Drafting) (result : Result (Option Swap) Refused) : Type 0 where
  pub stays : StaysBut was now
  pub near : was.root ≡ was.own → IfOk result (λ put. IfSome put (IsNearSwap (g.blocks new) now))
  pub ends : EndsCall g (top_of was) 0 8 4 (draft_takes was (slot / 64)) old new before after result
  pub tried : IfOk result (λ put. is_some put ≡ true → HasTried g old new)
  -- if nothing is put all is as it was
  pub spared : IfOk result (λ put. put ≡ None → (now ≡ was) × (after ≡ before) × OnlyReads g 2 old new)
  pub empty : IfOk result (λ put. put ≡ None → what ≡ None)
  pub kept : IfErr result (λ e. e ≡ refusals.Disk false → now ≡ was)
  -- it is never Full if the blocks that it takes are Free
  pub room : draft_takes was (slot / 64) ≤ sum before.free → IfErr result (λ e. is_full_refusal e ≡ false)
