-- An object made beside a draft of an index: its root is claimed and written, and its identifier is put into a slot.
use Rattle.std.specs.Prelude.{◌≡◌, ℕ, ◌+◌, ◌/◌, ◌%◌, ◌≤◌, [], ◌∷◌, false, replicate, set, Some, sum, true}
use Rattle.std.specs.Prelude.{IfErr, IfOk, OnOk, Result}
use Rattle.block_tree.specs.Pointers.{node_pointers, pointers_of, size_limit}
use Rattle.block_tree.specs.Root.{IsRoot, IsRootBlock, root_spelling}
use Rattle.block_tree.specs.declared.root.Root.{Root}
use Rattle.cfs_base.specs.Calls.{HasTried, OnlyReads}
use Rattle.cfs_base.specs.Codes.{no_entry}
use Rattle.cfs_base.specs.Disk.{Image}
use Rattle.cfs_base.specs.Run.{Leaves, Tells}
use Rattle.cfs_base.specs.declared.disk.Disk.{Ghosts}
use Rattle.cfs_base.specs.declared.kind.FileKind.TheVariants as file_kinds
use Rattle.cfs_base.specs.declared.kind.Kind.{Kind}
use Rattle.cfs_base.specs.declared.kind.Kind.TheVariants as kinds
use Rattle.cfs_base.specs.declared.kind.Place.TheVariants as places
use Rattle.cfs_base.specs.declared.refusal.Refused.{Refused}
use Rattle.cfs_base.specs.declared.refusal.Refused.TheVariants as refusals
use Rattle.claims.specs.Claims.{AreClaimed}
use Rattle.cyl_alloc.specs.Space.{AreCounts, Kept, intended}
use Rattle.cyl_map.specs.Volume.{is_free_in, with_entry}
use Rattle.intentions.specs.Store.{StoreHas}
use Rattle.special_files.specs.Committing.{Makes, Making, puid_at}
use Rattle.special_files.specs.Drafting.{Drafting, IsOpen, draft_takes, opened_as}
use Rattle.special_files.specs.Ends.{EndsCall}
use Rattle.special_files.specs.Fills.{IsNearSwap, IsSwapped, filled_draft}
use Rattle.special_files.specs.Leaves.{SameBeside}
use Rattle.special_files.specs.Order.{leaf_claims}
use Rattle.special_files.specs.Puts.{StaysBut}
use Rattle.special_files.specs.Refusal.{has_met_damage, is_full_refusal, top_of}
use Rattle.special_files.specs.View.{DraftView}
use Rattle.special_files.specs.declared.fill.Swap.{Swap}
use Rattle.ufs_model.specs.Graph.{Graph}
use Rattle.ufs_model.specs.Object.{new_file, new_index}
use Rattle.ufs_model.specs.declared.object.Draft.{Draft}
use Rattle.ufs_model.specs.declared.object.Index.{Index}
use Rattle.ufs_model.specs.declared.object.Object.{Object}
use Rattle.ufs_model.specs.declared.object.Object.TheVariants as objects
use Rattle.vol_image.specs.Reading.{bare_object}
use Rattle.vol_image.specs.Run.{Carries}
use Rattle.vol_image.specs.Seen.{tree_in}
use Rattle.vol_image.specs.Sound.{Holds}
use Rattle.vol_owners.specs.Change.{ChangesOnly, of_drafts}
use Rattle.vol_owners.specs.Account.{with_opened}

-- ---- the new object

-- a new object of this kind
abbrev pub made_of : Kind → (fill size : ℕ) → Object
made_of kinds.Normal fill size = objects.File (new_file file_kinds.Normal fill)
made_of kinds.Special fill size = objects.File (new_file file_kinds.Special fill)
made_of kinds.Index fill size = objects.Index (new_index (size / 8))

-- a file is made without bytes; an index has at least one slot, of 8 bytes each, and no fill byte
abbrev pub MayBeMade : Kind → (fill size : ℕ) → Type 0
MayBeMade kinds.Normal fill size = size ≡ 0
MayBeMade kinds.Special fill size = size ≡ 0
MayBeMade kinds.Index fill size = (fill ≡ 0) × (8 ≤ size) × (size ≤ size_limit) × (size % 8 ≡ 0)

-- such a root is valid as it is, and leads to nothing
pub record IsBare (root : Root) : Type 0 where
  pub good : IsRoot root
  pub no_node : root.nodes ≡ replicate node_pointers.count 0

-- what its block spells
pub record Spells (root : Root) : Type 0 where
  pub spelled : IsRoot root → IsRootBlock (root_spelling root) root
  pub nodes : root.nodes ≡ pointers_of node_pointers (root_spelling root)

-- ---- its root

-- block 0, which is a map, is Free by the maps that were counted
pub record IsOpenMap {D : Type 0} (g : Ghosts D) (old : D) (space : Kept) (e : Refused) : Type 0 where
  pub is : e ≡ refusals.Damaged (record { block = 0; code = no_entry })
  pub free : Tells g old → AreCounts (g.content old) space → is_free_in (g.content old) 0 ≡ true

-- the root has an entry at a block that was Free, is meant for itself, and is written
abbrev pub with_root : Image → ℕ → Root → Image
with_root image n root = set (with_entry image n (intended places.Root n)) n (root_spelling root)

-- the disk has this image and carries these objects, and the Free blocks are counted
pub record HasImage {D : Type 0} (g : Ghosts D) (graph : Graph) (now : D) (space : Kept) (image : Image) : Type 0 where
  pub carries : Carries g graph now
  pub counts : AreCounts (g.content now) space
  pub content : g.content now ≡ image

-- it ends so, and each image on the way holds all objects as they were
pub record RootEnds {D : Type 0} (g : Ghosts D) (graph : Graph) (old now : D) (space : Kept) (image : Image)
    (result : Result (Unit {0}) Refused) : Type 0 where
  pub done : OnOk result (HasImage g graph now space image)
  pub leaves : Leaves g old now (λ c. Holds c graph)
  pub sound : IfErr result (λ e. has_met_damage e ≡ false)

-- ---- with the slot

-- the object that has this root at a block
abbrev pub making_of : ℕ → Root → Making
making_of block root = record { id = puid_at block root.word; object = bare_object root }

-- the draft of the model with the object's identifier in the slot
abbrev pub created_draft : Index → (slot block : ℕ) → Root → Draft → Draft
created_draft i slot block root d = filled_draft i slot (Some (puid_at block root.word)) d

-- The draft has the new object's identifier in the slot, and makes the object: its root is in the block, is meant for
-- itself, and leads to nothing. The block was claimed first, and then the draft's leaf and node as for any slot.
-- Nothing else changed except what is meant for the index, and Free blocks.
pub record CreatesBeside {D : Type 0} {g : Ghosts D} {old : D} {before : Kept} {was : Drafting}
    (v : DraftView g old before was) (i : Index) (slot block : ℕ) (root : Root) (new : D) (after : Kept)
    (now : Drafting) (swap : Swap) : Type 0 where
  pub store : StoreHas g v.graph (with_opened v.id (opened_as now (created_draft i slot block root v.draft)) v.ds) new
      after
  pub is_open : IsOpen (with_opened v.id (opened_as now (created_draft i slot block root v.draft)) v.ds) v.id now
      (created_draft i slot block root v.draft)
  pub makes : Makes (g.content new) now.created (Some (making_of block root))
  pub order : AreClaimed (intended places.Root block ∷ leaf_claims was.at was.leaves was.nodes (slot / 64))
      (g.content old) (g.content new)
  pub beside : SameBeside (slot / 64) (tree_in (g.content old) (root_spelling was.root))
      (tree_in (g.content new) (root_spelling now.root))
  pub only : ChangesOnly (λ entry. of_drafts (v.id.block ∷ block ∷ []) entry) (g.content old) (g.content new)
  -- if the draft was its object
  pub swaps : was.root ≡ was.own → IsSwapped (g.content new) v.id now (created_draft i slot block root v.draft) swap

-- the same for an index
abbrev pub CreatesIfIndex : {D : Type 0} {g : Ghosts D} {old : D} {before : Kept} {was : Drafting}
    → DraftView g old before was → (slot block : ℕ) → Root → D → Kept → Drafting → Swap → Type 0
CreatesIfIndex v slot block root new after now swap = (i : Index) → v.draft.object ≡ objects.Index i
    → CreatesBeside v i slot block root new after now swap

-- the draft that makes the object
abbrev pub adopting : Drafting → ℕ → Drafting
adopting was block = record was { created = Some block }

-- how it ends on any disk
pub record MakesBesideCall {D : Type 0} (g : Ghosts D) (slot block : ℕ) (old new : D) (before after : Kept)
    (was now : Drafting) (result : Result Swap Refused) : Type 0 where
  pub stays : OnOk result (StaysBut (adopting was block) now)
  pub near : was.root ≡ was.own → IfOk result (IsNearSwap (g.blocks new) now)
  pub ends : EndsCall g (top_of was) 0 11 6 (1 + draft_takes was (slot / 64)) old new before after result
  pub tried : OnOk result (HasTried g old new)
  pub untried : IfErr result (λ e. e ≡ refusals.Disk false → (after ≡ before) × OnlyReads g 3 old new)
  -- it is never Full if the blocks that it takes are Free
  pub room : 1 + draft_takes was (slot / 64) ≤ sum before.free → IfErr result (λ e. is_full_refusal e ≡ false)
