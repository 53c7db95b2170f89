-- An index changed as one commit.
use Rattle.std.specs.Prelude.{◌≡◌, ◌⊎◌, ℕ, ◌/◌, ◌<◌, false, List, [], ◌∷◌, length, Option, IfErr, OnErr, OnOk}
use Rattle.std.specs.Prelude.{IsTrue, Result, None, true}
use Rattle.cfs_base.specs.Calls.{HasStopped, MakesAtMost, OnlyReads}
use Rattle.cfs_base.specs.Disk.{Image, Nothing, block_at}
use Rattle.cfs_base.specs.Run.{IsSettled, Leaves, Tells}
use Rattle.cfs_base.specs.declared.disk.Disk.{Ghosts}
use Rattle.cfs_base.specs.declared.identifier.Puid.{Puid}
use Rattle.cfs_base.specs.declared.kind.Place.TheVariants.{Leaf, Node}
use Rattle.cfs_base.specs.declared.refusal.Refused.{Refused}
use Rattle.cfs_base.specs.declared.refusal.Refused.TheVariants as refusals
use Rattle.block_tree.specs.Pointers.{leaf_pointers}
use Rattle.block_tree.specs.Root.{IsRootBlock}
use Rattle.claims.specs.Claims.{AreClaimed}
use Rattle.cyl_alloc.specs.Left.{LeftCommit}
use Rattle.cyl_alloc.specs.Space.{Kept, intended}
use Rattle.cyl_map.specs.declared.entry.MapEntry.{MapEntry}
use Rattle.intentions.specs.Left.{StoreIs, final_image}
use Rattle.special_files.specs.Committing.{IsAtBit, IsNoted, IsOldOrNew, TakesShadow}
use Rattle.leaf_changes.specs.Tops.{Top, root_top}
use Rattle.special_files.specs.Drafting.{Drafting}
use Rattle.special_files.specs.Leaves.{SameBeside}
use Rattle.special_files.specs.Refusal.{IsDraftDamage, has_met_damage}
use Rattle.special_files.specs.View.{IsShut, ObjectView}
use Rattle.ufs_model.specs.Graph.{Graph, with_object}
use Rattle.ufs_model.specs.Object.{filled}
use Rattle.ufs_model.specs.declared.object.Index.{Index}
use Rattle.ufs_model.specs.declared.object.Object.{Object}
use Rattle.ufs_model.specs.declared.object.Object.TheVariants as objects
use Rattle.vol_image.specs.Seen.{tree_in}
use Rattle.vol_owners.specs.Account.{Drafts}
use Rattle.vol_owners.specs.Change.{ChangesOnly, of_owner, of_owners}

-- the store has an index at this block, and no draft of it, and the slot is one of its slots
pub record HasSlot {D : Type 0} (g : Ghosts D) (d : D) (space : Kept) (at slot : ℕ) : Type 0 where
  pub view : ObjectView g d space at
  pub shut : IsShut view
  pub index : Index
  pub is : view.object ≡ objects.Index index
  pub inside : slot < length index.slots

-- the index with this in the slot
abbrev pub index_with : Index → ℕ → Option Puid → Object
index_with i slot what = objects.Index (filled i slot what)

-- The object is this one now. No write waits for a barrier. In the image that is to come nothing changed except
-- blocks of the object and blocks that were Free.
pub record ChangesIndex {D : Type 0} (g : Ghosts D) (graph : Graph) (ds : Drafts) (id : Puid) (o : Object) (old new : D)
    (space : Kept) : Type 0 where
  pub store : StoreIs g (with_object graph id o) ds new space
  pub settled : IsSettled g new
  pub only : ChangesOnly (λ entry. of_owner id.block entry) (g.content old) (final_image g new space)

-- in the tree below a root block only one leaf and its node differ from before
abbrev pub IsOneLeaf : (leaf at : ℕ) → Image → Image → Type 0
IsOneLeaf leaf at a b = SameBeside leaf (tree_in a (block_at a at)) (tree_in b (block_at b at))

-- Blocks were claimed for these entries, one after another, each the least-numbered Free one, and last for the shadow
-- root of the object with this root block. After the entries nothing changed except blocks of this owner and of those
-- that are made with it, and blocks that were Free.
pub record TakesEntries (claims : List MapEntry) (at : ℕ) (made : List ℕ) (a b : Image) : Type 0 where
  pub mid : Image
  pub in_order : AreClaimed claims a mid
  pub only : ChangesOnly (λ entry. of_owners (at ∷ made) entry) mid b
  pub shadow : TakesShadow at mid b

-- the entries of a leaf of the object with this root block, and after it of its node
abbrev pub leaf_and_node : (leaf at : ℕ) → List MapEntry
leaf_and_node leaf at = intended (Leaf leaf) at ∷ intended (Node (leaf / leaf_pointers.count)) at ∷ []

-- Only one leaf of an index changed, and the node above it: both take blocks, and the commit a shadow root. Or a slot
-- that was to be emptied was empty, and nothing changed.
pub record ChangesLeaf {D : Type 0} (g : Ghosts D) (leaf at : ℕ) (what : Option Puid) (old new : D)
    (space : Kept) : Type 0 where
  pub beside : IsOneLeaf leaf at (g.content old) (final_image g new space)
  pub takes : ((what ≡ None) × (final_image g new space ≡ g.content old))
      ⊎ TakesEntries (leaf_and_node leaf at) at [] (g.content old) (final_image g new space)

-- what waited is durable now, and the content is as it was
pub record SettlesDisk {D : Type 0} (g : Ghosts D) (old new : D) (result : Result (Unit {0}) Refused) : Type 0 where
  pub content : g.content new ≡ g.content old
  pub told : (n : ℕ) → IsTrue (g.told old n) → IsTrue (g.told new n)
  pub settled : Tells g old → OnOk result (IsSettled g new)
  pub images : Leaves g old new Nothing
  pub refused : IfErr result (λ e. e ≡ refusals.Disk true)
  pub stopped : OnErr result (HasStopped g true old new)
  pub calls : MakesAtMost g 1 1 old new

-- ---- why it is refused

-- a device call failed, or a block that was read is damaged
abbrev pub IsIndexRefusal : {D : Type 0} → Ghosts D → Top → D → D → Kept → Refused → Type 0
IsIndexRefusal g at old new kept (refusals.Full need) = ⊥
IsIndexRefusal g at old new kept (refusals.Disk tried) = HasStopped g tried old new
IsIndexRefusal g at old new kept (refusals.Damaged damage) = IsDraftDamage g at old new kept damage
IsIndexRefusal g at old new kept refusals.Memory = ⊥

-- One commit is unfinished then, that of the index at this block. Or a slot that was to be emptied was empty, and
-- none is.
abbrev pub LeavesCommit : ℕ → Option Puid → Option LeftCommit → Type 0
LeavesCommit at what left = ((what ≡ None) × (left ≡ None)) ⊎ (l : LeftCommit) × IsNoted at left l

-- If the store has the index and the call is done, the index has this in the slot, and only the slot's leaf changed.
-- Each image that a crash leaves has it old or new, and no damage is met.
pub record FillsIndex {D : Type 0} {g : Ghosts D} {old : D} {before : Kept} {at slot : ℕ}
    (h : HasSlot g old before at slot) (what : Option Puid) (new : D) (after : Kept)
    (result : Result (Unit {0}) Refused) : Type 0 where
  pub done : OnOk result
      (ChangesIndex g h.view.graph h.view.ds h.view.id (index_with h.index slot what) old new after)
  pub leaf : OnOk result (ChangesLeaf g (slot / 64) at what old new after)
  pub leaves : Leaves g old new (IsOldOrNew h.view.graph h.view.graph h.view.id (index_with h.index slot what))
  pub sound : IfErr result (λ e. has_met_damage e ≡ false)

-- A slot of the index whose draft was just begun gets this, as one commit, if the index has that root.
pub record PutsSlot {D : Type 0} (g : Ghosts D) (draft : Drafting) (slot : ℕ) (what : Option Puid) (old new : D)
    (before after : Kept) (result : Result (Unit {0}) Refused) : Type 0 where
  pub fills : (h : HasSlot g old before draft.at slot) → IsRootBlock (block_at (g.content old) draft.at) draft.own
      → FillsIndex h what new after result
  pub refused : IfErr result (IsIndexRefusal g (root_top draft.at draft.own) old new after)
  -- before a write or barrier is tried all is as it was
  pub untried : IfErr result (λ e. e ≡ refusals.Disk false → (after ≡ before) × OnlyReads g 8 old new)
  pub cylinders : length after.free ≡ length before.free
  pub left : OnOk result (LeavesCommit draft.at what after.left)
  -- if no commit is unfinished, nothing changed
  pub still : after.left ≡ None → OnOk result (g.content new ≡ g.content old)
  -- if one is unfinished, its bit was tried
  pub bit : OnOk result (IsAtBit g old new after.left)
  pub calls : MakesAtMost g 19 11 old new
