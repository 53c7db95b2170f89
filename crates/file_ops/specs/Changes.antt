-- A file changed: a normal one in place, a special one beside itself as one commit.
use Rattle.std.specs.Prelude.{◌≡◌, ◌⊎◌, ℕ, ◌+◌, ◌-◌, ◌/◌, ◌<◌, ◌≤◌, ◌||◌, Bool, true, false, List, [], length, sum}
use Rattle.std.specs.Prelude.{None, Option, Result, IfErr, IfOk, OnOk}
use Rattle.cfs_base.specs.Calls.{HasStopped, MakesAtMost, OnlyReads}
use Rattle.cfs_base.specs.Codes.{no_root, too_full}
use Rattle.cfs_base.specs.Disk.{Image, block_at}
use Rattle.cfs_base.specs.Refusals.{had_tried}
use Rattle.cfs_base.specs.Run.{IsSettled, Leaves, Tells}
use Rattle.cfs_base.specs.declared.disk.Disk.{Ghosts}
use Rattle.cfs_base.specs.declared.identifier.Puid.{Puid}
use Rattle.cfs_base.specs.declared.kind.FileKind.{FileKind}
use Rattle.cfs_base.specs.declared.kind.FileKind.TheVariants as kinds
use Rattle.cfs_base.specs.declared.refusal.Damage.{Damage}
use Rattle.cfs_base.specs.declared.refusal.Refused.{Refused}
use Rattle.cfs_base.specs.declared.refusal.Refused.TheVariants as refusals
use Rattle.block_tree.specs.Pointers.{leaf_limit, node_pointers}
use Rattle.block_tree.specs.Root.{IsRootBlock}
use Rattle.block_tree.specs.declared.root.Root.{Root}
use Rattle.claims.specs.Claims.{AreClaimed}
use Rattle.cyl_alloc.specs.Left.{LeftCommit}
use Rattle.cyl_alloc.specs.Space.{Kept}
use Rattle.cyl_map.specs.declared.entry.MapEntry.{MapEntry}
use Rattle.file_ops.specs.Limits.{change_calls, change_tries, drafted_calls}
use Rattle.intentions.specs.Left as commit
use Rattle.intentions.specs.Left.{StoreIs}
use Rattle.leaf_changes.specs.Tops.{Top, disk_top, still_top}
use Rattle.normal_files.specs.Ends.{IsNoSpace}
use Rattle.normal_files.specs.Frees.{IsDropDamage, TakesNone}
use Rattle.normal_files.specs.Order.{claims_of}
use Rattle.normal_files.specs.Refusal as normal
use Rattle.normal_files.specs.Standing.{IsPartly}
use Rattle.normal_files.specs.WriteRefusal.{is_untried, needs}
use Rattle.special_files.specs.Committing.{Committed, IsAtBit, IsNoted, IsOldOrNew, TakesShadow, draft_top}
use Rattle.special_files.specs.Drafting.{Drafting, begun_at, none_of}
use Rattle.special_files.specs.Limits.{changed_reads, commit_calls, commit_tries}
use Rattle.special_files.specs.Order.{claims_anew, claims_by_leaf}
use Rattle.special_files.specs.Refusal as special
use Rattle.special_files.specs.Refusal.{has_met_damage, is_full_refusal}
use Rattle.special_files.specs.View.{DraftView, IsShut, ObjectView}
use Rattle.ufs_model.specs.Graph.{Graph, with_object}
use Rattle.ufs_model.specs.Numbers.{missing}
use Rattle.ufs_model.specs.Object.{IsInside, changed_object, leaves_in, resized, written, written_anew}
use Rattle.ufs_model.specs.declared.change.Change.{Change}
use Rattle.ufs_model.specs.declared.change.Change.TheVariants.{Fill, Overwrite, SetSize}
use Rattle.ufs_model.specs.declared.object.File.{File}
use Rattle.ufs_model.specs.declared.object.Object.TheVariants as objects
use Rattle.vol_image.specs.Sound.{Holds}
use Rattle.vol_owners.specs.Account.{Drafts}
use Rattle.vol_owners.specs.Change.{ChangesOnly, of_owner}

-- the store has a file at this block, of this kind, and no draft of it, and the place of the change is within it
pub record MayChangeFile {D : Type 0} (g : Ghosts D) (at : ℕ) (kind : FileKind) (change : Change) (d : D)
    (space : Kept) : Type 0 where
  pub view : ObjectView g d space at
  pub shut : IsShut view
  pub file : File
  pub is : view.object ≡ objects.File file
  pub kind_is : file.kind ≡ kind
  pub inside : IsInside change (objects.File file)

-- How many blocks it takes. For a write a normal file takes the leaves and nodes that it doesn't hold yet. A special
-- file takes all that is written anew, and a shadow root.
abbrev pub need_for : FileKind → Change → File → ℕ
need_for kinds.Normal (Overwrite offset bytes) f = needs f offset (length bytes)
need_for kinds.Normal (SetSize size) f = 0
need_for kinds.Normal (Fill slot what) f = 0
need_for kinds.Special change f = missing (written_anew change (objects.File f) []) [] + 1

-- ---- how a draft begins

-- how a draft without a shadow root begins, on any disk: only the root block is read
pub record DirectCall {D : Type 0} (g : Ghosts D) (at : ℕ) (old new : D) (before after : Kept)
    (result : Result Drafting Refused) : Type 0 where
  pub begun : IfOk result (λ draft. draft ≡ begun_at at None draft.own)
  pub root : Tells g old → IfOk result (λ draft. IsRootBlock (block_at (g.content old) at) draft.own)
  pub refused : IfErr result (special.IsDraftRefusal g (still_top at) 0 old new after)
  pub spare : IfErr result (λ e. is_full_refusal e ≡ false)
  pub untried : IfErr result (λ e. had_tried e ≡ false)
  pub space : after ≡ before
  pub reads : OnlyReads g 1 old new

-- ---- when it is done

-- once it is done a crash takes nothing of it back; only a normal file's resize to less ends in writes that may be
-- lost
abbrev pub IsDurable : FileKind → Change → File → Type 0
IsDurable kinds.Normal (Overwrite offset bytes) f = Unit {0}
IsDurable kinds.Normal (SetSize size) f = length f.bytes ≤ size
IsDurable kinds.Normal (Fill slot what) f = Unit {0}
IsDurable kinds.Special change f = Unit {0}

-- The object is the changed file now. In the image that is to come nothing changed except blocks of the object and
-- blocks that were Free.
pub record Changed {D : Type 0} (g : Ghosts D) (kind : FileKind) (change : Change) (graph : Graph) (ds : Drafts)
    (id : Puid) (f : File) (old new : D) (space : Kept) : Type 0 where
  pub store : StoreIs g (with_object graph id (changed_object change (objects.File f))) ds new space
  pub only : ChangesOnly (λ entry. of_owner id.block entry) (g.content old) (commit.final_image g new space)
  pub settled : IsDurable kind change f → IsSettled g new

-- done or not, a crash leaves a special file old or new, and so are the size and each leaf of a normal one
abbrev pub MayLeaveFile : FileKind → Change → Graph → Puid → File → Image → Type 0
MayLeaveFile kinds.Normal (Overwrite offset bytes) graph id f c = IsPartly c graph id f (written f offset bytes)
MayLeaveFile kinds.Normal (SetSize size) graph id f c = IsPartly c graph id f (resized f size)
MayLeaveFile kinds.Normal (Fill slot what) graph id f c = Holds c graph
MayLeaveFile kinds.Special change graph id f c = IsOldOrNew graph graph id (changed_object change (objects.File f)) c

-- ---- which blocks it takes, each the least-numbered Free one

-- what is written anew of the special file with this root block
abbrev pub claims_beside : ℕ → Change → File → List MapEntry
claims_beside at (Overwrite offset bytes) f =
    claims_by_leaf at (none_of leaf_limit) (none_of node_pointers.count) (offset / 512)
    (leaves_in (offset + length bytes) - offset / 512)
claims_beside at (SetSize size) f = claims_anew at (written_anew (SetSize size) (objects.File f) []) []
claims_beside at (Fill slot what) f = []

-- Blocks were claimed for these entries from image a on, and last for a shadow root. After the entries nothing
-- changed except blocks of this owner and blocks that were Free.
pub record ClaimsBeside (owner : ℕ) (claims : List MapEntry) (a b : Image) : Type 0 where
  pub mid : Image
  pub in_order : AreClaimed claims a mid
  pub shadow : TakesShadow owner mid b
  pub only : ChangesOnly (λ entry. of_owner owner entry) mid b

abbrev pub ClaimsFor : FileKind → Change → (at : ℕ) → File → Image → Image → Type 0
ClaimsFor kinds.Normal (Overwrite offset bytes) at f a b = AreClaimed (claims_of at f offset (length bytes)) a b
ClaimsFor kinds.Normal (SetSize size) at f a b = TakesNone a b
ClaimsFor kinds.Normal (Fill slot what) at f a b = Unit {0}
ClaimsFor kinds.Special change at f a b = ClaimsBeside at (claims_beside at change f) a b

-- ---- why it is refused

-- how many bytes a file must have
abbrev pub least_size : Change → ℕ
least_size (Overwrite offset bytes) = offset + length bytes
least_size (SetSize size) = 0
least_size (Fill slot what) = 0

-- only a resize may come to that
abbrev pub is_resize : Change → Bool
is_resize (Overwrite offset bytes) = false
is_resize (SetSize size) = true
is_resize (Fill slot what) = false

-- no block of those that were counted is left for a shadow root
pub record IsNoneLeft (after : Kept) (damage : Damage) : Type 0 where
  pub code : damage.code ≡ too_full
  pub block : damage.block ≡ 0
  pub none : sum after.free ≡ 0

-- what is wrong if a special file is changed: a block that was read is damaged, its root is that of a file of fewer
-- bytes, or no block is left for a resize
pub data IsBesideDamage {D : Type 0} (g : Ghosts D) (at : ℕ) (change : Change) (old new : D) (after : Kept)
    (damage : Damage) : Type 0 where
  OfBlock : special.IsDraftDamage g (disk_top g at old) old new after damage
      → IsBesideDamage g at change old new after damage
  Short : damage.code ≡ no_root → damage.block ≡ at
      → (Tells g old → (root : Root) → IsRootBlock (block_at (g.content old) at) root → root.size < least_size change)
      → IsBesideDamage g at change old new after damage
  NoneLeft : is_resize change ≡ true → IsNoneLeft after damage → IsBesideDamage g at change old new after damage

-- what is wrong if a normal file is changed: a block of it, a map, or the counts
pub data IsPlaceDamage {D : Type 0} (g : Ghosts D) (at : Top) (old new : D) (after : Kept)
    (damage : Damage) : Type 0 where
  OfFile : normal.IsDamage g at old damage → IsPlaceDamage g at old new after damage
  OfClaims : IsNoSpace g old new after damage → IsPlaceDamage g at old new after damage
  OfDrops : IsDropDamage g at old new damage → IsPlaceDamage g at old new after damage

abbrev pub IsFileDamage : {D : Type 0} → Ghosts D → Top → FileKind → Change → D → D → Kept → Damage → Type 0
IsFileDamage g at kinds.Normal change old new after damage = IsPlaceDamage g at old new after damage
IsFileDamage g at kinds.Special change old new after damage = IsBesideDamage g at.block change old new after damage

-- as many blocks are counted Free as it says, which is too few; a device call failed; a block that was read is
-- damaged; or memory is wanted, which only a special file needs
abbrev pub IsFileRefusal : {D : Type 0} → Ghosts D → Top → FileKind → (floor : ℕ) → Change → D → D → Kept → Refused
    → Type 0
IsFileRefusal g at kind floor change old new after (refusals.Full need) =
    (need.free ≡ sum after.free) × (need.free < need.need + floor)
IsFileRefusal g at kind floor change old new after (refusals.Disk tried) = HasStopped g tried old new
IsFileRefusal g at kind floor change old new after (refusals.Damaged damage) =
    IsFileDamage g at kind change old new after damage
IsFileRefusal g at kind floor change old new after refusals.Memory = kind ≡ kinds.Special

-- the same for a draft that is committed, with or without a write tried before
abbrev pub IsCommitRefusal : {D : Type 0} → Ghosts D → Top → (wrote : Bool) → D → D → (before after : Kept) → Refused
    → Type 0
IsCommitRefusal g at wrote old new before after (refusals.Full need) = ⊥
IsCommitRefusal g at wrote old new before after (refusals.Disk tried) =
    (t : Bool) × (tried ≡ wrote || t) × HasStopped g t old new
IsCommitRefusal g at wrote old new before after (refusals.Damaged damage) =
    special.IsDraftDamage g at old new after damage ⊎ (IsNoneLeft after damage × (after ≡ before))
IsCommitRefusal g at wrote old new before after refusals.Memory = ⊥

-- how such a commit ends on any disk
pub record BesideCall {D : Type 0} (g : Ghosts D) (was : Drafting) (wrote : Bool) (old new : D) (before after : Kept)
    (result : Result (Unit {0}) Refused) : Type 0 where
  pub refused : IfErr result (IsCommitRefusal g (draft_top was) wrote old new before after)
  pub untried : IfErr result (λ e. e ≡ refusals.Disk false → (after ≡ before) × OnlyReads g (1 + changed_reads) old new)
  pub cylinders : length after.free ≡ length before.free
  pub left : OnOk result ((l : LeftCommit) × IsNoted was.at after.left l)
  pub bit : OnOk result (IsAtBit g old new after.left)
  pub calls : MakesAtMost g commit_calls commit_tries old new

-- If the store has a draft of the object, it becomes the object. No damage is met if a block is Free.
pub record CommitsBeside {D : Type 0} {g : Ghosts D} {old : D} {before : Kept} {was : Drafting}
    (v : DraftView g old before was) (new : D) (after : Kept) (result : Result (Unit {0}) Refused) : Type 0 where
  pub done : OnOk result (Committed g v.graph v.ds v.id v.draft.object None old new after)
  pub leaves : Leaves g old new (IsOldOrNew v.graph v.graph v.id v.draft.object)
  pub sound : 1 ≤ sum before.free → IfErr result (λ e. has_met_damage e ≡ false)

-- ---- the call

-- a special file's commit is unfinished then, and a normal file is changed in place
abbrev pub LeavesFileCommit : FileKind → ℕ → Option LeftCommit → Type 0
LeavesFileCommit kinds.Normal at left = left ≡ None
LeavesFileCommit kinds.Special at left = (l : LeftCommit) × IsNoted at left l

-- how it ends on any disk
pub record EndsChange {D : Type 0} (g : Ghosts D) (at : Top) (kind : FileKind) (floor : ℕ) (change : Change)
    (old new : D) (before after : Kept) (result : Result (Unit {0}) Refused) : Type 0 where
  pub refused : IfErr result (IsFileRefusal g at kind floor change old new after)
  -- if nothing was tried all is as it was, after Full and want of memory too
  pub untried : IfErr result (λ e. is_untried e ≡ true → (after ≡ before) × OnlyReads g drafted_calls old new)
  pub cylinders : length after.free ≡ length before.free
  pub left : OnOk result (LeavesFileCommit kind at.block after.left)
  -- if a commit is unfinished, its bit was tried
  pub bit : OnOk result (IsAtBit g old new after.left)
  pub calls : MakesAtMost g change_calls change_tries old new

-- If the store has the file and the call is done, it is the changed file, and blocks were taken in their order.
pub record ChangesSo {D : Type 0} {g : Ghosts D} {at : ℕ} {kind : FileKind} {change : Change} {old : D} {before : Kept}
    (m : MayChangeFile g at kind change old before) (floor : ℕ) (new : D) (after : Kept)
    (result : Result (Unit {0}) Refused) : Type 0 where
  pub done : OnOk result (Changed g kind change m.view.graph m.view.ds m.view.id m.file old new after)
  pub order : OnOk result (ClaimsFor kind change at m.file (g.content old) (commit.final_image g new after))
  pub leaves : Leaves g old new (MayLeaveFile kind change m.view.graph m.view.id m.file)
  -- it is full exactly if the need plus the floor isn't Free
  pub room : OnOk result (need_for kind change m.file + floor ≤ sum before.free)
  pub full : IfErr result (λ e. is_full_refusal e ≡ true →
      (e ≡ refusals.Full (record { free = sum before.free; need = need_for kind change m.file }))
      × (sum before.free < need_for kind change m.file + floor))
  -- if a write was tried they were Free, or the file stayed as it was
  pub begun : IfErr result (λ e. e ≡ refusals.Disk true →
      (need_for kind change m.file + floor ≤ sum before.free) ⊎ Leaves g old new (λ c. Holds c m.view.graph))
  -- no damage is met
  pub sound : IfErr result (λ e. has_met_damage e ≡ false)

-- The file of this kind with its root at a block is changed.
pub record ChangesFile {D : Type 0} (g : Ghosts D) (at : ℕ) (kind : FileKind) (floor : ℕ) (change : Change)
    (old new : D) (before after : Kept) (result : Result (Unit {0}) Refused) : Type 0 where
  pub goes : (m : MayChangeFile g at kind change old before) → ChangesSo m floor new after result
  pub ends : EndsChange g (disk_top g at old) kind floor change old new before after result
