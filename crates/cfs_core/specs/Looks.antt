-- Reads of an object.
use Rattle.std.specs.Prelude.{◌≡◌, ℕ, ◌+◌, true, false, length, slice_range, if◌then◌else◌, IfErr, None, Result}
use Rattle.block_tree.specs.declared.root.Root.{Root}
use Rattle.cfs_base.specs.Calls.{HasStopped, OnlyReads}
use Rattle.cfs_base.specs.declared.disk.Disk.{Ghosts}
use Rattle.cfs_base.specs.declared.identifier.Puid.{Puid}
use Rattle.cfs_base.specs.declared.refusal.Damage.{Damage}
use Rattle.cfs_base.specs.declared.refusal.Refused.{Refused}
use Rattle.cfs_base.specs.declared.refusal.Refused.TheVariants as refusals
use Rattle.cyl_alloc.specs.Space.{Kept}
use Rattle.puid_space.specs.Directory.{has_root_in}
use Rattle.leaf_changes.specs.Tops.{Top}
use Rattle.normal_files.specs.Standing.{IsRootAt}
use Rattle.special_files.specs.Refusal.{IsDraftDamage, has_met_damage}
use Rattle.special_files.specs.View.{ShownView}
use Rattle.ufs_model.specs.declared.asked.Reply.{Reply}
use Rattle.ufs_model.specs.declared.asked.Reply.TheVariants as replies
use Rattle.ufs_model.specs.declared.asked.Request.{Request}
use Rattle.ufs_model.specs.declared.object.File.{File}
use Rattle.ufs_model.specs.declared.object.Index.{Index}
use Rattle.ufs_model.specs.declared.object.Object.{Object}
use Rattle.ufs_model.specs.Refusal.{is_range}
use Rattle.ufs_model.specs.State.{State}
use Rattle.cfs_base.specs.Run.{Tells}
use Rattle.cfs_core.specs.Damage.{IsOutside}
use Rattle.cfs_core.specs.Kernel.{Kernel}
use Rattle.cfs_core.specs.StandsFor.{ServesIs, drafts_of_handles}
use Rattle.cfs_core.specs.Ways.{Reaches}

-- ---- an object that is reached

-- Whatever state the core stands for, the request reaches such an object, which has no draft.
abbrev pub ReachesIn : {D A : Type 0} → Ghosts D → (A → Object) → Kernel D → ℕ → Request → Puid → Type 0
ReachesIn {A = A} g sort k who request id = (s : State) → ServesIs g k s → (a : A) × Reaches s who request id (sort a)
    × ((drafts_of_handles k.handles s.grants) id ≡ None)

-- the same, and it has a name, on any disk
abbrev pub ReachesAll : {D A : Type 0} → Ghosts D → (A → Object) → Kernel D → ℕ → Request → Puid → Type 0
ReachesAll g sort k who request id = ReachesIn g sort k who request id × (has_root_in k.directory.named id.block ≡ true)

-- the store has this object, which is shown at the block
pub record KnowsObject {D : Type 0} (g : Ghosts D) (d : D) (at : ℕ) (o : Object) : Type 0 where
  pub view : ShownView g d at
  pub is : view.object ≡ o

-- ---- calls that only read

-- At most n reads were made since the disk was `old`, and this root was read from the block.
pub record WasRead {D : Type 0} (g : Ghosts D) (n at : ℕ) (root : Root) (old now : D) : Type 0 where
  pub reads : OnlyReads g n old now
  pub rooted : Tells g old → IsRootAt (g.content old) at root

-- a device call failed, and nothing had been tried; a block is damaged so; or there was no memory
abbrev pub IsReadCause : {D : Type 0} → Ghosts D → (Damage → Type 0) → D → D → Refused → Type 0
IsReadCause g So old new (refusals.Full need) = ⊥
IsReadCause g So old new (refusals.Disk tried) = (tried ≡ false) × HasStopped g false old new
IsReadCause g So old new (refusals.Damaged damage) = So damage
IsReadCause g So old new refusals.Memory = Unit {0}

-- a block of the object with this root is outside its table
abbrev pub IsCalmCause : {D : Type 0} → Ghosts D → (at : ℕ) → D → D → Refused → Type 0
IsCalmCause g at old new e =
    IsReadCause g (IsOutside (Tells g old) (g.content old) (g.blocks old) (λ n. n ≡ at) 0) old new e

-- the same for a draft of the object with this root, of which nothing is written
abbrev pub IsDraftCause : {D : Type 0} → Ghosts D → Top → D → D → Refused → Type 0
IsDraftCause g at old new e =
    IsReadCause g (λ damage. (kept : Kept) → IsDraftDamage g at old new kept damage) old new e

-- a call that only reads, and meets no damage if there is such an object
pub record IsCalm {D A B : Type 0} (g : Ghosts D) (sort : A → Object) (n at : ℕ) (old new : D)
    (result : Result B Refused) : Type 0 where
  pub reads : OnlyReads g n old new
  pub sound : (a : A) → KnowsObject g old at (sort a) → IfErr result (λ e. has_met_damage e ≡ false)
  pub cause : IfErr result (IsCalmCause g at old new)

-- ---- what is read, as a reply

-- the number of slots, and the size
abbrev pub counted : Index → Reply
counted i = replies.Number (length i.slots)

abbrev pub measured : File → Reply
measured f = replies.Number (length f.bytes)

-- 1 to 4,096 bytes from an offset on, within the size
abbrev pub content_reply : File → ℕ → ℕ → Reply
content_reply f offset count =
    if is_range (length f.bytes) offset count
    then replies.Content (slice_range f.bytes offset (offset + count))
    else replies.Range
