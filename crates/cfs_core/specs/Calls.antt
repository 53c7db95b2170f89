-- What a call of a core is: one event, and how exact its reply is.
use Rattle.std.specs.Prelude.{◌≡◌, ℕ, ◌+◌, ◌<◌, ◌≤◌, Bool, true, false, nat_le, if◌then◌else◌}
use Rattle.std.specs.Prelude.{length, sum, Result, Ok, Err, IfErr, IfOk, IsSome, Option, Some, None}
use Rattle.cfs_base.specs.Calls.{HasStopped, OnlyReads}
use Rattle.cfs_base.specs.Disk.{Image}
use Rattle.cfs_base.specs.Run.{Leaves}
use Rattle.cfs_base.specs.declared.disk.Disk.{Ghosts}
use Rattle.cfs_base.specs.declared.identifier.Puid.{Puid}
use Rattle.cfs_base.specs.declared.refusal.Need.{Need}
use Rattle.cfs_base.specs.declared.refusal.Refused.{Refused}
use Rattle.cfs_base.specs.declared.refusal.Refused.TheVariants as refusals
use Rattle.cyl_alloc.specs.Left.{LeftCommit}
use Rattle.cyl_alloc.specs.Space.{IsLeastFree}
use Rattle.cyl_map.specs.Volume.{entry_in}
use Rattle.intentions.specs.Left.{coming}
use Rattle.marking.specs.Meanwhile.{is_carried_out}
use Rattle.puid_space.specs.Directory.{has_root_in}
use Rattle.survival.specs.Call.{CallSurvives}
use Rattle.survival.specs.Held.{HoldsSome}
use Rattle.ufs_model.specs.declared.asked.Event.{Event}
use Rattle.ufs_model.specs.declared.asked.Event.TheVariants as events
use Rattle.ufs_model.specs.declared.asked.Ref.{Ref}
use Rattle.ufs_model.specs.declared.asked.Ref.TheVariants.{Direct, Through}
use Rattle.ufs_model.specs.declared.asked.Reply.{Reply}
use Rattle.ufs_model.specs.declared.asked.Reply.TheVariants as replies
use Rattle.ufs_model.specs.declared.asked.Request.{Request}
use Rattle.ufs_model.specs.declared.object.File.{File}
use Rattle.ufs_model.specs.declared.object.Index.{Index}
use Rattle.ufs_model.specs.declared.object.Object.TheVariants as objects
use Rattle.ufs_model.specs.Graph.{Graph, with_object}
use Rattle.ufs_model.specs.Limits.{reserve}
use Rattle.ufs_model.specs.Need.{need_of}
use Rattle.ufs_model.specs.Next.{is_direct_delete, next}
use Rattle.ufs_model.specs.Object.{slot_of}
use Rattle.ufs_model.specs.Outcome.{creates, draws, outcome_of, slot_reply}
use Rattle.ufs_model.specs.Plain.{IsPlainReply}
use Rattle.ufs_model.specs.Refusal.{refusal_of}
use Rattle.ufs_model.specs.State.{State}
use Rattle.vol_image.specs.Survives.{ChangesInPlace, IsBetween, MayName}
use Rattle.vol_owners.specs.Owner.{is_stray}
use Rattle.cfs_core.specs.Claimed.{TakesForRequest}
use Rattle.cfs_core.specs.Commits.{commits}
use Rattle.cfs_core.specs.Damage.{IsDamageMet, IsDamageTold, IsMet}
use Rattle.cfs_core.specs.Kernel.{Kernel, grants_in}
use Rattle.cfs_core.specs.StandsFor.{ServesWith, StoresState, drafts_of_handles, end_in, free_with}
use Rattle.cfs_core.specs.Ways.{Reaches}
use Rattle.cfs_core.specs.Writes.{changes_disk}

-- ---- replies

-- the request takes blocks, isn't a delete that goes through no grant, and takes more than may be taken
pub record IsShortOfBlocks (s : State) (who : ℕ) (request : Request) (free : ℕ) : Type 0 where
  pub delete : is_direct_delete request ≡ false
  pub few : free < need_of s who request + reserve

-- the reply is that of the outcome of the definitions, with the least Free block as a new object's root, and as many
-- blocks as it takes were Free
pub record IsDone (seed : ℕ) (s : State) (who : ℕ) (request : Request) (image : Image) (free : ℕ)
    (reply : Reply) : Type 0 where
  pub block : ℕ
  pub least : creates request ≡ true → IsLeastFree image block
  pub reply_is : reply ≡ (outcome_of seed s who request block).0
  pub room : ¬ IsShortOfBlocks s who request free

-- The reply that is owed if no device call failed and there is memory.
pub data IsOwed (seed : ℕ) (s : State) (who : ℕ) (request : Request) (image : Image) (free : ℕ)
    (reply : Reply) : Type 0 where
  ByRefusal : refusal_of s who request ≡ Some reply → IsOwed seed s who request image free reply
  ByWant : refusal_of s who request ≡ None → IsShortOfBlocks s who request free
      → reply ≡ replies.Full (record { free = free; need = need_of s who request })
      → IsOwed seed s who request image free reply
  ByOutcome : refusal_of s who request ≡ None → IsDone seed s who request image free reply
      → IsOwed seed s who request image free reply

-- nothing is owed for want of memory or if a device call failed
abbrev pub Owes : ℕ → State → ℕ → Request → Image → ℕ → Reply → Type 0
Owes seed s who request image free replies.Memory = Unit {0}
Owes seed s who request image free (replies.Disk doubt) = Unit {0}
Owes seed s who request image free (replies.Damaged damage moment) = ⊥
Owes seed s who request image free (replies.Stopped moment) = ⊥
Owes seed s who request image free reply = IsOwed seed s who request image free reply

-- ---- one event

-- each block of an object that is gone was one before
abbrev pub AddsNoStray : Image → Image → Graph → Graph → Type 0
AddsNoStray a b g h =
    (n : ℕ) → is_stray h (entry_in b n) ≡ true → (entry_in b n ≡ entry_in a n) × (is_stray g (entry_in a n) ≡ true)

-- The event may come in the state, the store has the state after it, and what a crash leaves survives. The collector
-- doesn't know of it yet. `commit` was left of a commit before. What is said of blocks is said of the image that was
-- to come and of the one that is to come now.
pub record MakesEvent {D : Type 0} (g : Ghosts D) (commit : Option LeftCommit) (old new : Kernel D) (s : State)
    (e : Event) : Type 0 where
  pub after : State
  pub step : next old.words.seed s e ≡ Some after
  pub stores : StoresState g new after
  pub strays : AddsNoStray (coming (g.content old.disk) commit) (end_in g new) s.graph after.graph
  pub survives : CallSurvives g old.words.seed s e old.disk new.disk

-- nothing was written after such a reply
abbrev pub leaves_all : Reply → Bool
leaves_all replies.Done = false
leaves_all (replies.Id id) = false
leaves_all (replies.Grant t) = false
leaves_all (replies.Full need) = false
leaves_all (replies.Disk (Some moment)) = false
leaves_all (replies.Damaged damage moment) = false
leaves_all reply = true

-- nothing was written, and nothing else changed
pub record IsAsItWas {D : Type 0} (g : Ghosts D) (old new : Kernel D) : Type 0 where
  pub same : new ≡ record old { disk = new.disk }
  pub most : ℕ
  pub reads : OnlyReads g most old.disk new.disk

-- nothing was written, and what is left of a commit is still left
pub record KeepsDisk {D : Type 0} (g : Ghosts D) (old new : Kernel D) : Type 0 where
  pub space : new.space ≡ old.space
  pub most : ℕ
  pub reads : OnlyReads g most old.disk new.disk

-- What was left of a commit is carried out, and nothing else changed. If nothing was left, nothing was written.
pub record IsFinished {D : Type 0} (g : Ghosts D) (commit : Option LeftCommit) (old new : Kernel D) : Type 0 where
  pub same : new ≡ record old { disk = new.disk; space = new.space }
  pub none : new.space.left ≡ None
  pub content : g.content new.disk ≡ coming (g.content old.disk) commit
  pub still : commit ≡ None → IsAsItWas g old new

abbrev pub is_full_reply : Reply → Bool
is_full_reply (replies.Full need) = true
is_full_reply reply = false

-- The call gave this answer.
pub record Answers {D : Type 0} (g : Ghosts D) (commit : Option LeftCommit) (old new : Kernel D) (s : State) (who : ℕ)
    (request : Request) (reply : Reply) : Type 0 where
  pub event : MakesEvent g commit old new s (events.Ask who request reply)
  pub still : leaves_all reply ≡ true → IsAsItWas g old new
  pub full : is_full_reply reply ≡ true → IsFinished g commit old new
  pub owed : Owes old.words.seed s who request (coming (g.content old.disk) commit) (free_with g old commit) reply
  pub taken : is_carried_out reply ≡ true
      → TakesForRequest old.handles s who request reply (coming (g.content old.disk) commit) (end_in g new)
  pub noted : is_carried_out reply ≡ true → commits s who request ≡ true → IsSome new.space.left

-- the objects that may be read during a request which isn't refused: those of before, those of after, or those with a
-- normal file whose change was cut short
pub data MayBeRead (seed : ℕ) (s : State) (who : ℕ) (request : Request) : Graph → Type 0 where
  Undone : MayBeRead seed s who request s.graph
  Whole : (b : ℕ) → MayName s request b → MayBeRead seed s who request (outcome_of seed s who request b).1.graph
  CutShort : (id : Puid) (old new f : File) → ChangesInPlace s who request id old new → IsBetween old new f
      → MayBeRead seed s who request (with_object s.graph id (objects.File f))

-- The call failed after its first write: what it would have done may have been done, wholly or in part.
pub record IsInDoubt {D : Type 0} (g : Ghosts D) (old new : Kernel D) (s : State) (who : ℕ)
    (request : Request) : Type 0 where
  pub allowed : refusal_of s who request ≡ None
  pub drawn : new.words.drawn ≡ old.words.drawn
  pub named : new.directory ≡ old.directory
  pub grants : grants_in new.handles ≡ grants_in old.handles
  pub leaves : Leaves g old.disk new.disk (HoldsSome (g.blocks new.disk) (MayBeRead old.words.seed s who request))

-- how a call that tries to answer ends
abbrev pub EndsSo : {D : Type 0} → Ghosts D → Option LeftCommit → Kernel D → Kernel D → State → ℕ → Request
    → Result Reply Refused → Type 0
EndsSo g commit old new s who request (Ok reply) = Answers g commit old new s who request reply
EndsSo g commit old new s who request (Err (refusals.Full need)) =
    Answers g commit old new s who request (replies.Full need)
EndsSo g commit old new s who request (Err (refusals.Disk false)) =
    Answers g commit old new s who request (replies.Disk None)
EndsSo g commit old new s who request (Err (refusals.Disk true)) = IsInDoubt g old new s who request
EndsSo g commit old new s who request (Err (refusals.Damaged damage)) = ⊥
EndsSo g commit old new s who request (Err refusals.Memory) = Answers g commit old new s who request replies.Memory

-- a request that isn't a delete which goes through no grant finds as many blocks counted Free as it says, too few
-- beside the last four
abbrev pub IsWant : Option Request → (free : ℕ) → Need → Type 0
IsWant None free need = ⊥
IsWant (Some request) free need =
    (is_direct_delete request ≡ false) × (need.free ≡ free) × (need.free < need.need + reserve)

-- a device call failed in this call, for a request or for none; a block that was read is outside its table; or too
-- few blocks are counted Free
abbrev pub IsCause : {D : Type 0} → Ghosts D → (old new : Kernel D) → Option Request → Refused → Type 0
IsCause g old new request (refusals.Full need) = IsWant request (sum old.space.free) need
IsCause g old new request (refusals.Disk tried) = HasStopped g tried old.disk new.disk
IsCause g old new request (refusals.Damaged damage) = IsDamageTold g old new request damage
IsCause g old new request refusals.Memory = Unit {0}

-- the same for a request that may first have carried out what was left of a commit
abbrev pub IsCauseOf : {D : Type 0} → Ghosts D → (old new : Kernel D) → Request → Refused → Type 0
IsCauseOf g old new request (refusals.Full need) = IsMet g old (λ k. IsWant (Some request) (sum k.space.free) need)
IsCauseOf g old new request (refusals.Disk tried) = HasStopped g tried old.disk new.disk
IsCauseOf g old new request (refusals.Damaged damage) = IsDamageMet g old new request damage
IsCauseOf g old new request refusals.Memory = Unit {0}

-- What a call did, however it ended, on any disk: a refusal has its cause, and only as many words were drawn as the
-- request draws.
pub record RequestWent {D : Type 0} (g : Ghosts D) (old new : Kernel D) (request : Request)
    (result : Result Reply Refused) : Type 0 where
  pub plain : IfOk result IsPlainReply
  pub cause : IfErr result (IsCauseOf g old new request)
  pub size : g.blocks new.disk ≡ g.blocks old.disk
  pub faults : g.faults old.disk ≤ g.faults new.disk
  pub later : g.moment old.disk ≤ g.moment new.disk
  pub stop : new.stop ≡ old.stop
  pub collections : new.collections ≡ old.collections
  pub seed : new.words.seed ≡ old.words.seed
  pub kept : old.words.drawn ≤ new.words.drawn
  pub drawn : new.words.drawn ≤ old.words.drawn + draws request

-- A call that tries to answer a session's request of a core that hasn't stopped, and that had this left of a commit.
pub record TriesWith {D : Type 0} (g : Ghosts D) (commit : Option LeftCommit) (old new : Kernel D) (who : ℕ)
    (request : Request) (result : Result Reply Refused) : Type 0 where
  pub ends : (s : State) → ServesWith g old s commit → old.stop ≡ None → EndsSo g commit old new s who request result
  pub went : RequestWent g old new request result
  pub keeps : changes_disk old request ≡ false → KeepsDisk g old new

abbrev pub Tries : {D : Type 0} → Ghosts D → Kernel D → Kernel D → ℕ → Request → Result Reply Refused → Type 0
Tries g old new who request result = TriesWith g old.space.left old new who request result

-- The same for a request on a slot of an index that has a name and no draft.
pub record TriesOnWith {D : Type 0} (g : Ghosts D) (commit : Option LeftCommit) (old new : Kernel D) (index : Puid)
    (slot : ℕ) (request : Request) (result : Result Reply Refused) : Type 0 where
  pub ends : (s : State) (who : ℕ) (i : Index) → ServesWith g old s commit → old.stop ≡ None
      → Reaches s who request index (objects.Index i) → (drafts_of_handles old.handles s.grants) index ≡ None
      → slot < length i.slots → refusal_of s who request ≡ None → EndsSo g commit old new s who request result
  pub went : has_root_in old.directory.named index.block ≡ true → RequestWent g old new request result

abbrev pub TriesOn : {D : Type 0} → Ghosts D → Kernel D → Kernel D → Puid → ℕ → Request → Result Reply Refused → Type 0
TriesOn g old new index slot request result = TriesOnWith g old.space.left old new index slot request result

-- ---- what a slot holds, as a reply

abbrev pub looked : Index → ℕ → Reply
looked i slot = if nat_le (length i.slots) slot then replies.Slot else slot_reply (slot_of i slot)

-- what must stay Free beside a delete: no block if it goes through no grant, and else the last four
abbrev pub delete_floor : Ref → ℕ
delete_floor (Direct id) = 0
delete_floor (Through t) = reserve

-- how a call ends that has nothing else to report
abbrev pub done_or : Result (Unit {0}) Refused → Result Reply Refused
done_or (Ok u) = Ok replies.Done
done_or (Err e) = Err e
