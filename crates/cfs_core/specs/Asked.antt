-- A request that was asked.
use Rattle.std.specs.Prelude.{◌≡◌, ℕ, ◌+◌, ◌-◌, ◌≤◌, Bool, true, false, length, sum, IsSome, Result, Ok, Err, Option}
use Rattle.std.specs.Prelude.{Some, None}
use Rattle.cfs_base.specs.Calls.{HasStopped}
use Rattle.cfs_base.specs.declared.disk.Disk.{Ghosts}
use Rattle.cfs_base.specs.declared.refusal.Refused.{Refused}
use Rattle.cfs_base.specs.declared.refusal.Refused.TheVariants as refusals
use Rattle.marking.specs.Meanwhile.{is_carried_out, rescues_of}
use Rattle.survival.specs.Call.{Survived}
use Rattle.ufs_model.specs.declared.asked.Event.{Event}
use Rattle.ufs_model.specs.declared.asked.Event.TheVariants as events
use Rattle.ufs_model.specs.declared.asked.Reply.{Reply}
use Rattle.ufs_model.specs.declared.asked.Reply.TheVariants as replies
use Rattle.ufs_model.specs.declared.asked.Request.{Request}
use Rattle.ufs_model.specs.Limits.{most_at_once}
use Rattle.ufs_model.specs.Next.{next}
use Rattle.ufs_model.specs.Outcome.{draws}
use Rattle.ufs_model.specs.State.{State}
use Rattle.cfs_core.specs.declared.kernel.Halt.{Halt}
use Rattle.cfs_core.specs.declared.kernel.Stop.{Stop}
use Rattle.cfs_core.specs.Calls.{IsAsItWas, IsFinished, IsWant, KeepsDisk, Owes, is_full_reply, leaves_all}
use Rattle.cfs_core.specs.Claimed.{TakesForRequest}
use Rattle.cfs_core.specs.Commits.{commits}
use Rattle.cfs_core.specs.Damage.{IsDamageMet, IsMet}
use Rattle.cfs_core.specs.Kernel.{Kernel}
use Rattle.cfs_core.specs.Left.{AddsOne}
use Rattle.cfs_core.specs.Rescues.{AreRescued, ended_by}
use Rattle.cfs_core.specs.Room.{MayLose, lost_blocks}
use Rattle.cfs_core.specs.StandsFor.{StandsFor, end_in, free_to_come}
use Rattle.cfs_core.specs.Writes.{changes_disk}

-- ---- what is reported of a refusal from below, at this moment of the disk

-- a call failed: if a write had been tried the doubt is of the moment before
abbrev pub doubt_of : (tried : Bool) → ℕ → Option ℕ
doubt_of false moment = None
doubt_of true moment = Some (moment - 1)

abbrev pub reply_to : Refused → ℕ → Reply
reply_to (refusals.Full need) moment = replies.Full need
reply_to (refusals.Disk tried) moment = replies.Disk (doubt_of tried moment)
reply_to (refusals.Damaged damage) moment = replies.Damaged damage moment
reply_to refusals.Memory moment = replies.Memory

-- how the core has stopped after such a reply
abbrev pub stopped_by : Reply → Option Stop → Option Stop
stopped_by (replies.Disk (Some moment)) before = Some (record { moment = moment; damage = None })
stopped_by (replies.Damaged damage moment) before = Some (record { moment = moment; damage = Some damage })
stopped_by reply before = before

-- the moment at which it stopped while a session left, if it did
abbrev pub halted : Result (Unit {0}) Halt → Option ℕ
halted (Ok u) = None
halted (Err halt) = Some halt.moment

-- a content is no longer than one read gives
abbrev pub IsShortContent : Reply → Type 0
IsShortContent (replies.Content bytes) = length bytes ≤ most_at_once
IsShortContent reply = Unit {0}

-- ---- one event

-- the event may come in the state, the core stands for the state after it, and what a crash leaves survives
pub record Happens {D : Type 0} (g : Ghosts D) (old new : Kernel D) (s : State) (e : Event) : Type 0 where
  pub after : State
  pub step : next old.words.seed s e ≡ Some after
  pub stands : StandsFor g new after
  pub survives : Survived g old.words.seed s e old.disk new.disk
  -- the images are those that are to come
  pub lost : new.stop ≡ None → MayLose e s.graph after.graph (lost_blocks (end_in g old) s.graph)
      (lost_blocks (end_in g new) after.graph)

-- What caused the reply. For Disk a device call failed in this call. With a doubt something had been tried, and the
-- moment is the one before the disk's present one. At a damage a block is outside its table, and the moment is the
-- disk's present one. A request that finds too few blocks says how many were counted Free. A core that runs reports
-- no stop. What was left of a commit may have been carried out before.
abbrev pub IsToldCause : {D : Type 0} → Ghosts D → Kernel D → Kernel D → Request → Reply → Type 0
IsToldCause g old new request (replies.Disk None) = HasStopped g false old.disk new.disk
IsToldCause g old new request (replies.Disk (Some moment)) =
    HasStopped g true old.disk new.disk × (moment ≡ g.moment new.disk - 1)
IsToldCause g old new request (replies.Damaged damage moment) =
    IsDamageMet g old new request damage × (moment ≡ g.moment new.disk)
IsToldCause g old new request (replies.Stopped moment) = ⊥
IsToldCause g old new request (replies.Full need) = IsMet g old (λ k. IsWant (Some request) (sum k.space.free) need)
IsToldCause g old new request reply = Unit {0}

pub record Asks {D : Type 0} (g : Ghosts D) (old new : Kernel D) (who : ℕ) (request : Request)
    (reply : Reply) : Type 0 where
  -- one event, for each state for which it stood
  pub event : (s : State) → StandsFor g old s → Happens g old new s (events.Ask who request reply)
  -- the reply is exact; the Free blocks are those once nothing is unfinished
  pub owed : old.stop ≡ None → (s : State) → StandsFor g old s
      → Owes old.words.seed s who request (end_in g old) (free_to_come g old) reply
  -- a refusal, Memory and Disk without a doubt leave all as it was, except the room for a rescue, and write nothing
  pub still : old.stop ≡ None → (s : State) → StandsFor g old s → leaves_all reply ≡ true
      → IsAsItWas g (record old { collections = new.collections }) new
  -- a Full has carried out what was left, and leaves all else as it was
  pub full : old.stop ≡ None → (s : State) → StandsFor g old s → is_full_reply reply ≡ true
      → IsFinished g old.space.left (record old { collections = new.collections }) new
  -- for a request that is done, each block that it takes is the least-numbered Free one, in the stated order
  pub taken : old.stop ≡ None → (s : State) → StandsFor g old s → is_carried_out reply ≡ true
      → TakesForRequest old.handles s who request reply (end_in g old) (end_in g new)
  -- a commit is done at its bit, and what is left of it is unfinished then
  pub noted : old.stop ≡ None → (s : State) → StandsFor g old s → is_carried_out reply ≡ true
      → commits s who request ≡ true → IsSome new.space.left
  -- a core that had stopped makes no call of the disk
  pub stopped : (stop : Stop) → old.stop ≡ Some stop → (new ≡ old) × (reply ≡ replies.Stopped stop.moment)
  -- it stops only after a doubt and at a damage
  pub stops : old.stop ≡ None → new.stop ≡ stopped_by reply None
  pub cause : old.stop ≡ None → IsToldCause g old new request reply
  -- What was put into an index, or opened, is a rescue while a collection marks, and the draft of a grant that ended
  -- is no longer read. No step of a collection is made.
  pub rescued : old.stop ≡ None → (s : State) → StandsFor g old s
      → AreRescued old.collections.collector new.collections.collector (rescues_of s who request reply)
      (ended_by s who request reply)
  pub called : new.collections.called ≡ old.collections.called
  pub finished : new.collections.finished ≡ old.collections.finished
  -- On any disk a request that changes nothing there writes nothing, and leaves what is unfinished.
  pub keeps : changes_disk old request ≡ false → KeepsDisk g old new
  pub waits : AddsOne (g.blocks old.disk) old.collections new.collections
  pub later : g.moment old.disk ≤ g.moment new.disk
  pub size : g.blocks new.disk ≡ g.blocks old.disk
  pub faults : g.faults old.disk ≤ g.faults new.disk
  pub short : IsShortContent reply
  pub seed : new.words.seed ≡ old.words.seed
  pub kept : old.words.drawn ≤ new.words.drawn
  pub drawn : new.words.drawn ≤ old.words.drawn + draws request
