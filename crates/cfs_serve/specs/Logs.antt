-- A server and its trail.
use Rattle.std.specs.Prelude.{◌≡◌, ℕ, ◌+◌, ◌<◌, ◌≤◌, Bool, true, false, List, [], ◌∷◌, ◌++◌, Option, Some, None, length}
use Rattle.std.specs.Prelude.{if◌then◌else◌}
use Rattle.std.specs.List.{list_all, list_any}
use Rattle.ufs_model.specs.declared.asked.Event.{Event}
use Rattle.ufs_model.specs.declared.asked.Event.TheVariants as events
use Rattle.ufs_model.specs.declared.asked.Request.{Request}
use Rattle.ufs_model.specs.declared.asked.Reply.{Reply}
use Rattle.ufs_model.specs.Graph.{Graph}
use Rattle.ufs_model.specs.State.{State, opening}
use Rattle.ufs_model.specs.Run.{replay}
use Rattle.cfs_ports.specs.Port.{PortReading, WritesReply}
use Rattle.cfs_base.specs.Outside.{Rose, count_after}
use Rattle.cfs_serve.specs.Calls.{AreExact, IsTallied, Tally, begun_so_far, lost_in}
use Rattle.cfs_serve.specs.Charter.{Terms}
use Rattle.cfs_serve.specs.Ending.{EndsService}
use Rattle.cfs_serve.specs.declared.ending.Ending.{Ending}
use Rattle.cfs_serve.specs.Events.{begins_in, is_calm, is_finish, is_no_step, is_of_session, tells_disk, tells_fault}
use Rattle.cfs_serve.specs.Events.{tells_stop}
use Rattle.cfs_core.specs.declared.collecting.CollectFault.{CollectFault}
use Rattle.cfs_core.specs.declared.collecting.CollectFault.TheVariants as faults
use Rattle.cfs_core.specs.declared.kernel.Stop.{Stop}
use Rattle.cfs_serve.specs.declared.logged.CollectorTurn.{CollectorTurn}
use Rattle.cfs_serve.specs.declared.logged.CollectorTurn.TheVariants as progresses

pub record ServerLog (A : Type 0) : Type 0 where
  pub server : A
  pub events : List Event
  -- the disk's moment as each was recorded
  pub moments : List ℕ
  pub room : ℕ
  -- want of memory was reported
  pub starved : Bool
  -- a failed call of the disk was reported
  pub failed : Bool

-- one event more was recorded, with the disk's moment as it is now
abbrev pub IsStamped : {A : Type 0} → (A → ℕ) → ServerLog A → ServerLog A → Type 0
IsStamped clock old new = new.moments ≡ old.moments ++ clock new.server ∷ []

-- The trail is a legal run on this graph, and the server stands for the state after it. On a disk each answer is exact.
-- If no block was found damaged as the server began, none was since. As long as the server runs, it has no more blocks
-- of objects that are gone than the last ones had.
pub record IsRunOn {A : Type 0} (stands : A → State → Type 0) (has_stopped is_damaged : A → Bool) (tally : A → Tally)
    (seed cylinders : ℕ) (graph : Graph) (begun server : A) (trail : List Event) : Type 0 where
  pub last : State
  pub legal : replay seed graph trail ≡ Some last
  pub standing : stands server last
  pub exact : 0 < cylinders → AreExact cylinders seed 0 (opening graph) trail
  pub undamaged : is_damaged begun ≡ false → is_damaged server ≡ false
  pub lost : has_stopped server ≡ false → (tally server).lost last.graph ≤ lost_in seed 0 (opening graph) trail

-- the same on each graph on which the server began
abbrev pub IsRun : {A : Type 0} → (A → State → Type 0) → (has_stopped is_damaged : A → Bool) → (A → Tally) → Terms A → A
    → List Event → Type 0
IsRun {A} stands has_stopped is_damaged tally t server trail = (begun : A) (graph : Graph) → t.began ≡ Some begun
    → stands begun (opening graph)
    → IsRunOn stands has_stopped is_damaged tally t.seed t.cylinders graph begun server trail

-- no moment is below the one before it, from `first` on, and none above `last`
abbrev pub MomentsRise : (first : ℕ) → List ℕ → (last : ℕ) → Type 0
MomentsRise first [] last = first ≤ last
MomentsRise first (m ∷ moments) last = (first ≤ m) × MomentsRise m moments last

-- What holds on any disk. No more collections began than were called for. As long as the server runs, it counts those
-- of the trail. Since it began, no moment is below the one before it.
pub record IsLogKept {A : Type 0} (clock : A → ℕ) (has_stopped : A → Bool) (tally : A → Tally) (t : Terms A)
    (server : A)
    (trail : List Event) (moments : List ℕ) : Type 0 where
  pub few : begins_in trail ≤ (tally server).called
  pub tallied : has_stopped server ≡ false → IsTallied (tally server) trail
  pub rise : (begun : A) → t.began ≡ Some begun → MomentsRise (clock begun) moments (clock server)

-- What the trail reports of the disk, on any disk. If the server runs and no failed call is reported, no other trouble
-- is. If it stopped, a call had failed, unless a block was damaged.
pub record Told {A : Type 0} (faults : A → ℕ) (has_stopped is_damaged : A → Bool) (begun server : A)
    (trail : List Event)
    : Type 0 where
  pub later : faults begun ≤ faults server
  pub calm : has_stopped server ≡ false → list_any tells_disk trail ≡ false → list_all is_calm trail ≡ true
  pub halts : has_stopped server ≡ true → is_damaged server ≡ false → Rose (faults begun) (faults server)

-- the same since the server began
pub record IsTold {A : Type 0} (faults : A → ℕ) (has_stopped is_damaged : A → Bool) (t : Terms A) (server : A)
    (trail : List Event) : Type 0 where
  pub since : (begun : A) → t.began ≡ Some begun → Told faults has_stopped is_damaged begun server trail

-- how the service ended, by what came since the server began
pub record HasEnded {A : Type 0} (faults : A → ℕ) (t : Terms A) (server : A) (ending : Ending)
    (trail : List Event) : Type 0 where
  pub later : (begun : A) → t.began ≡ Some begun → faults begun ≤ faults server
  pub since : (begun : A) → t.began ≡ Some begun → EndsService (Rose (faults begun) (faults server))
      t.collections ending trail

-- a server that stopped stays so
abbrev pub StaysStopped : {A : Type 0} → (A → Option Stop) → ServerLog A → ServerLog A → Type 0
StaysStopped stop old new = (s : Stop) → stop old.server ≡ Some s → stop new.server ≡ Some s

-- one event was recorded, or none
abbrev pub recorded : Option Event → List Event
recorded None = []
recorded (Some e) = e ∷ []

-- ---- failed calls of the disk

-- a step was refused for a failed call without a doubt, which is no event
abbrev pub is_quiet_fault : Option CollectFault → Bool
is_quiet_fault (Some (faults.Disk None)) = true
is_quiet_fault refused = false

-- the count of failed calls, with one more for such a step
abbrev pub first_fault : Option CollectFault → ℕ → ℕ
first_fault refused n = if is_quiet_fault refused then count_after n else n

-- the count of failed calls after this trail, with one more for each event for which `counts` holds
abbrev pub faults_after : (Event → Bool) → List Event → ℕ → ℕ
faults_after counts [] n = n
faults_after counts (e ∷ trail) n = faults_after counts trail (if counts e then count_after n else n)

-- The server's count of failed calls is at least what the Disk replies of the trail come to. If the server began on a
-- sound volume, the stops count too.
pub record CountsFaults {A : Type 0} (faults : A → ℕ) (stands : A → State → Type 0) (t : Terms A) (first : ℕ → ℕ)
    (server : A) (trail : List Event) : Type 0 where
  pub told : (begun : A) → t.began ≡ Some begun → faults_after tells_disk trail (first (faults begun)) ≤ faults server
  pub stops : (begun : A) (graph : Graph) → t.began ≡ Some begun → stands begun (opening graph)
      → faults_after tells_fault trail (first (faults begun)) ≤ faults server

-- A turn made an event, or none. The count of failed calls didn't fall. It rose if the event has a Disk reply, and if
-- it reports a stop of a server that began on a sound volume.
pub record Raises {A : Type 0} (faults : A → ℕ) (stands : A → State → Type 0) (t : Terms A)
    (old new : ServerLog A) : Type 0 where
  pub made : Option Event
  pub recorded : new.events ≡ old.events ++ recorded made
  pub later : faults old.server ≤ faults new.server
  pub disk : (e : Event) → made ≡ Some e → tells_disk e ≡ true → Rose (faults old.server) (faults new.server)
  pub stops : (e : Event) → made ≡ Some e → tells_stop e ≡ true → (begun : A) (graph : Graph) → t.began ≡ Some begun
      → stands begun (opening graph)
      → Rose (faults old.server) (faults new.server)

-- What was known of crashes as the server began is known of the trail, with the moments at which it was recorded.
abbrev pub Lasts : {A : Type 0} → (A → State → Type 0) → (A → ℕ) → (A → ℕ → Graph → List Event → List ℕ → Type 0)
    → Terms A → A → List Event → List ℕ → Type 0
Lasts {A} stands clock lasts t server trail moments = (begun : A) (graph : Graph) → t.began ≡ Some begun
    → stands begun (opening graph)
    → lasts begun t.seed graph [] (clock begun ∷ []) → lasts server t.seed graph trail (clock begun ∷ moments)

-- a session was answered, and its port wrote the reply
pub record Answered {A : Type 0} (old new : ServerLog A) (who : ℕ) (request : Request) (name : Option (List ℕ))
    (p q : PortReading) : Type 0 where
  pub reply : Reply
  pub answered : WritesReply p q name reply
  pub events : new.events ≡ old.events ++ events.Ask who request reply ∷ []
  pub room : new.room + 1 ≡ old.room

-- ---- a step of the collector

-- the moment with which an event was recorded, if one was
abbrev pub stamps : Option Event → ℕ → List ℕ
stamps None moment = []
stamps (Some e) moment = moment ∷ []

abbrev pub is_recorded : CollectorTurn → Bool
is_recorded progresses.Tidied = false
is_recorded progresses.Idle = false
is_recorded progresses.Quiet = false
is_recorded progresses.Recorded = true
is_recorded progresses.Finished = true
is_recorded (progresses.Refused fault) = true

-- a step was made, an event or not
abbrev pub is_progress_made : CollectorTurn → Bool
is_progress_made progresses.Tidied = false
is_progress_made progresses.Idle = false
is_progress_made progresses.Quiet = true
is_progress_made progresses.Recorded = true
is_progress_made progresses.Finished = true
is_progress_made (progresses.Refused fault) = false

-- a step was made or found idle, so that no commit was unfinished
abbrev pub is_step : CollectorTurn → Bool
is_step progresses.Tidied = false
is_step (progresses.Refused fault) = false
is_step progress = true

-- the refusal of the step, if it is one
abbrev pub refusal_in : CollectorTurn → Option CollectFault
refusal_in (progresses.Refused fault) = Some fault
refusal_in progress = None

-- A turn of the collector made an event of no session, recorded with the disk's moment, or none. It made none unless
-- the progress says that one was recorded.
pub record LogSteps {A : Type 0} (clock : A → ℕ) (old new : ServerLog A) (progress : CollectorTurn) : Type 0 where
  pub event : Option Event
  pub events : new.events ≡ old.events ++ recorded event
  pub nobody : (e : Event) → event ≡ Some e → (k : ℕ) → is_of_session k e ≡ false
  pub stamped : new.moments ≡ old.moments ++ stamps event (clock new.server)
  pub room : new.room + length (recorded event) ≡ old.room
  pub none : is_recorded progress ≡ false → event ≡ None
  -- if no step was made, the event is a stop
  pub stop : is_step progress ≡ false → (e : Event) → event ≡ Some e → is_no_step e ≡ true

-- whether a collection is finished by a step, by its event
abbrev pub finishes : Option Event → Bool
finishes None = false
finishes (Some e) = is_finish e

-- and by what is told of it
abbrev pub is_finished : CollectorTurn → Bool
is_finished progresses.Finished = true
is_finished progress = false

-- A turn at no refusal. Where the trail's collections were counted they still are. No more have begun than were called
-- for, if no more had. One more is finished where that is told.
pub record CountsTurn (c d : Tally) (old new : List Event) (progress : CollectorTurn) : Type 0 where
  pub tallied : IsTallied c old → IsTallied d new
  pub begun : begun_so_far c ≤ c.called → begun_so_far d ≤ c.called
  pub finished : d.finished ≡ c.finished + (if is_finished progress then 1 else 0)
