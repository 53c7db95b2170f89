-- What a server's calls make: one event each, or none; how exact a reply is; and what becomes of the collections.
use Rattle.std.specs.Prelude.{◌≡◌, ◌⊎◌, ℕ, ◌+◌, ◌-◌, ◌≤◌, ◌<◌, Bool, true, false, if◌then◌else◌, List, [], ◌∷◌, ◌++◌}
use Rattle.std.specs.Prelude.{Option, Some, None, option_to_list, Result, Ok, Err, length}
use Rattle.std.specs.Option.{option_map_or}
use Rattle.cfs_base.specs.Outside.{Rose}
use Rattle.cfs_base.specs.declared.disk.Disk.{Ghosts}
use Rattle.cfs_base.specs.declared.refusal.Need.{Need}
use Rattle.cfs_core.specs.Collect.{event_of}
use Rattle.cfs_core.specs.Kernel.{Kernel, collection_runs}
use Rattle.cfs_core.specs.Left.{events_ahead, steps_ahead}
use Rattle.cfs_core.specs.Room.{IsRoom, lost_blocks}
use Rattle.cfs_core.specs.StandsFor.{end_in, sweeps_now}
use Rattle.cfs_core.specs.declared.collecting.CollectFault.{CollectFault}
use Rattle.cfs_core.specs.declared.collecting.CollectFault.TheVariants as faults
use Rattle.cfs_core.specs.declared.collecting.Step.{Step}
use Rattle.cfs_core.specs.declared.collecting.Step.TheVariants as steps
use Rattle.ufs_model.specs.declared.asked.Event.{Event}
use Rattle.ufs_model.specs.declared.asked.Event.TheVariants as events
use Rattle.ufs_model.specs.declared.asked.Reply.{Reply}
use Rattle.ufs_model.specs.declared.asked.Reply.TheVariants as replies
use Rattle.ufs_model.specs.declared.asked.Request.{Request}
use Rattle.ufs_model.specs.Graph.{Graph}
use Rattle.ufs_model.specs.Limits.{reserve}
use Rattle.ufs_model.specs.Need.{need_of}
use Rattle.ufs_model.specs.Next.{is_direct_delete, next}
use Rattle.ufs_model.specs.Run.{replay}
use Rattle.ufs_model.specs.State.{State}
use Rattle.vol_image.specs.Sound.{graph_blocks}
use Rattle.cfs_serve.specs.Events.{begins_in, finishes_in, is_calm, tells_disk, tells_stop}

-- ---- an answer

abbrev pub tells_outcome : Reply → Bool
tells_outcome replies.Done = true
tells_outcome (replies.Id id) = true
tells_outcome (replies.Grant t) = true
tells_outcome (replies.Number n) = true
tells_outcome (replies.Content bytes) = true
tells_outcome reply = false

-- The Free blocks of this state are its room. While a collection sweeps they may be fewer, by at most as many as the
-- objects had that are gone.
pub record FitsRoom (cylinders lost : ℕ) (s : State) (free : ℕ) : Type 0 where
  pub room : ℕ
  pub is_room : IsRoom cylinders s room
  pub most : free ≤ room
  pub least : room ≤ free + lost
  pub all : sweeps_now s.collection ≡ false → free ≡ room

-- A Full names what is Free. A request that was done, other than a delete that goes through no grant, left four blocks
-- of the room beside its need.
pub record IsExact (cylinders lost : ℕ) (s : State) (who : ℕ) (request : Request) (reply : Reply) : Type 0 where
  pub full : (need : Need) → reply ≡ replies.Full need → FitsRoom cylinders lost s need.free
  pub done : tells_outcome reply ≡ true → is_direct_delete request ≡ false → (free : ℕ) → IsRoom cylinders s free
      → need_of s who request + reserve ≤ free

abbrev pub IsExactEvent : (cylinders lost : ℕ) → State → Event → Type 0
IsExactEvent cylinders lost s (events.Ask who request reply) = IsExact cylinders lost s who request reply
IsExactEvent cylinders lost s event = Unit {0}

-- the blocks of the objects that vanished last, after one more event
abbrev pub lost_by : Event → State → State → ℕ → ℕ
lost_by (events.Vanish ids) s t lost = graph_blocks s.graph - graph_blocks t.graph
lost_by e s t lost = lost

-- the same after a run from this state
abbrev pub lost_in : (seed lost : ℕ) → State → List Event → ℕ
lost_in seed lost s [] = lost
lost_in seed lost s (e ∷ trail) = option_map_or (λ t. lost_in seed (lost_by e s t lost) t trail) (next seed s e) 0

-- the answers of a run from this state are exact
abbrev pub AreExact : (cylinders seed lost : ℕ) → State → List Event → Type 0
AreExact cylinders seed lost s [] = Unit {0}
AreExact cylinders seed lost s (e ∷ trail) =
    IsExactEvent cylinders lost s e × ((t : State) → next seed s e ≡ Some t
    → AreExact cylinders seed (lost_by e s t lost) t trail)

-- ---- one event

-- the event may come in the state, and the server stands for the state after it
pub record MakesServed (stands : State → Type 0) (seed : ℕ) (s : State) (e : Event) : Type 0 where
  pub after : State
  pub step : next seed s e ≡ Some after
  pub standing : stands after

-- What is known of crashes, event by event, goes on by this one, which is recorded as the call ends.
abbrev pub CrashesGoOn : {A : Type 0} → (A → State → Type 0) → (A → ℕ) → (A → ℕ → Graph → List Event → List ℕ → Type 0)
    → (seed : ℕ) → A → A → Event → Type 0
CrashesGoOn stands clock lasts seed old new e = (graph : Graph) (trail : List Event) (marks : List ℕ) (s : State)
    → replay seed graph trail ≡ Some s → stands old s
    → lasts old seed graph trail marks → lasts new seed graph (trail ++ e ∷ []) (marks ++ clock new ∷ [])

-- What a call reports of the disk, on any disk. If it reports a failed call, a call failed. If the server stopped, a
-- call failed too, unless a block was damaged. A server that runs reports no other trouble, and one that stopped stays
-- so.
pub record TellsSo {A : Type 0} (faults : A → ℕ) (has_stopped is_damaged : A → Bool) (old new : A)
    (fails calms : Bool) : Type 0 where
  pub later : faults old ≤ faults new
  pub told : fails ≡ true → Rose (faults old) (faults new)
  pub stays : has_stopped old ≡ true → has_stopped new ≡ true
  pub calm : has_stopped new ≡ false → fails ≡ false → calms ≡ true
  pub halts : has_stopped new ≡ true → is_damaged new ≡ false
      → ((has_stopped old ≡ true) × (is_damaged old ≡ false)) ⊎ Rose (faults old) (faults new)

-- what an event reports of it
abbrev pub TellsEvent : {A : Type 0} → (A → ℕ) → (has_stopped is_damaged : A → Bool) → A → A → Event → Type 0
TellsEvent faults has_stopped is_damaged old new e =
    TellsSo faults has_stopped is_damaged old new (tells_disk e) (is_calm e)

-- ---- one step of the collector

-- the event of a step, if it is one: a step at which the server stopped is one too
abbrev pub event_by : Result Step CollectFault → Option Event
event_by (Ok step) = event_of step
event_by (Err faults.Memory) = None
event_by (Err (faults.Disk None)) = None
event_by (Err (faults.Disk (Some moment))) = Some (events.Halted moment)
event_by (Err (faults.Damaged damage moment)) = Some (events.Halted moment)
event_by (Err (faults.Stopped moment)) = None

-- the server stopped at this event
abbrev pub tells_stop_at : Option Event → Bool
tells_stop_at None = false
tells_stop_at (Some e) = tells_stop e

-- a call of the disk failed in the step
abbrev pub fails : Result Step CollectFault → Bool
fails (Ok step) = false
fails (Err faults.Memory) = false
fails (Err (faults.Disk doubt)) = true
fails (Err (faults.Damaged damage moment)) = false
fails (Err (faults.Stopped moment)) = false

-- A turn of the collector's worker, as a step. A part of an unfinished commit is no event, like a step that takes a
-- rescue.
abbrev pub as_step : Result (Option Step) CollectFault → Result Step CollectFault
as_step (Ok None) = Ok steps.Took
as_step (Ok (Some step)) = Ok step
as_step (Err fault) = Err fault

abbrev pub is_calm_step : Option Event → Bool
is_calm_step None = true
is_calm_step (Some e) = is_calm e

-- if a step reports a failed call, a call failed; its event reports no other trouble of a server that runs
abbrev pub TellsStep : {A : Type 0} → (A → ℕ) → (has_stopped is_damaged : A → Bool) → A → A
    → Result Step CollectFault → Type 0
TellsStep faults has_stopped is_damaged old new result =
    TellsSo faults has_stopped is_damaged old new false (is_calm_step (event_by result))
    × (fails result ≡ true → Rose (faults old) (faults new))

-- the refusal of a step, if it is one
abbrev pub refusal_by : Result Step CollectFault → Option CollectFault
refusal_by (Ok step) = None
refusal_by (Err fault) = Some fault

-- the event may come; if there is none, the server still stands for the state
abbrev pub MayMake : (State → Type 0) → (seed : ℕ) → State → Option Event → Type 0
MayMake stands seed s None = stands s
MayMake stands seed s (Some e) = MakesServed stands seed s e

-- what is known of crashes goes on, with an event or without one
abbrev pub MayGoOn : {A : Type 0} → (A → State → Type 0) → (A → ℕ) → (A → ℕ → Graph → List Event → List ℕ → Type 0)
    → (seed : ℕ) → A → A → Option Event → Type 0
MayGoOn stands clock lasts seed old new None = (graph : Graph) (trail : List Event) (marks : List ℕ) (s : State)
    → replay seed graph trail ≡ Some s → stands old s
    → lasts old seed graph trail marks → lasts new seed graph trail marks
MayGoOn stands clock lasts seed old new (Some e) = CrashesGoOn stands clock lasts seed old new e

-- ---- collections

-- How many collections were called for and how many of them are finished, whether one runs, how many steps and events
-- they have left, and how many blocks objects still have that are gone from a graph.
pub record Tally : Type 0 where
  pub called : ℕ
  pub finished : ℕ
  pub running : Bool
  pub steps : ℕ
  pub events : ℕ
  pub lost : Graph → ℕ

-- If nothing is left to do, a server that runs has finished as many collections as were called for. It wants memory
-- only to begin a collection: none runs, and more were called for.
abbrev pub EndsCollecting : {A : Type 0} → (has_stopped : A → Bool) → (tally : A → Tally) → A → A
    → Result Step CollectFault
    → Type 0
EndsCollecting has_stopped tally old new (Ok steps.Idle) =
    (has_stopped new ≡ false) × ((tally new).finished ≡ (tally new).called)
EndsCollecting has_stopped tally old new (Err faults.Memory) =
    (has_stopped old ≡ false) × ((tally old).running ≡ false) × ((tally old).finished < (tally old).called)
EndsCollecting has_stopped tally old new result = Unit {0}

-- the tally of a core; its blocks are those of the image to come
abbrev pub tally_of : {D : Type 0} → Ghosts D → Kernel D → Tally
tally_of g k = record {
  called = k.collections.called;
  finished = k.collections.finished;
  running = collection_runs k.collections.collector;
  steps = steps_ahead (g.blocks k.disk) k.collections;
  events = events_ahead k.collections;
  lost = λ graph. lost_blocks (end_in g k) graph;
}

-- how many began
abbrev pub begun_so_far : Tally → ℕ
begun_so_far c = c.finished + (if c.running then 1 else 0)

abbrev pub AsBefore : Tally → Tally → Type 0
AsBefore c d = (d.finished ≡ c.finished) × (d.running ≡ c.running)

-- One more collection was called for. This is no event, and the server stands for what it stood for.
pub record CallsOne {A : Type 0} (stands : A → State → Type 0) (tally : A → Tally) (old new : A) : Type 0 where
  pub stays : (s : State) → stands old s → stands new s
  pub called : (tally new).called ≡ (tally old).called + 1
  pub counts : AsBefore (tally old) (tally new)
  pub events : (tally new).events ≤ (tally old).events + 3
  pub lost : (graph : Graph) → (tally new).lost graph ≡ (tally old).lost graph

-- What an event does to the counts: a collection begins only if none runs and more were called for. A step at which
-- the server stops says nothing of them.
abbrev pub Counts : Event → Tally → Tally → Type 0
Counts events.Began c d = (c.finished < c.called) × (c.running ≡ false) × (d.finished ≡ c.finished) × (d.running ≡ true)
Counts events.Finished c d = (c.running ≡ true) × (d.finished ≡ c.finished + 1) × (d.running ≡ false)
Counts (events.Halted moment) c d = Unit {0}
Counts e c d = AsBefore c d

abbrev pub MayCount : Option Event → Tally → Tally → Type 0
MayCount None c d = AsBefore c d
MayCount (Some e) c d = Counts e c d

-- What a call of a session does, on any disk: it moves no collection on, adds one step at most, for a rescue, and the
-- clock doesn't fall.
pub record SessionPasses {A : Type 0} (clock : A → ℕ) (tally : A → Tally) (old new : A) : Type 0 where
  pub later : clock old ≤ clock new
  pub counts : AsBefore (tally old) (tally new)
  pub steps : (tally new).steps ≤ (tally old).steps + 1
  pub events : (tally new).events ≤ (tally old).events

-- a step that was made leaves fewer steps
abbrev pub SpendsStep : Tally → Tally → Result Step CollectFault → Type 0
SpendsStep c d (Ok steps.Idle) = Unit {0}
SpendsStep c d (Ok step) = (d.steps < c.steps) × (d.events + length (option_to_list (event_of step)) ≤ c.events)
SpendsStep c d (Err fault) = Unit {0}

-- fewer steps are left, and one event less if `told` is set
abbrev pub SpendsOne : Tally → Tally → (told : Bool) → Type 0
SpendsOne c d told = (d.steps < c.steps) × (d.events + (if told then 1 else 0) ≤ c.events)

-- A part of a commit leaves fewer parts, and the collections as they are. A step is made only if no part is left, and
-- leaves none.
abbrev pub SpendsTurn : {A : Type 0} → (unfinished : A → ℕ) → (tally : A → Tally) → A → A
    → Result (Option Step) CollectFault → Type 0
SpendsTurn unfinished tally old new (Ok None) = (unfinished new < unfinished old)
    × ((tally new).steps ≡ (tally old).steps) × ((tally new).events ≡ (tally old).events)
SpendsTurn unfinished tally old new (Ok (Some step)) =
    SpendsStep (tally old) (tally new) (Ok step) × (unfinished old ≡ 0) × (unfinished new ≡ 0)
SpendsTurn unfinished tally old new (Err fault) = Unit {0}

-- What a step of the collector does, on any disk.
pub record PassesStep {A : Type 0} (clock : A → ℕ) (has_stopped : A → Bool) (tally : A → Tally) (old new : A)
    (result : Result Step CollectFault) : Type 0 where
  pub later : clock old ≤ clock new
  pub counts : MayCount (event_by result) (tally old) (tally new)
  pub stops : tells_stop_at (event_by result) ≡ true → has_stopped new ≡ true
  pub begins : event_by result ≡ Some events.Began → has_stopped new ≡ false

-- what an event does to the blocks of objects that are gone
pub record Tallies {A : Type 0} (has_stopped : A → Bool) (tally : A → Tally) (seed : ℕ) (old new : A) (s : State)
    (e : Event) : Type 0 where
  pub lost : has_stopped new ≡ false → (t : State) → next seed s e ≡ Some t
      → (tally new).lost t.graph ≤ lost_by e s t ((tally old).lost s.graph)

-- without an event there are no more of them than before
pub record ServerRests {A : Type 0} (has_stopped : A → Bool) (tally : A → Tally) (old new : A)
    (s : State) : Type 0 where
  pub lost : has_stopped new ≡ false → (tally new).lost s.graph ≤ (tally old).lost s.graph

abbrev pub MayTally : {A : Type 0} → (has_stopped : A → Bool) → (tally : A → Tally) → (seed : ℕ) → A → A → State
    → Option Event → Type 0
MayTally has_stopped tally seed old new s None = ServerRests has_stopped tally old new s
MayTally has_stopped tally seed old new s (Some e) = Tallies has_stopped tally seed old new s e

-- the trail has as many beginnings and ends of collections as are counted
abbrev pub IsTallied : Tally → List Event → Type 0
IsTallied c trail = (begins_in trail ≡ begun_so_far c) × (finishes_in trail ≡ c.finished)
