-- A step of the collector: which step is due, what it is as an event, and how it ends.
use Rattle.std.specs.Prelude.{◌≡◌, ◌⊎◌, ◌↔◌, ℕ, ◌+◌, ◌-◌, ◌*◌, ◌/◌, ◌^◌, ◌<◌, ◌≤◌, Bool, true, false}
use Rattle.std.specs.Prelude.{List, [], length, Result, Ok, Err, IfErr, IfOk, Option, Some, None}
use Rattle.cfs_base.specs.Calls.{HasStopped, MakesAtMost, OnlyReads}
use Rattle.cfs_base.specs.Disk.{Image}
use Rattle.cfs_base.specs.Outside.{count_after}
use Rattle.cfs_base.specs.Refusals.{had_tried, refused_by}
use Rattle.cfs_base.specs.Run.{Leaves}
use Rattle.cfs_base.specs.declared.disk.Disk.{Ghosts}
use Rattle.cfs_base.specs.declared.identifier.Puid.{Puid}
use Rattle.cfs_base.specs.declared.kind.Kind.{Kind}
use Rattle.cfs_base.specs.declared.refusal.Refused.{Refused}
use Rattle.cfs_base.specs.declared.refusal.Refused.TheVariants as refusals
use Rattle.cfs_base.specs.declared.refusal.Trouble.{Trouble}
use Rattle.collector_steps.specs.Collecting as Keeps
use Rattle.collector_steps.specs.Collecting.{Collecting, volume_of, waiting_in}
use Rattle.collector_steps.specs.Left.{most_steps, steps_left}
use Rattle.collector_steps.specs.Swept.{next_phase}
use Rattle.collector_steps.specs.declared.phase.Phase.{Phase}
use Rattle.collector_steps.specs.declared.phase.Phase.TheVariants as phases
use Rattle.cyl_alloc.specs.Space.{Kept}
use Rattle.cyl_map.specs.Volume.{is_free_in}
use Rattle.marking.specs.Colours.{none_marked}
use Rattle.marking.specs.Pace.{unread}
use Rattle.puid_space.specs.Directory.{Listing, has_root_in}
use Rattle.puid_space.specs.Kinds.{kinds_of}
use Rattle.survival.specs.Call.{CallKeeps}
use Rattle.ufs_model.specs.declared.asked.Event.{Event}
use Rattle.ufs_model.specs.declared.asked.Event.TheVariants as events
use Rattle.ufs_model.specs.Graph.{Graph}
use Rattle.ufs_model.specs.Identifier.{is_among}
use Rattle.ufs_model.specs.Next.{next}
use Rattle.ufs_model.specs.Reach.{starts_now}
use Rattle.ufs_model.specs.State.{State}
use Rattle.ufs_model.specs.WellFormed.{IsState}
use Rattle.vol_image.specs.Frame.{IsHeldBy}
use Rattle.vol_image.specs.Part.{is_fixed}
use Rattle.vol_image.specs.Sound.{Holds}
use Rattle.cfs_core.specs.declared.collecting.Collections.{Collections}
use Rattle.cfs_core.specs.declared.collecting.CollectFault.{CollectFault}
use Rattle.cfs_core.specs.declared.collecting.CollectFault.TheVariants as faults
use Rattle.cfs_core.specs.declared.collecting.Step.{Step}
use Rattle.cfs_core.specs.declared.collecting.Step.TheVariants as steps
use Rattle.cfs_core.specs.declared.kernel.Stop.{Stop}
use Rattle.cfs_core.specs.Asked.{Happens, doubt_of}
use Rattle.cfs_core.specs.Calls.{IsCause}
use Rattle.cfs_core.specs.Damage.{IsDamageTold}
use Rattle.cfs_core.specs.Kernel.{AreCollections, Kernel, Handle, collection_runs}
use Rattle.cfs_core.specs.Left.{LeavesFewer}
use Rattle.cfs_core.specs.Rescues.{AreRescued}
use Rattle.cfs_core.specs.Room.{MayLoseBy, lost_blocks}
use Rattle.cfs_core.specs.StandsFor.{IsFront, CoreServes, StandsFor, end_in}
use Rattle.cfs_core.specs.Sweeping.{FreesStrays, IsCleanCylinder}

-- ---- which step is due: the first that fits

abbrev pub sweeps_blocks : Phase → Bool
sweeps_blocks phases.Idle = false
sweeps_blocks phases.Marking = false
sweeps_blocks (phases.Inner cylinder) = true
sweeps_blocks (phases.Roots cylinder) = true
sweeps_blocks phases.Swept = false

-- the step that is due in a collection that runs
abbrev pub IsNextStep : Collecting → Step → Type 0
IsNextStep k steps.Idle = ⊥
IsNextStep k steps.Began = ⊥
IsNextStep k steps.Took = (k.phase ≡ phases.Marking) × ¬ (waiting_in k ≡ [])
IsNextStep k steps.Scanned = (k.phase ≡ phases.Marking) × (waiting_in k ≡ []) × ¬ (k.marks.grey ≡ [])
IsNextStep k (steps.Condemned ids) = (k.phase ≡ phases.Marking) × (waiting_in k ≡ []) × (k.marks.grey ≡ [])
IsNextStep k steps.Swept = sweeps_blocks k.phase ≡ true
IsNextStep k steps.Finished = k.phase ≡ phases.Swept

abbrev pub IsNextOf : Option Collecting → Step → Type 0
IsNextOf None step = ⊥
IsNextOf (Some k) step = IsNextStep k step

abbrev pub IsDueStep : Collections → Step → Type 0
IsDueStep c steps.Idle = (collection_runs c.collector ≡ false) × (c.finished ≡ c.called)
IsDueStep c steps.Began = (collection_runs c.collector ≡ false) × (c.finished < c.called)
IsDueStep c step = IsNextOf c.collector step

-- ---- what a step is as an event

abbrev pub event_of : Step → Option Event
event_of steps.Idle = None
event_of steps.Began = Some events.Began
event_of steps.Took = None
event_of steps.Scanned = None
event_of (steps.Condemned ids) = Some (events.Vanish ids)
event_of steps.Swept = None
event_of steps.Finished = Some events.Finished

abbrev pub ComesBy : State → Option Event → State → Type 0
ComesBy s None t = t ≡ s
ComesBy s (Some e) t = (seed : ℕ) → next seed s e ≡ Some t

-- the refusal is reported as want of memory
abbrev pub is_starved : Refused → Bool
is_starved (refusals.Full need) = true
is_starved (refusals.Disk tried) = false
is_starved (refusals.Damaged damage) = false
is_starved refusals.Memory = true

-- the end of a sweep, as that of a step
abbrev pub told_as : Result (Unit {0}) Trouble → Result Step Refused
told_as (Ok u) = Ok steps.Swept
told_as (Err t) = Err (refused_by t)

-- A collection has begun, whatever the state, if these are its starts and its identifiers.
pub record HasBegunCollection (roots : List Puid) (named : List (Puid × Kind)) (l : Collecting) : Type 0 where
  pub phase : l.phase ≡ phases.Marking
  pub steps : l.steps ≡ 1
  pub added : l.added ≡ 0
  pub left : steps_left l < most_steps (volume_of l)
  -- the leaves of the objects and their drafts are no more than the blocks
  pub keeps : (seed : ℕ) (s t : State) (image : Image) → IsState s → named ≡ kinds_of s.graph
      → ((x : Puid) → is_among x roots ≡ is_among x (starts_now s))
      → next seed s events.Began ≡ Some t → unread t none_marked ≤ volume_of l → Keeps.Collects image t l

-- ---- a step of a core

-- how it leaves the state
pub record MovesTo {D : Type 0} (g : Ghosts D) (old new : Kernel D) (s : State) (e : Option Event) : Type 0 where
  pub after : State
  pub comes : ComesBy s e after
  pub serves : CoreServes g new after
  pub leaves : Leaves g old.disk new.disk (λ c. Holds c s.graph)
  pub lost : MayLoseBy e s.graph after.graph (lost_blocks (g.content old.disk) s.graph)
      (lost_blocks (g.content new.disk) after.graph)

-- how a step ends that wasn't made: all is as it was, unless a write had been tried
abbrev pub EndsUnmade : {D : Type 0} → Ghosts D → Kernel D → Kernel D → State → Refused → Type 0
EndsUnmade g old new s (refusals.Full need) = ⊥
EndsUnmade g old new s (refusals.Disk false) = MovesTo g old new s None
EndsUnmade g old new s (refusals.Disk true) = Leaves g old.disk new.disk (λ c. Holds c s.graph) × IsFront new s
EndsUnmade g old new s (refusals.Damaged damage) = ⊥
EndsUnmade g old new s refusals.Memory = MovesTo g old new s None

-- how many steps the collection that runs has made
abbrev pub steps_in : Option Collecting → ℕ
steps_in None = 0
steps_in (Some k) = k.steps

abbrev pub added_in : Option Collecting → ℕ
added_in None = 0
added_in (Some k) = k.added

abbrev pub phase_of : Option Collecting → Phase
phase_of None = phases.Idle
phase_of (Some k) = k.phase

-- a step that was made is counted, the first one as one
abbrev pub AreCounted : Collections → Collections → Step → Type 0
AreCounted c d steps.Idle = d ≡ c
AreCounted c d steps.Began = (steps_in d.collector ≡ 1) × (added_in d.collector ≡ 0) × (d.finished ≡ c.finished)
AreCounted c d steps.Finished = (steps_in d.collector ≡ count_after (steps_in c.collector))
    × (added_in d.collector ≡ added_in c.collector) × (d.finished ≡ c.finished + 1)
AreCounted c d step = (steps_in d.collector ≡ count_after (steps_in c.collector))
    × (added_in d.collector ≡ added_in c.collector) × (d.finished ≡ c.finished)

-- ---- a sweep

-- A step that swept did so in the cylinder that was next, and the one after it is next now.
abbrev pub SweepsNext : {D : Type 0} → Ghosts D → Kernel D → Kernel D → State → Step → Type 0
SweepsNext g old new s steps.Swept =
    FreesStrays s.graph (phase_of old.collections.collector) (g.content old.disk) (g.content new.disk)
    × (phase_of new.collections.collector
    ≡ next_phase (g.blocks old.disk / 64) (phase_of old.collections.collector))
    × (IsCleanCylinder s.graph (phase_of old.collections.collector) (g.content old.disk)
    → OnlyReads g 1 old.disk new.disk)
SweepsNext g old new s step = Unit {0}

-- ---- once a collection is over

-- Beside the maps and the label exactly the blocks of the objects aren't Free.
abbrev pub IsTidyVolume : Image → Graph → Type 0
IsTidyVolume image graph =
    (n : ℕ) → n < length image → (is_free_in image n ≡ false) ↔ ((is_fixed n ≡ true) ⊎ IsHeldBy image graph n)

-- It took at most two steps for each block, each rescue and each cylinder, and three more, as long as rescues were
-- counted.
abbrev pub IsBounded : ℕ → Collections → Type 0
IsBounded blocks c = added_in c.collector < 2 ^ 64 - 1
    → steps_in c.collector ≤ 2 * blocks + 2 * added_in c.collector + 2 * (blocks / 64) + 3

-- the same, and if nothing is open the volume is tidy
abbrev pub IsOver : {D : Type 0} → Ghosts D → Kernel D → Kernel D → State → Step → Type 0
IsOver g old new s steps.Finished =
    IsBounded (g.blocks new.disk) new.collections × (new.handles ≡ [] → IsTidyVolume (g.content new.disk) s.graph)
IsOver g old new s step = Unit {0}

-- ---- a refusal with nothing tried

-- all except the room is as it was
pub record IsUnchanged {D : Type 0} (g : Ghosts D) (old new : Kernel D) : Type 0 where
  pub reads : OnlyReads g 4 old.disk new.disk
  pub directory : new.directory ≡ old.directory
  pub space : new.space ≡ old.space
  pub collector : AreRescued old.collections.collector new.collections.collector [] []
  pub finished : new.collections.finished ≡ old.collections.finished

-- ---- a call that tries to make a step of a core, on any disk

-- the first step that is due was made
pub record IsStepMade {D : Type 0} (g : Ghosts D) (old new : Kernel D) (step : Step) : Type 0 where
  pub moves : (s : State) → CoreServes g old s → old.stop ≡ None → MovesTo g old new s (event_of step)
  pub due : IsDueStep old.collections step
  pub counted : AreCounted old.collections new.collections step
  pub sweeps : (s : State) → CoreServes g old s → SweepsNext g old new s step
  pub over : (s : State) → CoreServes g old s → IsOver g old new s step
  pub goes : AreCollections (g.blocks old.disk) old.collections
      → LeavesFewer (g.blocks old.disk) old.collections new.collections step (event_of step)

-- The collector is as it was, except for the room, and no more collections are finished.
pub record AreKept (c d : Collections) : Type 0 where
  pub collector : AreRescued c.collector d.collector [] []
  pub finished : d.finished ≡ c.finished

-- no step was made
pub record IsUnmade {D : Type 0} (g : Ghosts D) (old new : Kernel D) (e : Refused) : Type 0 where
  pub ends : (s : State) → CoreServes g old s → old.stop ≡ None → EndsUnmade g old new s e
  pub still : had_tried e ≡ false → IsUnchanged g old new
  pub kept : AreKept old.collections new.collections
  pub cause : IsCause g old new None e
  pub wants : is_starved e ≡ true → IsDueStep old.collections steps.Began

abbrev pub IsMadeOrNot : {D : Type 0} → Ghosts D → Kernel D → Kernel D → Result Step Refused → Type 0
IsMadeOrNot g old new (Ok step) = IsStepMade g old new step
IsMadeOrNot g old new (Err e) = IsUnmade g old new e

-- only the collector changes, and what it changes
abbrev pub moved_to : {D : Type 0} → Kernel D → D → Kept → Listing → Collections → Kernel D
moved_to k disk space directory c =
    record k {
      disk = disk;
      space = space;
      directory = directory;
      collections = record c { called = k.collections.called };
    }

pub record TriesStep {D : Type 0} (g : Ghosts D) (old new : Kernel D) (result : Result Step Refused) : Type 0 where
  pub ends : IsMadeOrNot g old new result
  pub calls : MakesAtMost g 4 1 old.disk new.disk
  pub left : new.space.left ≡ old.space.left
  pub same : new ≡ moved_to old new.disk new.space new.directory new.collections

-- the core with these parts
abbrev pub with_parts : {D : Type 0} → Kernel D → D → Kept → Listing → Collecting → Kernel D
with_parts k disk space directory l =
    record k {
      disk = disk;
      space = space;
      directory = directory;
      collections = record k.collections { collector = Some l };
    }

-- The same for these parts of any core with these handles, with a collection that runs before and after.
pub record StepsSo {D : Type 0} (g : Ghosts D) (old new : D) (before after : Kept) (directory left : Listing)
    (handles : List Handle) (k l : Collecting) (result : Result Step Refused) : Type 0 where
  pub tries : (core : Kernel D) → core.handles ≡ handles
      → TriesStep g (with_parts core old before directory k) (with_parts core new after left l) result
  pub size : g.blocks new ≡ g.blocks old
  pub runs : collection_runs (Some l) ≡ true
  pub volume : volume_of l ≡ volume_of k
  pub room : left.room ≡ directory.room
  pub some : has_root_in directory.named 0 ≡ false → has_root_in left.named 0 ≡ false
  pub cylinders : length after.free ≡ length before.free

-- ---- what is reported of a step

abbrev pub fault_for : Refused → ℕ → CollectFault
fault_for (refusals.Full need) moment = faults.Memory
fault_for (refusals.Disk tried) moment = faults.Disk (doubt_of tried moment)
fault_for (refusals.Damaged damage) moment = faults.Damaged damage moment
fault_for refusals.Memory moment = faults.Memory

-- how the core has stopped after such a fault
abbrev pub stop_by : CollectFault → Option Stop → Option Stop
stop_by faults.Memory before = before
stop_by (faults.Disk None) before = before
stop_by (faults.Disk (Some moment)) before = Some (record { moment = moment; damage = None })
stop_by (faults.Damaged damage moment) before = Some (record { moment = moment; damage = Some damage })
stop_by (faults.Stopped moment) before = before

-- No event: the core still stands for the state, and a crash leaves it. In the image to come no more blocks are left
-- behind than before.
pub record Rests {D : Type 0} (g : Ghosts D) (old new : Kernel D) (s : State) : Type 0 where
  pub stands : StandsFor g new s
  pub keeps : CallKeeps g s old.disk new.disk
  pub lost : lost_blocks (end_in g new) s.graph ≤ lost_blocks (end_in g old) s.graph

abbrev pub HappensOrRests : {D : Type 0} → Ghosts D → Kernel D → Kernel D → State → Option Event → Type 0
HappensOrRests g old new s None = Rests g old new s
HappensOrRests g old new s (Some e) = Happens g old new s e

-- A step is one event or none, and a step at which the core stops is reported as such.
abbrev pub IsCollectStep : {D : Type 0} → Ghosts D → Kernel D → Kernel D → State → Result Step CollectFault → Type 0
IsCollectStep g old new s (Ok step) = HappensOrRests g old new s (event_of step)
IsCollectStep g old new s (Err faults.Memory) = Rests g old new s
IsCollectStep g old new s (Err (faults.Disk None)) = Rests g old new s
IsCollectStep g old new s (Err (faults.Disk (Some moment))) = Happens g old new s (events.Halted moment)
IsCollectStep g old new s (Err (faults.Damaged damage moment)) = Happens g old new s (events.Halted moment)
IsCollectStep g old new s (Err (faults.Stopped moment)) = new ≡ old

-- A device call failed. With a doubt the moment is the one before the disk's present one. At a damage a block is
-- outside its table, and the moment is the disk's present one.
abbrev pub IsFaultCause : {D : Type 0} → Ghosts D → Kernel D → Kernel D → CollectFault → Type 0
IsFaultCause g old new faults.Memory = Unit {0}
IsFaultCause g old new (faults.Disk None) = HasStopped g false old.disk new.disk
IsFaultCause g old new (faults.Disk (Some moment)) =
    HasStopped g true old.disk new.disk × (moment ≡ g.moment new.disk - 1)
IsFaultCause g old new (faults.Damaged damage moment) =
    IsDamageTold g old new None damage × (moment ≡ g.moment new.disk)
IsFaultCause g old new (faults.Stopped moment) = Unit {0}

-- want of memory, and a device call that failed without a doubt, leave all as it was, and so does a core that had
-- stopped at that moment
abbrev pub LeavesAll : {D : Type 0} → Ghosts D → Kernel D → Kernel D → CollectFault → Type 0
LeavesAll g old new faults.Memory = IsUnchanged g old new
LeavesAll g old new (faults.Disk None) = IsUnchanged g old new
LeavesAll g old new (faults.Disk (Some moment)) = Unit {0}
LeavesAll g old new (faults.Damaged damage moment) = Unit {0}
LeavesAll g old new (faults.Stopped moment) =
    (new ≡ old) × ((stop : Stop) × (old.stop ≡ Some stop) × (stop.moment ≡ moment))

abbrev pub IsNoDamage : CollectFault → Type 0
IsNoDamage faults.Memory = Unit {0}
IsNoDamage (faults.Disk doubt) = Unit {0}
IsNoDamage (faults.Damaged damage moment) = ⊥
IsNoDamage (faults.Stopped moment) = ⊥

-- A step that was asked for while nothing is unfinished.
pub record CollectsStep {D : Type 0} (g : Ghosts D) (old new : Kernel D)
    (result : Result Step CollectFault) : Type 0 where
  pub event : (s : State) → StandsFor g old s → IsCollectStep g old new s result
  -- a core that had stopped makes no call of the disk
  pub stopped : (stop : Stop) → old.stop ≡ Some stop → (new ≡ old) × (result ≡ Err (faults.Stopped stop.moment))
  -- it was the first step that fits
  pub due : IfOk result (IsDueStep old.collections)
  pub counted : IfOk result (AreCounted old.collections new.collections)
  -- a step that swept freed exactly the strays of its pass in one cylinder, the next one, and changed no other block
  pub sweeps : IfOk result (λ step. (s : State) → StandsFor g old s → SweepsNext g old new s step)
  -- a whole collection takes at most this many steps, and leaves a tidy volume
  pub over : IfOk result (λ step. (s : State) → StandsFor g old s → IsOver g old new s step)
  pub still : IfErr result (LeavesAll g old new)
  -- a step that wasn't made moves no collection on, even after a doubt and at a damage
  pub kept : IfErr result (λ fault. AreKept old.collections new.collections)
  pub called : new.collections.called ≡ old.collections.called
  -- no damage is met on a disk that serves
  pub sound : old.stop ≡ None → (s : State) → StandsFor g old s → IfErr result IsNoDamage
  pub stops : IfErr result (λ fault. new.stop ≡ stop_by fault old.stop)
  pub goes_on : IfOk result (λ step. new.stop ≡ old.stop)
  pub cause : IfErr result (IsFaultCause g old new)
  -- memory is wanted only if a collection would begin: a collection that began comes to its end
  pub wants : result ≡ Err faults.Memory → IsDueStep old.collections steps.Began
  pub calls : MakesAtMost g 4 1 old.disk new.disk
  pub left : new.space.left ≡ old.space.left
  pub root : new.root ≡ old.root
  pub words : new.words ≡ old.words
  pub handles : new.handles ≡ old.handles
  -- on any disk less is left to do
  pub goes : IfOk result (λ step.
      LeavesFewer (g.blocks old.disk) old.collections new.collections step (event_of step))
