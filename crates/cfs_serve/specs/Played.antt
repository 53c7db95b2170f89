-- A service: what it comes to, by what it begins on, its sources, its sinks, the report and the trail.
use Rattle.std.specs.Prelude.{◌≡◌, ℕ, ◌+◌, ◌-◌, ◌*◌, ◌<◌, ◌≤◌, ◌⊎◌, Bool, true, false, List, [], length, map, filter}
use Rattle.std.specs.Prelude.{Option, Some, None, if◌then◌else◌}
use Rattle.std.specs.List.{list_any, list_all}
use Rattle.cfs_base.specs.Outside.{Intake, Supply}
use Rattle.cfs_base.specs.declared.identifier.Puid.{Puid}
use Rattle.ufs_model.specs.declared.asked.Event.{Event}
use Rattle.ufs_model.specs.Graph.{Graph, IsGraph}
use Rattle.ufs_model.specs.State.{State, opening}
use Rattle.ufs_model.specs.Run.{replay}
use Rattle.ufs_model.specs.Script.{request_lines}
use Rattle.vol_image.specs.Sound.{graph_blocks}
use Rattle.cfs_core.specs.declared.collecting.CollectFault.TheVariants as faults
use Rattle.cfs_core.specs.declared.kernel.Status.{Status}
use Rattle.cfs_core.specs.StandsFor.{sweeps_now}
use Rattle.cfs_serve.specs.Calls.{AreExact}
use Rattle.cfs_ports.specs.Port.{PortReading}
use Rattle.cfs_serve.specs.Charter.{Client}
use Rattle.cfs_serve.specs.Ending.{EndsService, IsWanting, cause_of, damage_in, moment_in, not_begun}
use Rattle.cfs_serve.specs.Events.{begins_in, finishes_in, is_calm, is_reply}
use Rattle.cfs_serve.specs.Ground.{Ground}
use Rattle.cfs_serve.specs.Machine.{AreOver}
use Rattle.cfs_serve.specs.Report.{untold}
use Rattle.cfs_serve.specs.Scripts.{HaveScripts, IsSourceCause}
use Rattle.cfs_serve.specs.declared.report.Counts.{Counts}
use Rattle.cfs_serve.specs.declared.report.Cause.{Cause}
use Rattle.cfs_serve.specs.declared.report.Cause.TheVariants as causes
use Rattle.cfs_serve.specs.declared.ending.Ending.{Ending}
use Rattle.cfs_serve.specs.declared.report.Report.{Report}

-- ---- what is counted and reported

-- the counts of a service, by its sessions, its trail and its last graph
abbrev pub counts_of : (sessions : ℕ) → List Event → Graph → (free : ℕ) → Counts
counts_of sessions trail graph free = record {
  sessions = sessions;
  replies = length (filter is_reply trail);
  collections = finishes_in trail;
  objects = length graph.objects;
  free = free;
}

-- the sessions, their replies and the finished collections are counted
abbrev pub CountsSessions : (sessions : ℕ) → List Event → Counts → Type 0
CountsSessions sessions trail counts =
    (counts.sessions ≡ sessions) × (counts.replies ≡ length (filter is_reply trail))
    × (counts.collections ≡ finishes_in trail)

-- On any disk the counts of objects and of Free blocks are those of the status that the core gave last. It also has the
-- stop and, if the core runs, the collections of the trail.
pub record TellsLast (collections : ℕ) (ending : Ending) (trail : List Event) (counts : Counts) : Type 0 where
  pub status : Status
  pub is : ending.last ≡ Some status
  pub objects : counts.objects ≡ status.objects
  pub free : counts.free ≡ status.free
  pub stop : (status.stopped ≡ moment_in ending.stop) × (status.damage ≡ damage_in ending.stop)
  pub called : status.called ≡ collections
  pub finished : ending.stop ≡ None → status.finished ≡ finishes_in trail
  pub running : ending.stop ≡ None → begins_in trail ≡ finishes_in trail + (if status.running then 1 else 0)

-- how many blocks are Free: all except the map of each cylinder, the label, and the blocks of the objects
abbrev pub free_once_tidy : (cylinders : ℕ) → Graph → ℕ
free_once_tidy cylinders graph = 63 * cylinders - 1 - graph_blocks graph

-- On a sound volume no block is damaged. Of a failed disk the moment at which the server stopped is reported, if it
-- did. With any other cause it didn't stop.
abbrev pub IsStopTold : Cause → (stopped : Option ℕ) → Type 0
IsStopTold (causes.Disk moment) stopped = moment ≡ stopped
IsStopTold (causes.Volume fault) stopped = ⊥
IsStopTold cause stopped = stopped ≡ None

-- ---- sessions that were served

-- From this graph the trail is a legal run, and each reply is exact. If no call of the disk failed, none is behind an
-- event.
pub record IsRunFrom (cylinders seed collections : ℕ) (graph : Graph) (rose : Type 0) (sessions : ℕ) (counts : Counts)
    (cause : Cause) (ending : Ending) (trail : List Event) : Type 0 where
  pub last : State
  pub legal : replay seed graph trail ≡ Some last
  pub exact : 0 < cylinders → AreExact cylinders seed 0 (opening graph) trail
  pub calm : ¬ rose → list_all is_calm trail ≡ true
  pub stop : IsStopTold cause last.stopped
  pub counted : counts ≡ counts_of sessions trail last.graph counts.free
  -- if the collector wasn't refused, nothing is unfinished
  pub free : ending.refused ≡ None → last.stopped ≡ None → sweeps_now last.collection ≡ false
      → counts.free ≡ free_once_tidy cylinders last.graph
  -- once as many collections are finished as were called for, nothing sweeps
  pub rests : last.stopped ≡ None → finishes_in trail ≡ collections → sweeps_now last.collection ≡ false
  pub whole : IsGraph graph

-- the sink of one of them failed
abbrev pub has_broken : List PortReading → Bool
has_broken ports = list_any (λ p. p.failed) ports

-- The sessions of these clients were served, and left their ports so.
pub record IsPlayed (ground : Ground) (seed collections : ℕ) (rose : Type 0) (clients : List Client)
    (ports : List PortReading)
    (counts : Counts) (cause : Cause) (ending : Ending) (trail : List Event) : Type 0 where
  -- the root index is that of each graph that the volume may read as
  pub root : Puid
  pub rooted : (graph : Graph) → ground.reads graph → graph.root ≡ root
  pub run : (graph : Graph) → ground.reads graph → IsRunFrom ground.cylinders seed collections graph rose
      (length clients) counts cause ending trail
  -- all events of sessions are theirs
  pub over : AreOver root collections clients trail ports
  pub counted : CountsSessions (length clients) trail counts
  pub last : TellsLast collections ending trail counts
  pub ends : EndsService rose collections ending trail
  -- no more collections began than were called for
  pub few : begins_in trail ≤ collections
  -- if the collector wasn't refused, as many are finished
  pub collected : ending.refused ≡ None → finishes_in trail ≡ collections
  -- it wanted memory only to begin one
  pub wanting : ending.refused ≡ Some faults.Memory → IsWanting collections trail
  -- no block of a sound volume is found damaged
  pub undamaged : (graph : Graph) → ground.reads graph → damage_in ending.stop ≡ None
  pub spoiled : cause ≡ cause_of ending trail (has_broken ports)

-- The sessions of these scripts and sinks have these clients, and their sinks are so as they have left.
pub record AreClients (scripts : List (List ℕ)) (sinks after : List Intake) (clients : List Client)
    (ports : List PortReading) : Type 0 where
  pub lines : map (λ s. s.lines) clients ≡ map request_lines scripts
  pub begun : map (λ s. s.sink) clients ≡ sinks
  pub left : map (λ p. p.sink) ports ≡ after

-- nothing was served: no event, and no sink took a byte
pub record ServesNothing (sinks after : List Intake) (report : Report) (ending : Ending) (trail : List Event)
    (cause : Cause)
    : Type 0 where
  pub no_event : trail ≡ []
  pub no_end : ending ≡ not_begun
  pub untouched : after ≡ sinks
  pub told : report ≡ untold cause

-- ---- from the sources on

-- there is no graph that the volume may read as
abbrev pub HasNone : Ground → Type 0
HasNone ground = (graph : Graph) → ¬ ground.reads graph

-- why nothing was served
abbrev pub IsUnservedCause : Ground → (rose : Type 0) → (sources after : List Supply) → Cause → Type 0
IsUnservedCause ground rose sources after (causes.Volume fault) =
    HasNone ground × ((scripts : List (List ℕ)) × HaveScripts sources scripts) × ground.faulty fault
IsUnservedCause ground rose sources after (causes.Disk moment) = (moment ≡ None) × rose
    × ((scripts : List (List ℕ)) × HaveScripts sources scripts)
IsUnservedCause ground rose sources after cause = IsSourceCause sources after cause

-- the sources were read and their scripts served, within the limits
pub record ServesSources (ground : Ground) (seed collections : ℕ) (rose : Type 0) (sources : List Supply)
    (sinks after : List Intake) (report : Report) (ending : Ending) (trail : List Event) : Type 0 where
  pub scripts : List (List ℕ)
  pub have : HaveScripts sources scripts
  pub sound : ¬ ground.unsound
  pub counts : Counts
  pub cause : Cause
  pub told : report ≡ record { counts = Some counts; faults = []; cause = cause }
  pub clients : List Client
  pub ports : List PortReading
  pub matched : AreClients scripts sinks after clients ports
  pub played : IsPlayed ground seed collections rose clients ports counts cause ending trail

-- nothing was served, for this cause
pub record ServesNone (ground : Ground) (rose : Type 0) (sources sources_after : List Supply)
    (sinks after : List Intake)
    (report : Report) (ending : Ending) (trail : List Event) : Type 0 where
  pub cause : Cause
  pub is : IsUnservedCause ground rose sources sources_after cause
  pub nothing : ServesNothing sinks after report ending trail cause

abbrev pub IsRunOf : Ground → (seed collections : ℕ) → (rose : Type 0) → (sources sources_after : List Supply)
    → (sinks after : List Intake) → Report → Ending → List Event → Type 0
IsRunOf ground seed collections rose sources sources_after sinks after report ending trail =
    ServesSources ground seed collections rose sources sinks after report ending trail
    ⊎ ServesNone ground rose sources sources_after sinks after report ending trail
