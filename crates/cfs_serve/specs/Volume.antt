-- A volume that was opened, and a session that is served on it.
use Rattle.std.specs.Prelude.{◌≡◌, ◌⊎◌, ℕ, ◌*◌, ◌≤◌, List, [], ◌∷◌, length, sum, Some, None}
use Rattle.cfs_base.specs.Outside.{Intake, Rose}
use Rattle.cfs_base.specs.declared.disk.Disk.{Ghosts}
use Rattle.cfs_core.specs.Kernel.{Kernel, collection_runs}
use Rattle.cfs_core.specs.StandsFor.{IsFront, StandsFor}
use Rattle.cfs_core.specs.declared.kernel.Status.{Status}
use Rattle.survival.specs.Trail.{RunSurvives}
use Rattle.ufs_model.specs.declared.asked.Event.{Event}
use Rattle.ufs_model.specs.Graph.{Graph}
use Rattle.ufs_model.specs.Run.{replay}
use Rattle.ufs_model.specs.State.{State, opening}
use Rattle.vol_image.specs.Sound.{IsSoundAs, rooted_part}
use Rattle.cfs_serve.specs.declared.report.Counts.{Counts}
use Rattle.cfs_serve.specs.declared.report.Cause.{Cause}
use Rattle.cfs_serve.specs.declared.report.Cause.TheVariants as causes
use Rattle.cfs_serve.specs.declared.ending.Ending.{Ending}
use Rattle.cfs_serve.specs.declared.report.Report.{Report}
use Rattle.cfs_serve.specs.Ending.{IsStopTimed, damage_in, moment_in, not_begun}
use Rattle.cfs_serve.specs.Ground.{Ground, opened}
use Rattle.cfs_ports.specs.Port.{PortReading}
use Rattle.cfs_serve.specs.Charter.{Client}
use Rattle.cfs_serve.specs.Events.{tells_disk, tells_fault}
use Rattle.cfs_serve.specs.Logs.{MomentsRise, faults_after, first_fault}
use Rattle.cfs_serve.specs.Report.{untold}
use Rattle.cfs_serve.specs.Played.{AreClients, IsPlayed, ServesNothing}

-- The core stands for a root index of empty slots, on `cylinders` cylinders. It runs, no word was drawn, and no
-- collection was called for.
pub record IsNewCore {D : Type 0} (g : Ghosts D) (cylinders seed : ℕ) (k : Kernel D) : Type 0 where
  pub stands : StandsFor g k (opening (opened seed))
  pub words : k.words ≡ record { seed = seed; drawn = 0 }
  pub some : 1 ≤ cylinders
  pub size : length k.space.free ≡ cylinders
  pub runs : k.stop ≡ None
  pub idle : k.collections ≡ record { collector = None; called = 0; finished = 0 }

-- A core of which nothing was asked yet: it runs, no word was drawn, and no collection was called for.
pub record IsCoreUncalled {D : Type 0} (k : Kernel D) : Type 0 where
  pub runs : k.stop ≡ None
  pub words : k.words.drawn ≡ 0
  pub idle : k.collections ≡ record { collector = None; called = 0; finished = 0 }

-- a core as it begins, by the graphs that it stands for
abbrev pub ground_at : {D : Type 0} → Ghosts D → Kernel D → Ground
ground_at g core = record {
  cylinders = length core.space.free;
  blocks = 64 * length core.space.free;
  reads = λ graph. StandsFor g core (opening graph);
  unsound = ⊥;
  faulty = λ fault. ⊥;
}

-- what a core reports of itself
pub record IsStatusOf {D : Type 0} (k : Kernel D) (status : Status) : Type 0 where
  pub objects : status.objects ≡ length k.directory.named
  pub free : status.free ≡ sum k.space.free
  pub stopped : status.stopped ≡ moment_in k.stop
  pub damage : status.damage ≡ damage_in k.stop
  pub running : status.running ≡ collection_runs k.collections.collector
  pub called : status.called ≡ k.collections.called
  pub finished : status.finished ≡ k.collections.finished

-- The core as it ended. What it reported last is what it has and counts, whether it stopped or not. From each graph on
-- which it began it came to the identifiers, the grants and the stop of the last state.
pub record EndsCore {D : Type 0} (seed : ℕ) (began : Graph → Type 0) (ending : Ending) (trail : List Event)
    (last : Kernel D) : Type 0 where
  pub told : (status : Status) → ending.last ≡ Some status → IsStatusOf last status
  pub stop : ending.stop ≡ last.stop
  pub front : (graph : Graph) → began graph → (s : State) → replay seed graph trail ≡ Some s → IsFront last s

-- The sessions of these clients were served by a core, which is over, and left their ports so; its disk is handed back.
pub record ServesSessions {D : Type 0} (g : Ghosts D) (core : Kernel D) (collections : ℕ) (clients : List Client)
    (ports : List PortReading) (report : Report) (ending : Ending) (trail : List Event) (moments : List ℕ)
    (disk : D) : Type 0 where
  pub counts : Counts
  pub cause : Cause
  pub told : report ≡ record { counts = Some counts; faults = []; cause = cause }
  pub played : IsPlayed (ground_at g core) core.words.seed collections (Rose (g.faults core.disk) (g.faults disk))
      clients ports counts cause ending trail
  pub last : Kernel D
  pub last_disk : last.disk ≡ disk
  pub ends : EndsCore core.words.seed (λ graph. StandsFor g core (opening graph)) ending trail last
  pub timed : IsStopTimed ending.stop (g.moment disk)
  pub later : g.faults core.disk ≤ g.faults disk
  pub rise : MomentsRise (g.moment core.disk) moments (g.moment disk)
  pub crashes : (graph : Graph) → StandsFor g core (opening graph) → RunSurvives g core.words.seed graph trail
      (g.moment core.disk ∷ moments) disk
  pub sound : cause ≡ causes.Nothing → (graph : Graph) → StandsFor g core (opening graph) → (last : State)
      → replay core.words.seed graph trail ≡ Some last
      → IsSoundAs (g.content disk) (rooted_part last.graph)
  -- the count of failed calls is at least what the trail and the collector's refusal come to
  pub faults : faults_after tells_disk trail (first_fault ending.refused (g.faults core.disk)) ≤ g.faults disk
  pub stops : (graph : Graph) → StandsFor g core (opening graph)
      → faults_after tells_fault trail (first_fault ending.refused (g.faults core.disk)) ≤ g.faults disk

-- memory was wanting before a session was served
pub record IsUnserved {D : Type 0} (core : Kernel D) (before after : List PortReading) (report : Report)
    (ending : Ending)
    (trail : List Event) (disk : D) : Type 0 where
  pub told : report ≡ untold causes.Memory
  pub no_event : trail ≡ []
  pub no_end : ending ≡ not_begun
  pub ports : after ≡ before
  pub disk_is : disk ≡ core.disk

-- the sessions of these scripts were served
pub record ServesCliented {D : Type 0} (g : Ghosts D) (core : Kernel D) (collections : ℕ) (scripts : List (List ℕ))
    (sinks after : List Intake) (report : Report) (ending : Ending) (trail : List Event) (moments : List ℕ)
    (disk : D) : Type 0 where
  pub clients : List Client
  pub ports : List PortReading
  pub matched : AreClients scripts sinks after clients ports
  pub serves : ServesSessions g core collections clients ports report ending trail moments disk

-- the scripts are served, or memory was wanting before
abbrev pub ServesScripts : {D : Type 0} → Ghosts D → Kernel D → (collections : ℕ) → List (List ℕ)
    → (sinks after : List Intake)
    → Report → Ending → List Event → List ℕ → D → Type 0
ServesScripts g core collections scripts sinks after report ending trail moments disk =
    ServesCliented g core collections scripts sinks after report ending trail moments disk
    ⊎ (ServesNothing sinks after report ending trail causes.Memory × (disk ≡ core.disk))
