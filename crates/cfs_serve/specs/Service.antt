-- A service: what it begins with, and what it comes to, whatever server it is of.
use Rattle.std.specs.Prelude.{◌≡◌, ℕ, ◌+◌, ◌*◌, ◌<◌, ◌≤◌, false, List, [], ◌∷◌, map, length, Some, None}
use Rattle.std.specs.List.{list_any, sum_by}
use Rattle.cfs_base.specs.Outside.{Rose}
use Rattle.cfs_core.specs.declared.collecting.CollectFault.TheVariants as faulted
use Rattle.cfs_ports.specs.Port.{PortReading}
use Rattle.cfs_trail.specs.Trail.{Recorded}
use Rattle.ufs_model.specs.Graph.{Graph}
use Rattle.ufs_model.specs.State.{opening}
use Rattle.cfs_serve.specs.Calls.{IsTallied}
use Rattle.cfs_serve.specs.Charter.{Terms}
use Rattle.cfs_serve.specs.Ending.{EndsService, IsStopTimed, IsWanting, KnowsStop}
use Rattle.cfs_serve.specs.Events.{begins_in, finishes_in, tells_disk, tells_fault, wants_memory}
use Rattle.cfs_serve.specs.Machine.{AreHeard, AreNew, AreOver, client_of, turns_left}
use Rattle.cfs_serve.specs.Logs.{CountsFaults, HasEnded, IsLogKept, IsRun, IsRunOn, IsTold, Lasts, MomentsRise}
use Rattle.cfs_serve.specs.Logs.{faults_after, first_fault}
use Rattle.cfs_serve.specs.declared.logged.Closed.{Closed}
use Rattle.cfs_serve.specs.declared.served.Served.{Served}
use Rattle.cfs_serve.specs.declared.server.Server.{Ghosts}

-- ---- as it begins

-- A service is ready to begin. Its server runs, and nothing was asked of it yet but these collections. The sessions of
-- its ports are new. The trail is empty, with room for all events. There are more turns than the collector may need.
pub record IsServiceReady {A : Type 0} (v : Ghosts A) (server : A) (trail : Recorded)
    (ports : List PortReading) (collections turns : ℕ) : Type 0 where
  pub no_event : trail.events ≡ []
  pub runs : v.has_stopped server ≡ false
  pub words : v.words server ≡ 0
  pub new : AreNew (v.root server) ports
  pub called : (v.tally server).called ≡ collections
  pub idle : ((v.tally server).finished ≡ 0) × ((v.tally server).running ≡ false)
  pub swept : (graph : Graph) → v.stands server (opening graph) → (v.tally server).lost graph ≡ 0
  pub steps : (v.tally server).steps + sum_by turns_left ports < turns
  pub small : turns < 4611686018427387904
  pub events : (v.tally server).events ≤ 3 * collections
  pub room : sum_by turns_left ports + 3 * collections + 1 ≤ trail.room
  pub few : sum_by turns_left ports + 3 * collections + 1 < 4294967295
  pub sessions : length ports ≤ 64
  pub most : collections ≤ 1000

-- what is known of such a server, by the charter of its service
pub record IsServiceBegun {A : Type 0} (v : Ghosts A) (t : Terms A) (server : A) : Type 0 where
  pub opens : IsRun v.stands v.has_stopped v.is_damaged v.tally t server []
  pub lasts : Lasts v.stands v.clock v.lasts t server [] []
  pub told : IsTold v.faults v.has_stopped v.is_damaged t server []
  pub kept : IsLogKept v.clock v.has_stopped v.tally t server [] []
  pub runs : v.has_stopped server ≡ false
  pub seed : v.seed server ≡ t.seed
  pub size : v.cylinders server ≡ t.cylinders
  pub words : v.words server ≡ 0
  pub called : (v.tally server).called ≡ t.collections

-- ---- as it has ended

-- If the collector wasn't refused, as many collections are finished as were called for, and no commit is unfinished. It
-- was refused for want of memory only as a collection would begin.
pub record HasCollected {A K : Type 0} (v : Ghosts A) (collections : ℕ) (s : Served A K) : Type 0 where
  pub all : s.ending.refused ≡ None → finishes_in s.trail.events ≡ collections
  pub settled : s.ending.refused ≡ None → v.unfinished s.server ≡ 0
  pub wanting : s.ending.refused ≡ Some faulted.Memory → IsWanting collections s.trail.events

-- what a logged server knows as it is closed
pub record IsClosed {A : Type 0} (v : Ghosts A) (t : Terms A) (c : Closed A) : Type 0 where
  pub run : IsRun v.stands v.has_stopped v.is_damaged v.tally t c.server c.trail.events
  pub lasts : Lasts v.stands v.clock v.lasts t c.server c.trail.events c.trail.moments
  pub told : IsTold v.faults v.has_stopped v.is_damaged t c.server c.trail.events
  pub kept : IsLogKept v.clock v.has_stopped v.tally t c.server c.trail.events c.trail.moments
  pub stops : KnowsStop v.clock v.stop c.server c.trail.events
  pub size : v.cylinders c.server ≡ t.cylinders
  pub starved : c.starved ≡ list_any wants_memory c.trail.events
  pub failed : c.failed ≡ list_any tells_disk c.trail.events

-- what a service comes to, by its charter
pub record IsEndOf {A K : Type 0} (v : Ghosts A) (t : Terms A) (s : Served A K) : Type 0 where
  pub run : IsRun v.stands v.has_stopped v.is_damaged v.tally t s.server s.trail.events
  pub lasts : Lasts v.stands v.clock v.lasts t s.server s.trail.events s.trail.moments
  pub ends : HasEnded v.faults t s.server s.ending s.trail.events
  pub kept : IsLogKept v.clock v.has_stopped v.tally t s.server s.trail.events s.trail.moments
  pub counted : CountsFaults v.faults v.stands t (first_fault s.ending.refused) s.server s.trail.events
  pub collected : HasCollected v t.collections s
  pub stop : s.ending.stop ≡ v.stop s.server
  pub timed : IsStopTimed (v.stop s.server) (v.clock s.server)
  pub size : v.cylinders s.server ≡ t.cylinders
  pub called : (v.tally s.server).called ≡ t.collections
  pub heard : AreHeard t s.trail.events s.ports.items
  pub starved : s.starved ≡ list_any wants_memory s.trail.events
  pub failed : s.failed ≡ list_any tells_disk s.trail.events

-- what it comes to, by the server that was handed in
pub record HasServed {A K : Type 0} (v : Ghosts A) (began : A) (ports : List PortReading)
    (collections : ℕ) (s : Served A K) : Type 0 where
  -- on each graph that the server stood for, a legal run, of which it stands for the last state
  pub run : (graph : Graph) → v.stands began (opening graph) → IsRunOn v.stands v.has_stopped v.is_damaged v.tally
      (v.seed began) (v.cylinders began) graph began s.server s.trail.events
  -- what was known of crashes as it began is known of the whole trail, from the moments of its events on
  pub lasts : (graph : Graph) → v.stands began (opening graph)
      → v.lasts began (v.seed began) graph [] (v.clock began ∷ [])
      → v.lasts s.server (v.seed began) graph s.trail.events (v.clock began ∷ s.trail.moments)
  -- the sessions have left
  pub over : AreOver (v.root began) collections (map client_of ports) s.trail.events s.ports.items
  -- how it ended, whatever disk it is
  pub later : v.faults began ≤ v.faults s.server
  pub ends : EndsService (Rose (v.faults began) (v.faults s.server)) collections s.ending s.trail.events
  pub stop : s.ending.stop ≡ v.stop s.server
  pub timed : IsStopTimed (v.stop s.server) (v.clock s.server)
  pub size : v.cylinders s.server ≡ v.cylinders began
  pub called : (v.tally s.server).called ≡ collections
  pub starved : s.starved ≡ list_any wants_memory s.trail.events
  pub failed : s.failed ≡ list_any tells_disk s.trail.events
  -- no more collections began than were called for, and a server that runs counts them
  pub few : begins_in s.trail.events ≤ collections
  pub tallied : v.has_stopped s.server ≡ false → IsTallied (v.tally s.server) s.trail.events
  pub collected : HasCollected v collections s
  -- no moment is below the one before it
  pub rise : MomentsRise (v.clock began) s.trail.moments (v.clock s.server)
  -- The disk's count of failed calls is at least what the Disk replies come to, with a step that was refused for a
  -- failed call without a doubt. On each graph that the server stood for, the stops count too.
  pub counted : faults_after tells_disk s.trail.events (first_fault s.ending.refused (v.faults began))
      ≤ v.faults s.server
  pub stops : (graph : Graph) → v.stands began (opening graph)
      → faults_after tells_fault s.trail.events (first_fault s.ending.refused (v.faults began)) ≤ v.faults s.server
