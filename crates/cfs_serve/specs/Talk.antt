-- A conversation: a session whose lines are answered as they come, and what it comes to.
use Rattle.std.specs.Prelude.{◌≡◌, ◌⊎◌, ℕ, zero, suc, ◌+◌, ◌*◌, ◌/◌, ◌<◌, ◌≤◌, Bool, true, false, List, [], ◌∷◌, ◌++◌}
use Rattle.std.specs.Prelude.{length, Option, Some, None}
use Rattle.std.specs.List.{list_all}
use Rattle.cfs_base.specs.Outside.{Intake, Rose, Supply}
use Rattle.cfs_base.specs.declared.disk.Disk.{Ghosts}
use Rattle.cfs_core.specs.Kernel.{Kernel}
use Rattle.cfs_ports.specs.Lines.{LinesReading, is_within_line, joined_lines}
use Rattle.cfs_ports.specs.Port.{IsNewPort, PortReading}
use Rattle.cfs_streams.specs.Reading.{Gave}
use Rattle.ufs_model.specs.declared.asked.Event.{Event}
use Rattle.ufs_model.specs.declared.asked.Event.TheVariants as events
use Rattle.cfs_trail.specs.Trail.{Recorded}
use Rattle.ufs_model.specs.Graph.{Graph}
use Rattle.ufs_model.specs.Limits.{most_line}
use Rattle.ufs_model.specs.Script.{request_lines}
use Rattle.ufs_model.specs.State.{opening}
use Rattle.cfs_serve.specs.Events.{begins_in}
use Rattle.cfs_serve.specs.Ground.{Ground}
use Rattle.cfs_serve.specs.Limits.{most_lines}
use Rattle.cfs_serve.specs.Machine.{client_of}
use Rattle.cfs_serve.specs.Played.{HasNone, IsPlayed, ServesNothing}
use Rattle.cfs_serve.specs.Service.{HasServed}
use Rattle.cfs_serve.specs.Volume.{ServesSessions}
use Rattle.cfs_serve.specs.declared.ending.Ending.{Ending}
use Rattle.cfs_serve.specs.declared.report.Cause.{Cause}
use Rattle.cfs_serve.specs.declared.report.Cause.TheVariants as causes
use Rattle.cfs_serve.specs.declared.report.Counts.{Counts}
use Rattle.cfs_serve.specs.declared.report.Report.{Report}
use Rattle.cfs_serve.specs.declared.served.Served.{Served}
use Rattle.cfs_serve.specs.declared.server.Server as servers
use Rattle.cfs_serve.specs.declared.talk.TalkEnd.{TalkEnd}
use Rattle.cfs_serve.specs.declared.talk.TalkEnd.TheVariants as ends

-- ---- what was heard, and what ended it

-- these bytes are all that a source had left, where it tells that
abbrev pub HadNoMore : Supply → List ℕ → Type 0
HadNoMore source bytes = (left : List ℕ) → source.left ≡ Some left → left ≡ bytes

-- The source gave whole lines, and then a last one if it has ended, which have these request lines; and then some bytes
-- that were not answered.
pub record HasHeard (source source_after : Supply) (heard : List (List ℕ)) (rest : List ℕ) : Type 0 where
  pub lines : List (List ℕ)
  pub whole : list_all is_within_line lines ≡ true
  pub last : List ℕ
  pub within : is_within_line last ≡ true
  pub gave : Gave source source_after ((joined_lines lines ++ last) ++ rest)
  pub heard_are : request_lines (joined_lines lines ++ last) ≡ heard
  pub last_at_end : (last ≡ []) ⊎ ((rest ≡ []) × HadNoMore source (joined_lines lines ++ last))

-- some bytes begin with more than the longest line has
pub record BeginsTooLong (bytes : List ℕ) : Type 0 where
  pub begun : List ℕ
  pub more : List ℕ
  pub split : bytes ≡ begun ++ more
  pub within : is_within_line begun ≡ true
  pub long : most_line + 1 < length begun

-- Why it ended, of so many whole lines that were heard: the source did, and each of its request lines was answered; the
-- sink broke; the source failed in the middle of a line; a line is too long; or more came than so many lines.
abbrev pub IsTalkEnd : TalkEnd → (source source_after : Supply) (given rest : List ℕ) (lines : ℕ) (broken : Bool)
    → Type 0
IsTalkEnd ends.Ended source source_after given rest lines broken =
    (rest ≡ []) × HadNoMore source given × (broken ≡ false)
IsTalkEnd ends.Broken source source_after given rest lines broken = broken ≡ true
IsTalkEnd ends.Failed source source_after given rest lines broken =
    Rose source.faults source_after.faults × (is_within_line rest ≡ true) × (broken ≡ false)
IsTalkEnd ends.Long source source_after given rest lines broken = BeginsTooLong rest × (broken ≡ false)
IsTalkEnd ends.LongTotal source source_after given rest lines broken =
    (lines ≡ most_lines) × (0 < length rest) × (broken ≡ false)

-- ---- collections

-- So many were called for among so many lines: none where none is wanted, and else one after so many lines at the most,
-- and one as the session has left.
pub record CallsEvery (every lines collections : ℕ) : Type 0 where
  pub none : every ≡ 0 → collections ≡ 0
  pub most : collections * every ≤ lines + every

-- one began after the session had left
pub record CollectsAfterLeave (session : ℕ) (trail : List Event) : Type 0 where
  pub before : List Event
  pub after : List Event
  pub stopped : Option ℕ
  pub split : trail ≡ before ++ events.Leave session stopped ∷ after
  pub begun : 1 ≤ begins_in after

-- A session with this port, as if its lines had all been there before, was heard to its end.
pub record IsTalk (every : ℕ) (source source_after : Supply) (sink : Intake) (end : TalkEnd) (port after : PortReading)
    (collections : ℕ) (ending : Ending) (trail : List Event) : Type 0 where
  pub rest : List ℕ
  pub heard : HasHeard source source_after port.lines rest
  pub few : length heard.lines ≤ most_lines
  pub sink_is : port.sink ≡ sink
  pub ends : IsTalkEnd end source source_after (joined_lines heard.lines ++ heard.last) rest (length heard.lines)
      after.failed
  pub paced : CallsEvery every (length port.lines) collections
  -- where the collector was done at no refusal, what the session cut off is collected
  pub last : 0 < every → ending.refused ≡ None → CollectsAfterLeave 0 trail

-- ---- as it begins

-- the collections that may be called for among the lines that a run may have
abbrev pub most_calls : (every : ℕ) → ℕ
most_calls zero = 0
most_calls (suc n) = most_lines / suc n + 1

-- the events that there must be room for: each line, the leave, a stop, and three for each collection
abbrev pub talk_events : (every : ℕ) → ℕ
talk_events every = most_lines + 3 * most_calls every + 2

-- A conversation is ready to begin. Its server runs, and nothing was asked of it yet, and no collection called for. Its
-- port is new, and none of its lines was read. The trail is empty, with room for all events.
pub record IsTalkReady {A : Type 0} (v : servers.Ghosts A) (server : A) (trail : Recorded) (port : PortReading)
    (lines : LinesReading) (every : ℕ) : Type 0 where
  pub no_event : trail.events ≡ []
  pub runs : v.has_stopped server ≡ false
  pub words : v.words server ≡ 0
  pub new : IsNewPort (v.root server) port
  pub unheard : port.lines ≡ []
  pub begins : (lines.held ≡ []) × (lines.ended ≡ false)
  pub called : (v.tally server).called ≡ 0
  pub idle : ((v.tally server).finished ≡ 0) × ((v.tally server).running ≡ false)
  pub no_step : (v.tally server).events ≡ 0
  pub swept : (graph : Graph) → v.stands server (opening graph) → (v.tally server).lost graph ≡ 0
  pub pace : every ≤ most_lines
  pub room : talk_events every ≤ trail.room

-- ---- by a server

-- A conversation with a server has ended. It was a service of one session, and of as many collections as were called
-- for.
pub record HasTalked {A K : Type 0} (v : servers.Ghosts A) (began : A) (every : ℕ) (source source_after : Supply)
    (sink : Intake) (end : TalkEnd) (s : Served A K) : Type 0 where
  pub port : PortReading
  pub after : PortReading
  pub collections : ℕ
  pub new : IsNewPort (v.root began) port
  pub ports : s.ports.items ≡ after ∷ []
  pub talk : IsTalk every source source_after sink end port after collections s.ending s.trail.events
  pub served : HasServed v began (port ∷ []) collections s

-- ---- what is told

-- what an end tells, or else this
abbrev pub end_or : Cause → TalkEnd → Cause
end_or cause ends.Ended = cause
end_or cause ends.Broken = cause
end_or cause ends.Failed = causes.Source 0
end_or cause ends.Long = causes.Long 0
end_or cause ends.LongTotal = causes.LongTotal

-- The worst: a failed call of the disk, a damage, or a sink that broke; a source that failed, or a limit that was
-- passed; want of memory; nothing.
abbrev pub talk_cause : Cause → TalkEnd → Cause
talk_cause causes.Nothing end = end_or causes.Nothing end
talk_cause causes.Memory end = end_or causes.Memory end
talk_cause cause end = cause

abbrev pub talk_report : Counts → Cause → Report
talk_report counts cause = record { counts = Some counts; faults = []; cause = cause }

-- ---- by a core

-- A core had a conversation, and is over; its disk is handed back.
pub record CoreTalks {D : Type 0} (g : Ghosts D) (core : Kernel D) (every : ℕ) (source source_after : Supply)
    (sink sink_after : Intake) (report : Report) (ending : Ending) (trail : List Event) (moments : List ℕ)
    (disk : D) : Type 0 where
  pub end : TalkEnd
  pub port : PortReading
  pub after : PortReading
  pub collections : ℕ
  pub counts : Counts
  pub cause : Cause
  pub talk : IsTalk every source source_after sink end port after collections ending trail
  pub sink_after_is : after.sink ≡ sink_after
  pub serves : ServesSessions g core collections (client_of port ∷ []) (after ∷ []) (talk_report counts cause) ending
      trail moments disk
  pub told : report ≡ talk_report counts (talk_cause cause end)

-- memory was wanting before the first line
pub record IsUntalked {D : Type 0} (core : Kernel D) (source source_after : Supply) (sink sink_after : Intake)
    (report : Report) (ending : Ending) (trail : List Event) (disk : D) : Type 0 where
  pub unread : source_after ≡ source
  pub nothing : ServesNothing (sink ∷ []) (sink_after ∷ []) report ending trail causes.Memory
  pub disk_is : disk ≡ core.disk

-- it had one, or memory was wanting before
abbrev pub TalksOnCore : {D : Type 0} → Ghosts D → Kernel D → (every : ℕ) → (source source_after : Supply)
    → (sink sink_after : Intake)
    → Report → Ending → List Event → List ℕ → D → Type 0
TalksOnCore g core every source source_after sink sink_after report ending trail moments disk =
    CoreTalks g core every source source_after sink sink_after report ending trail moments disk
    ⊎ IsUntalked core source source_after sink sink_after report ending trail disk

-- ---- on a volume

-- A conversation was had on a volume that may read as the ground's graphs.
pub record HasConversed (ground : Ground) (seed every : ℕ) (rose : Type 0) (source source_after : Supply)
    (sink sink_after : Intake) (end : TalkEnd) (counts : Counts) (cause : Cause) (ending : Ending)
    (trail : List Event) : Type 0 where
  pub port : PortReading
  pub after : PortReading
  pub collections : ℕ
  pub talk : IsTalk every source source_after sink end port after collections ending trail
  pub sink_after_is : after.sink ≡ sink_after
  pub played : IsPlayed ground seed collections rose (client_of port ∷ []) (after ∷ []) counts cause ending trail
  pub sound : ¬ ground.unsound

-- why none was had: the volume was refused, its disk failed as it was opened, or memory was wanting
abbrev pub IsUnopenedCause : Ground → (rose : Type 0) → Cause → Type 0
IsUnopenedCause ground rose (causes.Volume fault) = HasNone ground × ground.faulty fault
IsUnopenedCause ground rose (causes.Disk moment) = (moment ≡ None) × rose
IsUnopenedCause ground rose causes.Memory = Unit {0}
IsUnopenedCause ground rose cause = ⊥

-- none was had: nothing was read, and nothing written
pub record HasNotConversed (ground : Ground) (rose : Type 0) (sources sources_after : List Supply)
    (sinks sinks_after : List Intake) (report : Report) (ending : Ending) (trail : List Event) : Type 0 where
  pub cause : Cause
  pub is : IsUnopenedCause ground rose cause
  pub unread : sources_after ≡ sources
  pub nothing : ServesNothing sinks sinks_after report ending trail cause
