-- What a conversation keeps as it goes on, turn by turn.
use Rattle.std.specs.Prelude.{◌≡◌, ℕ, ◌+◌, ◌-◌, ◌*◌, ◌<◌, ◌≤◌, ◌==◌, Bool, true, false, if◌then◌else◌, List, [], ◌∷◌}
use Rattle.std.specs.Prelude.{◌++◌, length, Option, Some, None}
use Rattle.std.specs.List.{list_all}
use Rattle.cfs_base.specs.Outside.{Intake, Supply}
use Rattle.cfs_base.specs.declared.identifier.Puid.{Puid}
use Rattle.cfs_core.specs.declared.collecting.CollectFault.{CollectFault}
use Rattle.cfs_core.specs.declared.collecting.CollectFault.TheVariants as faulted
use Rattle.cfs_ports.specs.Lines.{LinesReading, is_within_line, joined_lines}
use Rattle.cfs_ports.specs.Port.{PortReading}
use Rattle.cfs_streams.specs.Reading.{Gave}
use Rattle.cfs_trail.specs.Trail.{Recorded}
use Rattle.ufs_model.specs.declared.asked.Event.{Event}
use Rattle.ufs_model.specs.declared.asked.Event.TheVariants as events
use Rattle.ufs_model.specs.Script.{request_lines}
use Rattle.cfs_serve.specs.Calls.{IsTallied, begun_so_far}
use Rattle.cfs_serve.specs.Charter.{Client, Terms}
use Rattle.cfs_serve.specs.Ending.{IsWanting, TellsStop}
use Rattle.cfs_serve.specs.Events.{begins_in, events_of_session, is_no_step, is_of_session}
use Rattle.cfs_serve.specs.Limits.{most_lines}
use Rattle.cfs_serve.specs.Logs.{CountsFaults, ServerLog, first_fault}
use Rattle.cfs_serve.specs.Machine.{IsSession, Turned, client_of, parts_now}
use Rattle.cfs_serve.specs.Service.{IsEndOf}
use Rattle.cfs_serve.specs.Talk.{CollectsAfterLeave, HadNoMore, HasHeard, IsTalk, IsTalkEnd, most_calls, talk_events}
use Rattle.cfs_serve.specs.declared.logged.CollectorTurn.{CollectorTurn}
use Rattle.cfs_serve.specs.declared.logged.CollectorTurn.TheVariants as progresses
use Rattle.cfs_serve.specs.declared.served.Served.{Served}
use Rattle.cfs_serve.specs.declared.server.Server as servers
use Rattle.cfs_serve.specs.declared.talk.Pace.{Pace}
use Rattle.cfs_serve.specs.declared.talk.TalkEnd.{TalkEnd}

-- ---- what is kept

-- the logged server, the session's port, when a collection is called for, the refusal at which the collector was done,
-- and how many lines may still come
pub record Talking (A : Type 0) : Type 0 where
  pub logged : ServerLog A
  pub port : PortReading
  pub pace : Pace
  pub refused : Option CollectFault
  pub lines : ℕ

-- how many collections were called for
abbrev pub called_in : {A : Type 0} → servers.Ghosts A → Talking A → ℕ
called_in v talk = (v.tally talk.logged.server).called

-- The lines after which they came, as many for each, and the lines since.
abbrev pub lines_spread : {A : Type 0} → servers.Ghosts A → Talking A → ℕ
lines_spread v talk = called_in v talk * talk.pace.every + talk.pace.since

-- What the collector has to do now, as a number that each turn lowers: the parts of a commit, and the steps of a
-- collection that is due. Once it was refused there is nothing.
abbrev pub work_left : Option CollectFault → (due : Bool) → (steps parts : ℕ) → ℕ
work_left (Some fault) due steps parts = 0
work_left None true steps parts = steps + parts + 1
work_left None false steps parts = parts

abbrev pub work_of : {A : Type 0} → servers.Ghosts A → Talking A → ℕ
work_of v talk =
    work_left talk.refused talk.pace.due (v.tally talk.logged.server).steps (v.unfinished talk.logged.server)

-- The parts of a commit that it has to make: none once it was refused.
abbrev pub parts_to_make : {A : Type 0} → servers.Ghosts A → Talking A → ℕ
parts_to_make v talk = parts_now talk.refused (v.unfinished talk.logged.server)

-- a turn that finishes a collection leaves none due
abbrev pub due_after : (due : Bool) → CollectorTurn → Bool
due_after due progresses.Finished = false
due_after due progress = due

-- The events that it may still make: those of collections that were called for, three for each call to come, and a
-- stop.
abbrev pub collector_ahead : Option CollectFault → (events calls : ℕ) → ℕ
collector_ahead None events calls = events + 3 * calls + 1
collector_ahead (Some fault) events calls = 0

-- and with the lines and the leave all that may come
abbrev pub events_to_make : {A : Type 0} → servers.Ghosts A → Talking A → ℕ
events_to_make v talk = talk.lines + (if talk.port.has_left then 0 else 1)
    + collector_ahead talk.refused (v.tally talk.logged.server).events (most_calls talk.pace.every - called_in v talk)

-- What holds between two turns. As long as no step was refused the collections of the trail are counted, and all that
-- were called for are finished but for one that is due.
pub record KeepsTalk {A : Type 0} (v : servers.Ghosts A) (t : Terms A) (talk : Talking A) : Type 0 where
  pub unread : talk.port.lines ≡ []
  pub room : events_to_make v talk ≤ talk.logged.room
  pub few : length talk.logged.events + events_to_make v talk ≤ talk_events talk.pace.every
  pub quiet : called_in v talk ≡ 0 → list_all is_no_step talk.logged.events ≡ true
  pub tallied : talk.refused ≡ None → IsTallied (v.tally talk.logged.server) talk.logged.events
  pub begun : talk.refused ≡ None → begun_so_far (v.tally talk.logged.server) ≤ called_in v talk
  pub due : talk.refused ≡ None
      → (v.tally talk.logged.server).finished + (if talk.pace.due then 1 else 0) ≡ called_in v talk
  pub counted : CountsFaults v.faults v.stands t (first_fault talk.refused) talk.logged.server talk.logged.events
  pub tells : TellsStop talk.refused (v.stop talk.logged.server)
  pub wanting : talk.refused ≡ Some faulted.Memory → IsWanting (called_in v talk) talk.logged.events
  pub alone : (k : ℕ) → 1 ≤ k → events_of_session k talk.logged.events ≡ []

-- at no refusal as many collections have begun as were called for
abbrev pub HasBegunAll : {A : Type 0} → servers.Ghosts A → Talking A → Type 0
HasBegunAll v talk = talk.refused ≡ None → called_in v talk ≤ begins_in talk.logged.events

-- ---- as it begins

-- nothing was asked of the server, the port has heard nothing, and the empty trail has room for all events
pub record StartsTalk {A : Type 0} (v : servers.Ghosts A) (server : A) (trail : Recorded) (port : PortReading)
    (every : ℕ) : Type 0 where
  pub no_event : trail.events ≡ []
  pub unread : port.lines ≡ []
  pub stays : port.has_left ≡ false
  pub called : (v.tally server).called ≡ 0
  pub idle : ((v.tally server).finished ≡ 0) × ((v.tally server).running ≡ false)
  pub no_step : (v.tally server).events ≡ 0
  pub room : talk_events every ≤ trail.room

-- ---- what was heard so far

-- the session has answered these lines, whatever lines come still
abbrev pub AnswersSoFar : Puid → Intake → List (List ℕ) → PortReading → List Event → Type 0
AnswersSoFar root sink heard port trail = (later : List (List ℕ))
    → IsSession root 0 (record { lines = heard ++ later; sink = sink }) (record port { lines = later }) trail

-- The session stays and has answered these lines, and collections came among them at their pace.
pub record TalkGoesOn {A : Type 0} (v : servers.Ghosts A) (root : Puid) (sink : Intake) (heard : List (List ℕ))
    (talk : Talking A) : Type 0 where
  pub answered : AnswersSoFar root sink heard talk.port talk.logged.events
  pub unread : talk.port.lines ≡ []
  pub stays : talk.port.has_left ≡ false
  pub spread : lines_spread v talk + talk.lines ≤ most_lines
  pub paced : lines_spread v talk ≤ length heard
  pub none : talk.pace.every ≡ 0 → called_in v talk ≡ 0

-- The source gave these whole lines, and then a last one where it has ended; all were heard.
pub record HasHeardLines {A : Type 0} (v : servers.Ghosts A) (root : Puid) (source : Supply) (sink : Intake)
    (lines : LinesReading) (talk : Talking A) : Type 0 where
  pub whole : List (List ℕ)
  pub within : list_all is_within_line whole ≡ true
  pub last : List ℕ
  pub last_within : is_within_line last ≡ true
  pub gave : Gave source lines.supply ((joined_lines whole ++ last) ++ lines.held)
  pub goes_on : TalkGoesOn v root sink (request_lines (joined_lines whole ++ last)) talk
  pub few : length whole + talk.lines ≤ most_lines
  pub more : lines.ended ≡ false → (last ≡ []) × (length whole + talk.lines ≡ most_lines)
  pub over : lines.ended ≡ true → (lines.held ≡ []) × HadNoMore source (joined_lines whole ++ last)

-- no line more is heard
pub record EndsTalk {A : Type 0} (v : servers.Ghosts A) (root : Puid) (source : Supply) (sink : Intake)
    (lines : LinesReading) (talk : Talking A) (end : TalkEnd) : Type 0 where
  pub lines_heard : List (List ℕ)
  pub rest : List ℕ
  pub heard : HasHeard source lines.supply lines_heard rest
  pub few : length heard.lines ≤ most_lines
  pub why : IsTalkEnd end source lines.supply (joined_lines heard.lines ++ heard.last) rest (length heard.lines)
      talk.port.failed
  pub goes_on : TalkGoesOn v root sink lines_heard talk

-- ---- what a turn does

-- a line was a request line, and its port made one event of it
pub record HearsRequestLine {A : Type 0} (old new : ServerLog A) (p q : PortReading) (line : List ℕ) : Type 0 where
  pub event : Event
  pub recorded : new.events ≡ old.events ++ event ∷ []
  pub room : new.room + 1 ≡ old.room
  pub others : (k : ℕ) → (0 == k) ≡ false → is_of_session k event ≡ false
  pub turned : Turned 0 (record p { lines = request_lines line }) q event
  pub unread : q.lines ≡ []

-- a line came: it was answered, and counts for the next collection
pub record TakesRequest {A : Type 0} (v : servers.Ghosts A) (old new : Talking A) (line : List ℕ) : Type 0 where
  pub answers : HearsRequestLine old.logged new.logged old.port new.port line
  pub lines : new.lines + 1 ≡ old.lines
  pub pace : new.pace ≡ record old.pace { since = old.pace.since + 1 }
  pub called : called_in v new ≡ called_in v old

-- a line came that is no request line
pub record PassesLine {A : Type 0} (old new : Talking A) (line : List ℕ) : Type 0 where
  pub none : request_lines line ≡ []
  pub lines : new.lines + 1 ≡ old.lines
  pub rest : new ≡ record old { lines = new.lines }

-- The collector went on: no event is of a session, and the port is as it was.
pub record MovesBeside {A : Type 0} (old new : Talking A) : Type 0 where
  pub events : (k : ℕ) → events_of_session k new.logged.events ≡ events_of_session k old.logged.events
  pub port : new.port ≡ old.port
  pub lines : new.lines ≡ old.lines
  pub every : new.pace.every ≡ old.pace.every

-- by turns alone
pub record MakesTurns {A : Type 0} (v : servers.Ghosts A) (old new : Talking A) : Type 0 where
  pub beside : MovesBeside old new
  pub made : List Event
  pub recorded : new.logged.events ≡ old.logged.events ++ made
  pub since : new.pace.since ≡ old.pace.since
  pub called : called_in v new ≡ called_in v old
  pub refused : new.refused ≡ None → old.refused ≡ None

-- by turns, and calls at their pace
pub record KeepsPace {A : Type 0} (v : servers.Ghosts A) (old new : Talking A) : Type 0 where
  pub beside : MovesBeside old new
  pub spread : lines_spread v new ≤ lines_spread v old
  pub none : old.pace.every ≡ 0 → called_in v new ≡ called_in v old

-- one collection was called for, and is due
pub record CallsNext {A : Type 0} (v : servers.Ghosts A) (old new : Talking A) : Type 0 where
  pub events : new.logged.events ≡ old.logged.events
  pub rest : (new.port ≡ old.port) × (new.lines ≡ old.lines) × (new.refused ≡ old.refused)
  pub pace : new.pace ≡ record old.pace { since = 0; due = true }
  pub called : called_in v new ≡ called_in v old + 1

-- the session left
pub record LeavesTalk {A : Type 0} (v : servers.Ghosts A) (old new : Talking A) : Type 0 where
  pub stopped : Option ℕ
  pub recorded : new.logged.events ≡ old.logged.events ++ events.Leave 0 stopped ∷ []
  pub port : new.port ≡ record old.port { has_left = true }
  pub rest : (new.pace ≡ old.pace) × (new.refused ≡ old.refused)
  pub called : called_in v new ≡ called_in v old
  pub begun : new.refused ≡ None → begins_in new.logged.events ≤ called_in v new

-- once it has, the collector did what was left to it, and one collection more
pub record CollectsLast {A : Type 0} (v : servers.Ghosts A) (old new : Talking A) : Type 0 where
  pub beside : MovesBeside old new
  pub made : List Event
  pub recorded : new.logged.events ≡ old.logged.events ++ made
  pub most : called_in v new ≤ called_in v old + 1
  pub none : old.pace.every ≡ 0 → called_in v new ≡ called_in v old
  pub refused : new.refused ≡ None → old.refused ≡ None
  pub begun : 0 < old.pace.every → new.refused ≡ None → called_in v old + 1 ≤ begins_in new.logged.events
  pub done : work_of v new ≡ 0

-- ---- as it has ended

-- the charter of a service of one session that came to so many collections
abbrev pub charter_with : {A : Type 0} → Terms A → (collections : ℕ) → Client → Terms A
charter_with t collections client = record t { collections = collections; clients = client ∷ [] }

-- it was taken apart
pub record ClosesTalk {A K : Type 0} (v : servers.Ghosts A) (t : Terms A) (talk : Talking A)
    (s : Served A K) : Type 0 where
  pub ports : s.ports.items ≡ talk.port ∷ []
  pub events : s.trail.events ≡ talk.logged.events
  pub refused : s.ending.refused ≡ talk.refused
  pub called : (v.tally s.server).called ≡ called_in v talk
  pub ended : (client : Client) → IsSession t.root 0 client talk.port talk.logged.events
      → IsEndOf v (charter_with t (v.tally s.server).called client) s

-- the session left, and the collector was done
pub record LeavesService {A K : Type 0} (v : servers.Ghosts A) (t : Terms A) (talk : Talking A)
    (s : Served A K) : Type 0 where
  pub ports : s.ports.items ≡ record talk.port { has_left = true } ∷ []
  pub ended : (client : Client) → IsSession t.root 0 client talk.port talk.logged.events
      → IsEndOf v (charter_with t (v.tally s.server).called client) s
  pub most : (v.tally s.server).called ≤ called_in v talk + 1
  pub none : talk.pace.every ≡ 0 → (v.tally s.server).called ≡ called_in v talk
  pub last : 0 < talk.pace.every → s.ending.refused ≡ None → CollectsAfterLeave 0 s.trail.events

-- a conversation by its charter: the port is as it was, but for the lines that came
pub record TalksBy {A K : Type 0} (v : servers.Ghosts A) (t : Terms A) (port : PortReading) (every : ℕ)
    (source source_after : Supply) (sink : Intake) (end : TalkEnd) (s : Served A K) : Type 0 where
  pub heard : List (List ℕ)
  pub after : PortReading
  pub collections : ℕ
  pub ports : s.ports.items ≡ after ∷ []
  pub has_left : after.has_left ≡ true
  pub talk : IsTalk every source source_after sink end (record port { lines = heard }) after collections s.ending
      s.trail.events
  pub ended : IsEndOf v (charter_with t collections (client_of (record port { lines = heard }))) s
