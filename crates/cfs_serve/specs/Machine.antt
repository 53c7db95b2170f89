-- The machine: a logged server and the sessions' ports, and what is kept of each session.
use Rattle.std.specs.Prelude.{◌≡◌, ◌⊎◌, map, ℕ, zero, suc, refl, set, ◌+◌, ◌≤◌, ◌<◌, ◌==◌, Bool, true, false, not, List}
use Rattle.std.specs.Prelude.{[], ◌∷◌, ◌++◌, length, Option, Some, None, slice_get, if◌then◌else◌}
use Rattle.std.specs.List.{list_all}
use Rattle.std.proofs.Common.{inl, inr, ◌∙◌}
use Rattle.std.proofs.Math.Nat.{not-suc-le-zero, le_of_suc-le-suc}
use Rattle.std.proofs.lemmas.List.{append-nil}
use Rattle.cfs_base.specs.Log.{AddsAtMostOne}
use Rattle.cfs_base.specs.declared.identifier.Puid.{Puid}
use Rattle.cfs_base.specs.Outside.{Intake}
use Rattle.ufs_model.specs.declared.asked.Event.{Event}
use Rattle.ufs_model.specs.declared.asked.Event.TheVariants as events
use Rattle.ufs_model.specs.Names.{no_names}
use Rattle.ufs_model.specs.Spoken.{all_forms, reading_of}
use Rattle.ufs_model.specs.Turns.{is_turn_of, turns_in, turn_of, turns_from, names_after}
use Rattle.ufs_model.specs.Printed.{printed, printed_replies}
use Rattle.cfs_script.specs.NameTable.{names_of}
use Rattle.cfs_ports.specs.Port.{PortReading, IsNewPort, Replied}
use Rattle.cfs_serve.specs.Calls.{Tally}
use Rattle.cfs_serve.specs.Charter.{Client, Terms}
use Rattle.cfs_serve.specs.Events.{BreaksOff, events_of_session, is_of_session, is_no_step}
use Rattle.cfs_core.specs.declared.collecting.CollectFault.{CollectFault}
use Rattle.cfs_serve.specs.Logs.{IsStamped, ServerLog, LogSteps, recorded}
use Rattle.cfs_serve.specs.declared.logged.CollectorTurn.{CollectorTurn}

pub record Hearing (A : Type 0) : Type 0 where
  pub logged : ServerLog A
  pub ports : List PortReading
  -- the turns that the collector may make now (no step while it rests), all turns that it has left, and how many of its
  -- events there is room for
  pub turns : ℕ
  pub left : ℕ
  pub events : ℕ
  -- the refusal at which the collector was done
  pub refused : Option CollectFault

-- the parts of a commit that the collector has to make: none once it was refused
abbrev pub parts_now : Option CollectFault → (parts : ℕ) → ℕ
parts_now None parts = parts
parts_now (Some fault) parts = 0

-- the turns that it may make now, of the steps and the parts that are left
abbrev pub turns_now : (resting : Bool) → (steps parts : ℕ) → ℕ
turns_now true steps parts = parts
turns_now false steps parts = steps + parts

-- ---- what is kept of a session

-- no leave, or one
abbrev pub IsLeave : ℕ → Bool → List Event → Type 0
IsLeave i false leaves = leaves ≡ []
IsLeave i true leaves = (stopped : Option ℕ) × (leaves ≡ events.Leave i stopped ∷ [])

-- Session i. Its events are the turns of its script as far as it was read, and then one leave if it has left, which it
-- does at the script's end or once its sink failed. Its sink has taken its replies. If the sink failed, it has taken
-- all but the last, and some beginning of that one.
pub record IsSession (root : Puid) (i : ℕ) (client : Client) (p : PortReading) (trail : List Event) : Type 0 where
  pub leaves : List Event
  pub split : events_of_session i trail ≡ turns_in i trail ++ leaves
  pub left : IsLeave i p.has_left leaves
  pub turned : (more : List Event) → turns_from all_forms i (no_names root) client.lines (turns_in i trail ++ more)
      ≡ turns_in i trail ++ turns_from all_forms i (names_of p.names) p.lines more
  pub counted : length (turns_in i trail) + length p.lines ≡ length client.lines
  pub ended : p.has_left ≡ true → p.failed ≡ false → p.lines ≡ []
  pub replied : Replied client.sink p.sink (printed_replies i trail) (not p.failed)
  pub broken : p.failed ≡ true → BreaksOff i client.sink p.sink (turns_in i trail)

-- Each session is so, and no event is of a session without a script. If no collection is called for, no event is a step
-- of one.
pub record AreHeard {A : Type 0} (t : Terms A) (trail : List Event) (ports : List PortReading) : Type 0 where
  pub count : length ports ≡ length t.clients
  pub each : (k : ℕ) (client : Client) (p : PortReading) → slice_get t.clients k ≡ Some client
      → slice_get ports k ≡ Some p
      → IsSession t.root k client p trail
  pub none : (k : ℕ) → length ports ≤ k → events_of_session k trail ≡ []
  pub sessions : t.collections ≡ 0 → list_all is_no_step trail ≡ true

-- if no collection is called for, the collector has no step to make
abbrev pub HasNoCollector : {A : Type 0} → Terms A → (turns : ℕ) → Type 0
HasNoCollector t turns = t.collections ≡ 0 → turns ≡ 0

-- A collector that isn't done has more turns than it may make steps, even if each line still to come adds one, and room
-- for more events than it may make.
abbrev pub HasTurns : (turns events : ℕ) → (lines : ℕ) → Tally → Type 0
HasTurns turns events lines c = 0 < turns → (c.steps + lines < turns) × (c.events < events)

-- ---- the turns that are left

abbrev pub turns_left : PortReading → ℕ
turns_left p = if p.has_left then 0 else length p.lines + 1

abbrev pub has_left_at : Option PortReading → Bool
has_left_at None = true
has_left_at (Some p) = p.has_left

abbrev pub turns_left_at : Option PortReading → ℕ
turns_left_at None = 0
turns_left_at (Some p) = turns_left p

abbrev pub AllLeft : List PortReading → Type 0
AllLeft ports = (k : ℕ) → has_left_at (slice_get ports k) ≡ true

-- ---- what a turn does to a port

-- session i took a line, which came to this event
pub record Turned (i : ℕ) (p q : PortReading) (e : Event) : Type 0 where
  pub line : List ℕ
  pub taken : p.lines ≡ line ∷ q.lines
  pub mine : is_turn_of i e ≡ true
  pub whole : is_of_session i e ≡ true
  pub turn : turn_of i (reading_of all_forms (names_of p.names) line) e ≡ e
  pub names : names_of q.names ≡ names_after all_forms (names_of p.names) line e
  pub stays : p.has_left ≡ false
  pub stays_on : q.has_left ≡ false
  pub goes : p.failed ≡ false
  pub replied : Replied p.sink q.sink (printed i e) (not q.failed)

-- session i left
pub record Departs (i : ℕ) (p q : PortReading) (e : Event) : Type 0 where
  pub stopped : Option ℕ
  pub is : e ≡ events.Leave i stopped
  pub stays : p.has_left ≡ false
  pub over : p.failed ≡ false → p.lines ≡ []
  pub port : q ≡ record p { has_left = true }

-- session i made one event, by its port
pub record Moves {A : Type 0} (i : ℕ) (old new : ServerLog A) (p q : PortReading) : Type 0 where
  pub event : Event
  pub recorded : new.events ≡ old.events ++ event ∷ []
  pub room : new.room + 1 ≡ old.room
  pub others : (k : ℕ) → (i == k) ≡ false → is_of_session k event ≡ false
  pub kind : Turned i p q event ⊎ Departs i p q event

-- A turn of session i, which stayed: its port made one event, recorded with the disk's moment as the turn returned, and
-- the other ports are as they were. It may have left a commit unfinished.
pub record IsSessionTurn {A : Type 0} (clock : A → ℕ) (i : ℕ) (old new : Hearing A) : Type 0 where
  pub before : PortReading
  pub after : PortReading
  pub at : slice_get old.ports i ≡ Some before
  pub ports : new.ports ≡ set old.ports i after
  pub moves : Moves i old.logged new.logged before after
  pub stamped : IsStamped clock old.logged new.logged
  pub collector : (new.events ≡ old.events) × (new.refused ≡ old.refused)

-- A turn of a collector that wasn't done: a step or a part. At least one turn less is left, and the ports are as they
-- were.
pub record IsCollectorTurn {A : Type 0} (clock : A → ℕ) (old new : Hearing A) : Type 0 where
  pub progress : CollectorTurn
  pub steps : LogSteps clock old.logged new.logged progress
  pub ports : new.ports ≡ old.ports
  pub turns : new.turns < old.turns
  pub left : new.left < old.left

-- A turn of a worker: past the sessions it is the collector.
abbrev pub IsTurn : {A : Type 0} → (A → ℕ) → (worker : ℕ) → Hearing A → Hearing A → Type 0
IsTurn clock worker old new =
    IsSessionTurn clock worker old new ⊎ ((worker ≡ length old.ports) × IsCollectorTurn clock old new)

-- a turn adds an event to the trail, or none
pub adds_one : (old new : List Event) (made : Option Event) → new ≡ old ++ recorded made → AddsAtMostOne old new
adds_one old new None is = inl (is ∙ append-nil old)
adds_one old new (Some e) is = inr (e, is)

-- ---- the workers

-- Whether worker w is done: the session of that number or, past them, the collector, which has `turns` turns left.
abbrev pub is_done_in : List PortReading → (turns w : ℕ) → Bool
is_done_in [] turns zero = turns == 0
is_done_in [] turns (suc w) = true
is_done_in (p ∷ ports) turns zero = p.has_left
is_done_in (p ∷ ports) turns (suc w) = is_done_in ports turns w

-- how many turns it has left
abbrev pub turns_left_in : List PortReading → (turns w : ℕ) → ℕ
turns_left_in [] turns zero = turns
turns_left_in [] turns (suc w) = 0
turns_left_in (p ∷ ports) turns zero = turns_left p
turns_left_in (p ∷ ports) turns (suc w) = turns_left_in ports turns w

-- there is no worker beyond the collector
pub done_beyond : (ports : List PortReading) (turns w : ℕ) → suc (length ports) ≤ w → is_done_in ports turns w ≡ true
done_beyond [] turns zero beyond = absurd (not-suc-le-zero beyond)
done_beyond [] turns (suc w) beyond = refl
done_beyond (p ∷ ports) turns zero beyond = absurd (not-suc-le-zero beyond)
done_beyond (p ∷ ports) turns (suc w) beyond = done_beyond ports turns w (le_of_suc-le-suc beyond)

pub none_beyond : (ports : List PortReading) (turns w : ℕ) → suc (length ports) ≤ w → turns_left_in ports turns w ≡ 0
none_beyond [] turns zero beyond = absurd (not-suc-le-zero beyond)
none_beyond [] turns (suc w) beyond = refl
none_beyond (p ∷ ports) turns zero beyond = absurd (not-suc-le-zero beyond)
none_beyond (p ∷ ports) turns (suc w) beyond = none_beyond ports turns w (le_of_suc-le-suc beyond)

-- ---- as a service is made

-- nothing was read of the session
pub record IsFresh (root : Puid) (client : Client) (p : PortReading) : Type 0 where
  pub lines : p.lines ≡ client.lines
  pub sink : p.sink ≡ client.sink
  pub new : IsNewPort root p

pub record AreFresh {A : Type 0} (t : Terms A) (ports : List PortReading) : Type 0 where
  pub count : length ports ≡ length t.clients
  pub each : (k : ℕ) (client : Client) (p : PortReading) → slice_get t.clients k ≡ Some client
      → slice_get ports k ≡ Some p
      → IsFresh t.root client p

abbrev pub AreNew : Puid → List PortReading → Type 0
AreNew root ports = (k : ℕ) (p : PortReading) → slice_get ports k ≡ Some p → IsNewPort root p

abbrev pub client_of : PortReading → Client
client_of p = record { lines = p.lines; sink = p.sink }

-- the charter of a service by this server and these ports
abbrev pub charter_of : {A : Type 0} → A → (seed cylinders : ℕ) → Puid → (collections : ℕ) → List PortReading → Terms A
charter_of server seed cylinders root collections ports =
    record {
      began = Some server;
      seed = seed;
      cylinders = cylinders;
      root = root;
      collections = collections;
      clients = map client_of ports;
    }

-- ---- what it comes to

-- A session that has left. Its events are the turns of its script, all of them unless its sink failed, and then its
-- leave. Its sink has taken the replies.
pub record IsSessionOver (root : Puid) (trail : List Event) (i : ℕ) (client : Client) (after : Intake)
    (failed : Bool) : Type 0 where
  pub turns : turns_in i trail ≡ turns_from all_forms i (no_names root) client.lines (turns_in i trail)
  pub answered : failed ≡ false → length (turns_in i trail) ≡ length client.lines
  pub stopped : Option ℕ
  pub leaves : events_of_session i trail ≡ turns_in i trail ++ events.Leave i stopped ∷ []
  pub replied : Replied client.sink after (printed_replies i trail) (not failed)
  pub broken : failed ≡ true → BreaksOff i client.sink after (turns_in i trail)

-- Each session has left so, and no event is of another. If no collection is called for, no event is a step of one.
pub record AreOver (root : Puid) (collections : ℕ) (clients : List Client) (trail : List Event)
    (ports : List PortReading) : Type 0 where
  pub count : length ports ≡ length clients
  pub each : (k : ℕ) (client : Client) (p : PortReading) → slice_get clients k ≡ Some client
      → slice_get ports k ≡ Some p
      → IsSessionOver root trail k client p.sink p.failed
  pub none : (k : ℕ) → length clients ≤ k → events_of_session k trail ≡ []
  pub sessions : collections ≡ 0 → list_all is_no_step trail ≡ true
