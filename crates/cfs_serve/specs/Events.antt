-- What events report of memory and of the disk, and whose they are.
use Rattle.std.specs.Prelude.{◌||◌, ◌≡◌, ℕ, ◌==◌, Bool, true, false, List, [], ◌∷◌, ◌++◌, filter, length, Some, None}
use Rattle.cfs_base.specs.Outside.{Intake}
use Rattle.cfs_streams.specs.Writing.{Wrote, WroteSome}
use Rattle.ufs_model.specs.declared.asked.Reply.{Reply}
use Rattle.ufs_model.specs.declared.asked.Reply.TheVariants as replies
use Rattle.ufs_model.specs.declared.asked.Unread.TheVariants as unread
use Rattle.ufs_model.specs.declared.asked.Event.{Event}
use Rattle.ufs_model.specs.declared.asked.Event.TheVariants as events
use Rattle.ufs_model.specs.Printed.{printed, printed_replies}

-- the event reports want of memory
abbrev pub wants_memory : Event → Bool
wants_memory (events.Unread who unread.Memory) = true
wants_memory (events.Ask who request replies.Memory) = true
wants_memory event = false

-- it reports a failed call of the disk
abbrev pub tells_disk : Event → Bool
tells_disk (events.Ask who request (replies.Disk doubt)) = true
tells_disk event = false

-- it reports that the server stopped
abbrev pub tells_stop : Event → Bool
tells_stop (events.Leave who (Some moment)) = true
tells_stop (events.Halted moment) = true
tells_stop event = false

abbrev pub tells_fault : Event → Bool
tells_fault event = tells_disk event || tells_stop event

-- it reports a damaged block
abbrev pub tells_damage : Event → Bool
tells_damage (events.Ask who request (replies.Damaged damage moment)) = true
tells_damage event = false

abbrev pub is_calm_reply : Reply → Bool
is_calm_reply (replies.Stopped moment) = false
is_calm_reply (replies.Disk doubt) = false
is_calm_reply (replies.Damaged damage moment) = false
is_calm_reply reply = true

-- no failed call of the disk and no stop is behind it
abbrev pub is_calm : Event → Bool
is_calm (events.Unread who why) = true
is_calm (events.Ask who request reply) = is_calm_reply reply
is_calm (events.Leave who None) = true
is_calm (events.Leave who (Some moment)) = false
is_calm events.Began = true
is_calm (events.Vanish ids) = true
is_calm events.Finished = true
is_calm (events.Halted moment) = false

-- a collection began
abbrev pub is_begin : Event → Bool
is_begin (events.Unread who why) = false
is_begin (events.Ask who request reply) = false
is_begin (events.Leave who stopped) = false
is_begin events.Began = true
is_begin (events.Vanish ids) = false
is_begin events.Finished = false
is_begin (events.Halted moment) = false

-- a turn of this session, or its leave
abbrev pub is_of_session : ℕ → Event → Bool
is_of_session session (events.Unread who why) = who == session
is_of_session session (events.Ask who request reply) = who == session
is_of_session session (events.Leave who stopped) = who == session
is_of_session session events.Began = false
is_of_session session (events.Vanish ids) = false
is_of_session session events.Finished = false
is_of_session session (events.Halted moment) = false

-- of some session, or a stop while a commit was carried out: no step of a collection
abbrev pub is_no_step : Event → Bool
is_no_step (events.Unread who why) = true
is_no_step (events.Ask who request reply) = true
is_no_step (events.Leave who stopped) = true
is_no_step events.Began = false
is_no_step (events.Vanish ids) = false
is_no_step events.Finished = false
is_no_step (events.Halted moment) = true

abbrev pub is_reply : Event → Bool
is_reply (events.Unread who why) = true
is_reply (events.Ask who request reply) = true
is_reply (events.Leave who stopped) = false
is_reply events.Began = false
is_reply (events.Vanish ids) = false
is_reply events.Finished = false
is_reply (events.Halted moment) = false

abbrev pub is_finish : Event → Bool
is_finish (events.Unread who why) = false
is_finish (events.Ask who request reply) = false
is_finish (events.Leave who stopped) = false
is_finish events.Began = false
is_finish (events.Vanish ids) = false
is_finish events.Finished = true
is_finish (events.Halted moment) = false

-- how many collections began, and how many are finished
abbrev pub begins_in : List Event → ℕ
begins_in trail = length (filter is_begin trail)

abbrev pub finishes_in : List Event → ℕ
finishes_in trail = length (filter is_finish trail)

abbrev pub events_of_session : ℕ → List Event → List Event
events_of_session session trail = filter (is_of_session session) trail

-- the sink took all replies but that of the last event, and failed within that one
pub record BreaksOff (session : ℕ) (old new : Intake) (turns : List Event) : Type 0 where
  pub before : List Event
  pub last : Event
  pub mid : Intake
  pub whole : turns ≡ before ++ last ∷ []
  pub wrote : Wrote old mid (printed_replies session before)
  pub failed : WroteSome mid new (printed session last)
