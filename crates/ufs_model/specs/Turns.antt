-- The turns that a session makes of its script.
use Rattle.std.specs.Prelude.{◌≡◌, ℕ, Bool, true, false, ◌==◌, if◌then◌else◌, List, [], ◌∷◌, filter, Option, Some, None}
use Rattle.cfs_base.specs.declared.identifier.Puid.{Puid}
use Rattle.ufs_model.specs.declared.asked.Bound.TheVariants as bounds
use Rattle.ufs_model.specs.declared.asked.Request.{Request}
use Rattle.ufs_model.specs.declared.asked.Reply.{Reply}
use Rattle.ufs_model.specs.declared.asked.Reply.TheVariants as replies
use Rattle.ufs_model.specs.declared.asked.Unread.TheVariants as unread
use Rattle.ufs_model.specs.declared.asked.Event.{Event}
use Rattle.ufs_model.specs.declared.asked.Event.TheVariants as events
use Rattle.ufs_model.specs.Script.{request_lines, words_of}
use Rattle.ufs_model.specs.Names.{Names, no_names, bind}
use Rattle.ufs_model.specs.Spoken.{Reading, Is, Unbound, Bad, Form, reading_of, name_spoken}

-- ---- the events of a session

-- a request line of this session was read, and answered if it is a request
abbrev pub is_turn_of : ℕ → Event → Bool
is_turn_of session (events.Unread who why) = who == session
is_turn_of session (events.Ask who request reply) = who == session
is_turn_of session (events.Leave who stopped) = false
is_turn_of session events.Began = false
is_turn_of session (events.Vanish ids) = false
is_turn_of session events.Finished = false
is_turn_of session (events.Halted moment) = false

abbrev pub turns_in : ℕ → List Event → List Event
turns_in session trail = filter (is_turn_of session) trail

-- ---- what comes of a line

abbrev reply_in : Event → Reply
reply_in (events.Ask who request reply) = reply
reply_in event = replies.Memory

abbrev wants_memory : Event → Bool
wants_memory (events.Unread who unread.Memory) = true
wants_memory event = false

abbrev turn_read : ℕ → Reading Request → Event → Event
turn_read session Bad event = events.Unread session unread.Syntax
turn_read session Unbound event = events.Unread session unread.NoName
turn_read session (Is request) event = events.Ask session request (reply_in event)

-- the turn of a line that reads so, with the reply of this event. Want of memory may come in the place of any.
abbrev pub turn_of : ℕ → Reading Request → Event → Event
turn_of session reading event =
    if wants_memory event then events.Unread session unread.Memory else turn_read session reading event

-- the names after a reply, if an ok reply binds this name
abbrev pub names_after_reply : Names → Option (List ℕ) → Reply → Names
names_after_reply names None reply = names
names_after_reply names (Some name) (replies.Id id) = bind names name (bounds.Permanent id)
names_after_reply names (Some name) (replies.Grant t) = bind names name (bounds.Temporary t)
names_after_reply names (Some name) reply = names

-- the names after the turn of a line
abbrev pub names_after : List Form → Names → List ℕ → Event → Names
names_after forms names line event = names_after_reply names (name_spoken forms (words_of line)) (reply_in event)

-- ---- the turns

-- the turns of these lines, from these names on, as far as events answer them
abbrev pub turns_from : List Form → ℕ → Names → List (List ℕ) → List Event → List Event
turns_from forms session names lines [] = []
turns_from forms session names [] (event ∷ events) = []
turns_from forms session names (line ∷ lines) (event ∷ events) =
    turn_of session (reading_of forms names line) event
    ∷ turns_from forms session (names_after forms names line event) lines events

-- the turns of a session's script
abbrev pub turns_of : List Form → ℕ → Puid → List ℕ → List Event → List Event
turns_of forms session root script events = turns_from forms session (no_names root) (request_lines script) events

-- the session's events in the trail are the turns of its script, as far as they go
abbrev pub AreTurns : List Form → ℕ → Puid → List ℕ → List Event → Type 0
AreTurns forms session root script trail =
    turns_in session trail ≡ turns_of forms session root script (turns_in session trail)
