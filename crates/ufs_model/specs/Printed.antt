-- The replies as they are written.
use Rattle.std.specs.Prelude.{ℕ, ◌==◌, if◌then◌else◌, List, [], ◌∷◌, ◌++◌, codes, Some, None}
use Rattle.std.specs.List.{join_with_byte, flat_map}
use Rattle.std.specs.Fmt.{decimal}
use Rattle.std.specs.Int.{w32, to_be_bytes}
use Rattle.hex.specs.Hex.{encode_lower}
use Rattle.ufs_model.specs.declared.asked.Reply.{Reply}
use Rattle.ufs_model.specs.declared.asked.Reply.TheVariants as replies
use Rattle.ufs_model.specs.declared.asked.Unread.{Unread}
use Rattle.ufs_model.specs.declared.asked.Unread.TheVariants as unread
use Rattle.ufs_model.specs.declared.asked.Event.{Event}
use Rattle.ufs_model.specs.declared.asked.Event.TheVariants as events
use Rattle.ufs_model.specs.Script.{LF}

-- an identifier as 16 hexadecimal digits
abbrev pub id_digits : (high low : ℕ) → List ℕ
id_digits high low = encode_lower (to_be_bytes w32 high ++ to_be_bytes w32 low)

-- a line of these words, with its end
abbrev pub line_of : List (List ℕ) → List ℕ
line_of words = join_with_byte 32 words ++ LF ∷ []

-- the line of a reply
abbrev pub reply_line : Reply → List ℕ
reply_line replies.Done = line_of (codes "ok" ∷ [])
reply_line (replies.Id id) = line_of (codes "ok" ∷ id_digits id.block id.word ∷ [])
reply_line (replies.Grant t) = line_of (codes "ok" ∷ id_digits t.draw t.word ∷ [])
reply_line (replies.Number n) = line_of (codes "ok" ∷ decimal n ∷ [])
reply_line (replies.Content bytes) = line_of (codes "ok" ∷ encode_lower bytes ∷ [])
reply_line replies.Memory = line_of (codes "no memory" ∷ [])
reply_line (replies.Stopped moment) = line_of (codes "no stopped" ∷ decimal moment ∷ [])
reply_line replies.NoGrant = line_of (codes "no grant" ∷ [])
reply_line replies.NoObject = line_of (codes "no object" ∷ [])
reply_line replies.NotIndex = line_of (codes "no not-index" ∷ [])
reply_line replies.NotFile = line_of (codes "no not-file" ∷ [])
reply_line replies.ReadOnly = line_of (codes "no read-only" ∷ [])
reply_line replies.Locked = line_of (codes "no locked" ∷ [])
reply_line replies.Slot = line_of (codes "no slot" ∷ [])
reply_line replies.Empty = line_of (codes "no empty" ∷ [])
reply_line replies.Range = line_of (codes "no range" ∷ [])
reply_line replies.Grants = line_of (codes "no grants" ∷ [])
reply_line (replies.Full n) = line_of (codes "no full" ∷ decimal n.free ∷ decimal n.need ∷ [])
reply_line (replies.Disk None) = line_of (codes "no disk" ∷ [])
reply_line (replies.Disk (Some moment)) = line_of (codes "no disk" ∷ decimal moment ∷ [])
reply_line (replies.Damaged damage moment) =
    line_of (codes "no damaged" ∷ decimal damage.block ∷ decimal damage.code ∷ decimal moment ∷ [])

-- the reply to a request line that is no request
abbrev pub unread_line : Unread → List ℕ
unread_line unread.Syntax = line_of (codes "no syntax" ∷ [])
unread_line unread.NoName = line_of (codes "no name" ∷ [])
unread_line unread.Memory = line_of (codes "no memory" ∷ [])

-- what an event writes to a session's sink
abbrev pub printed : ℕ → Event → List ℕ
printed session (events.Unread who why) = if who == session then unread_line why else []
printed session (events.Ask who request reply) = if who == session then reply_line reply else []
printed session (events.Leave who stopped) = []
printed session events.Began = []
printed session (events.Vanish ids) = []
printed session events.Finished = []
printed session (events.Halted moment) = []

-- all that a trail writes to that sink
abbrev pub printed_replies : ℕ → List Event → List ℕ
printed_replies session trail = flat_map (printed session) trail
