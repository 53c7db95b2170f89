-- Which lines are read, and the one event whose line a line can be: each word is read as what its place wants, and
-- one that can't be read so counts as nothing.
use Rattle.std.specs.Prelude.{◌≡◌, ◌≢◌, Bool, true, Option, Some, None}
use Rattle.std.specs.Prelude.{ℕ, ◌^◌, ◌==◌, nat_lt, if◌then◌else◌, List, [], length, get_or, map, take, drop, codes}
use Rattle.std.specs.Borrow.{Bor}
use Rattle.std.specs.List.{slice_split}
use Rattle.std.specs.Result.{result_unwrap_or}
use Rattle.std.specs.Str.{bytes_eq}
use Rattle.std.specs.Int.{w32, from_be_bytes}
use Rattle.hex.specs.Hex.{decode_of, decode_sized}
use Rattle.cfs_base.specs.declared.identifier.Puid.{Puid}
use Rattle.cfs_base.specs.declared.identifier.Tuid.{Tuid}
use Rattle.cfs_base.specs.declared.kind.FileKind.{FileKind}
use Rattle.cfs_base.specs.declared.kind.FileKind.TheVariants as kinds
use Rattle.cfs_base.specs.declared.kind.Mode.{Mode}
use Rattle.cfs_base.specs.declared.kind.Mode.TheVariants as modes
use Rattle.ufs_model.specs.declared.asked.Ref.{Ref}
use Rattle.ufs_model.specs.declared.asked.Ref.TheVariants.{Direct, Through}
use Rattle.ufs_model.specs.declared.asked.Request.{Request}
use Rattle.ufs_model.specs.declared.asked.Request.TheVariants as asks
use Rattle.ufs_model.specs.declared.asked.Reply.{Reply}
use Rattle.ufs_model.specs.declared.asked.Reply.TheVariants as replies
use Rattle.ufs_model.specs.declared.asked.Unread.{Unread}
use Rattle.ufs_model.specs.declared.asked.Unread.TheVariants as unread
use Rattle.ufs_model.specs.declared.asked.Event.{Event}
use Rattle.ufs_model.specs.declared.asked.Event.TheVariants as events
use Rattle.ufs_model.specs.Spoken.{Reading, Is, Unbound, Bad, number_in, byte_in}
use Rattle.trail_text.specs.declared.ends.Opening.{Opening}
use Rattle.trail_text.specs.declared.shape.Form.{Form}
use Rattle.trail_text.specs.declared.shape.Form.TheVariants as forms
use Rattle.trail_text.specs.EventLine.{event_line, fits, form_told, request_words}

-- the parts between spaces
abbrev pub words_in : List ℕ → List (List ℕ)
words_in line = slice_split (λ c. c == 32) line

abbrev pub texts : List (Bor (List ℕ)) → List (List ℕ)
texts words = map (λ w. w.now) words

-- the line is not the line of anything that fits
abbrev pub IsNoneOf : {A : Type 0} → (fitting : A → Bool) → (line_of : A → List ℕ) → (line : List ℕ) → Type 0
IsNoneOf {A} fitting line_of line = (a : A) → fitting a ≡ true → line ≢ line_of a

abbrev pub IsNoLine : List ℕ → Type 0
IsNoLine line = IsNoneOf fits event_line line

-- ---- words

-- the word at this place, which is empty past the last
abbrev pub word_at : List (List ℕ) → ℕ → List ℕ
word_at ws i = get_or ws i []

abbrev pub is : List ℕ → List ℕ → Bool
is w text = bytes_eq w text

abbrev pub read_or : {A : Type 0} → A → Reading A → A
read_or x (Is y) = y
read_or x Unbound = x
read_or x Bad = x

abbrev pub number_read : List ℕ → ℕ
number_read w = read_or 0 (number_in w)

abbrev pub if_below : ℕ → ℕ → ℕ
if_below n most = if nat_lt n most then n else 0

abbrev pub read_32 : List ℕ → ℕ
read_32 w = if_below (number_read w) (2 ^ 32)

abbrev pub read_8 : List ℕ → ℕ
read_8 w = if_below (number_read w) (2 ^ 8)

-- a number, if there is a word
abbrev pub number_if_any : List ℕ → Option ℕ
number_if_any w = if length w == 0 then None else Some (number_read w)

abbrev pub byte_read : List ℕ → ℕ
byte_read w = read_or 0 (byte_in w)

abbrev pub bytes_read : List ℕ → List ℕ
bytes_read w = result_unwrap_or (decode_of w) []

-- the identifier with these 8 bytes
abbrev pub id_of_bytes : List ℕ → Puid
id_of_bytes bytes = record { block = from_be_bytes w32 (take 4 bytes); word = from_be_bytes w32 (drop 4 bytes) }

abbrev pub id_read : List ℕ → Puid
id_read w = id_of_bytes (result_unwrap_or (decode_sized w 8) [])

abbrev pub as_grant : Puid → Tuid
as_grant id = record { draw = id.block; word = id.word }

-- a mark, and the digits after it
abbrev pub grant_read : List ℕ → Tuid
grant_read w = as_grant (id_read (drop 1 w))

-- a grant has one digit more than an identifier
abbrev pub ref_read : List ℕ → Ref
ref_read w = if length w == 17 then Through (grant_read w) else Direct (id_read w)

abbrev pub kind_read : List ℕ → FileKind
kind_read w = if is w (codes "normal") then kinds.Normal else kinds.Special

abbrev pub mode_read : List ℕ → Mode
mode_read w = if is w (codes "read") then modes.Reading else modes.Writing

abbrev pub unread_read : List ℕ → Unread
unread_read w =
    if is w (codes "syntax") then unread.Syntax else if is w (codes "name") then unread.NoName else unread.Memory

-- ---- requests and replies

-- a request by its verb, the object that is named first, a slot of it or a place in it, and one more word
abbrev pub request_on : (verb : List ℕ) → Ref → ℕ → (c : List ℕ) → Request
request_on verb to at c =
    if is verb (codes "retain") then asks.Retain to at (id_read c) else
    if is verb (codes "retrieve") then asks.Retrieve to at else
    if is verb (codes "delete") then asks.Delete to at else
    if is verb (codes "slots") then asks.Slots to else
    if is verb (codes "read") then asks.Read to at (number_read c) else
    if is verb (codes "size") then asks.Size to else
    asks.Resize to at

-- a request by its verb and the words after it, unless it has bytes
abbrev pub request_of : (verb a b c d : List ℕ) → Request
request_of verb a b c d =
    if is verb (codes "create-file") then asks.CreateFile (kind_read a) (byte_read b) (ref_read c) (number_read d) else
    if is verb (codes "create-index") then asks.CreateIndex (number_read a) (ref_read b) (number_read c) else
    if is verb (codes "open") then asks.OpenFor (id_read a) (mode_read b) else
    if is verb (codes "close") then asks.Close (grant_read a) (is b (codes "commit")) else
    request_on verb (ref_read a) (number_read b) c

abbrev pub request_read : List (List ℕ) → Request
request_read ws =
    if is (word_at ws 0) (codes "write") then
    asks.Write (ref_read (word_at ws 1)) (number_read (word_at ws 2)) (bytes_read (word_at ws 3)) else
    request_of (word_at ws 0) (word_at ws 1) (word_at ws 2) (word_at ws 3) (word_at ws 4)

-- an ok of this form
abbrev pub ok_read : Form → List ℕ → Reply
ok_read forms.Nothing w = replies.Done
ok_read forms.Id w = replies.Id (id_read w)
ok_read forms.Grant w = replies.Grant (as_grant (id_read w))
ok_read forms.Number w = replies.Number (number_read w)
ok_read forms.Content w = replies.Content (bytes_read w)

abbrev pub refusal_read : List (List ℕ) → Reply
refusal_read ws =
    let why = word_at ws 1 in
    let a = word_at ws 2 in
    if is why (codes "memory") then replies.Memory else
    if is why (codes "stopped") then replies.Stopped (number_read a) else
    if is why (codes "grant") then replies.NoGrant else
    if is why (codes "object") then replies.NoObject else
    if is why (codes "not-index") then replies.NotIndex else
    if is why (codes "not-file") then replies.NotFile else
    if is why (codes "read-only") then replies.ReadOnly else
    if is why (codes "locked") then replies.Locked else
    if is why (codes "slot") then replies.Slot else
    if is why (codes "empty") then replies.Empty else
    if is why (codes "range") then replies.Range else
    if is why (codes "grants") then replies.Grants else
    if is why (codes "full") then replies.Full (record { free = read_32 a; need = read_32 (word_at ws 3) }) else
    if is why (codes "disk") then replies.Disk (number_if_any a) else
    replies.Damaged (record { block = read_32 a; code = read_8 (word_at ws 3) }) (number_read (word_at ws 4))

abbrev pub reply_read : Form → List (List ℕ) → Reply
reply_read form ws = if is (word_at ws 0) (codes "ok") then ok_read form (word_at ws 1) else refusal_read ws

-- ---- events

-- a request after two words, and its reply after it and one more word
abbrev pub ask_read : List (List ℕ) → Event
ask_read ws =
    let request = request_read (drop 2 ws) in
    let told = drop 1 (drop (length (request_words request)) (drop 2 ws)) in
    events.Ask (read_32 (word_at ws 1)) request (reply_read (form_told request) told)

abbrev pub small_event_read : List (List ℕ) → Event
small_event_read ws =
    let verb = word_at ws 0 in
    let a = word_at ws 1 in
    if is verb (codes "unread") then events.Unread (read_32 a) (unread_read (word_at ws 2)) else
    if is verb (codes "leave") then events.Leave (read_32 a) (number_if_any (word_at ws 2)) else
    if is verb (codes "began") then events.Began else
    if is verb (codes "finished") then events.Finished else
    events.Halted (number_read a)

abbrev pub event_read : List (List ℕ) → Event
event_read ws =
    if is (word_at ws 0) (codes "ask") then ask_read ws else
    if is (word_at ws 0) (codes "vanish") then events.Vanish (map id_read (drop 2 ws)) else
    small_event_read ws

-- ---- the first line and the last

abbrev pub opening_read : List (List ℕ) → Opening
opening_read ws = record { cylinders = read_32 (word_at ws 1); seed = number_read (word_at ws 2) }

abbrev pub status_read : List (List ℕ) → ℕ
status_read ws = read_8 (word_at ws 1)
