-- The line of an event, without its end, and which events fit one.
use Rattle.std.specs.Prelude.{◌≡◌, refl, ℕ, ◌^◌, Bool, true, false, not, ◌&&◌, ◌==◌, nat_lt, List, [], ◌∷◌, ◌++◌}
use Rattle.std.specs.Prelude.{Some, None, codes, length, map}
use Rattle.std.specs.Fmt.{decimal}
use Rattle.std.specs.List.{flat_map, join_with_byte, list_all}
use Rattle.hex.specs.Hex.{encode_lower}
use Rattle.cfs_base.specs.declared.kind.FileKind.{FileKind}
use Rattle.cfs_base.specs.declared.kind.FileKind.TheVariants as kinds
use Rattle.cfs_base.specs.declared.kind.Mode.{Mode}
use Rattle.cfs_base.specs.declared.kind.Mode.TheVariants as modes
use Rattle.ufs_model.specs.declared.asked.Ref.{Ref}
use Rattle.ufs_model.specs.declared.asked.Ref.TheVariants.{Direct, Through}
use Rattle.ufs_model.specs.declared.asked.Request.{Request}
use Rattle.ufs_model.specs.declared.asked.Request.TheVariants as asks
use Rattle.ufs_model.specs.declared.asked.Reply.{Reply}
use Rattle.ufs_model.specs.declared.asked.Reply.TheVariants as replies
use Rattle.ufs_model.specs.declared.asked.Unread.{Unread}
use Rattle.ufs_model.specs.declared.asked.Unread.TheVariants as unread
use Rattle.ufs_model.specs.declared.asked.Event.{Event}
use Rattle.ufs_model.specs.declared.asked.Event.TheVariants as events
use Rattle.ufs_model.specs.Identifier.{ids_rise}
use Rattle.ufs_model.specs.Printed.{id_digits}
use Rattle.trail_text.specs.declared.shape.Form.{Form}
use Rattle.trail_text.specs.declared.shape.Form.TheVariants as forms
use Rattle.trail_text.specs.declared.word.Word.{Word}
use Rattle.trail_text.specs.declared.word.Word.TheVariants as words

-- ---- how wide numbers are

abbrev pub in_8 : ℕ → Bool
in_8 n = nat_lt n (2 ^ 8)

abbrev pub in_32 : ℕ → Bool
in_32 n = nat_lt n (2 ^ 32)

abbrev pub in_64 : ℕ → Bool
in_64 n = nat_lt n (2 ^ 64)

abbrev pub ref_within : Ref → Bool
ref_within (Direct id) = in_32 id.block && in_32 id.word
ref_within (Through t) = in_32 t.draw && in_32 t.word

abbrev pub bytes_within : List ℕ → Bool
bytes_within bytes = list_all in_8 bytes

-- ---- words: numbers are decimal, bytes and identifiers hexadecimal in lower case, and a grant is marked by a `g`

-- neither a space nor a line's end is in it
abbrev pub is_word_byte : ℕ → Bool
is_word_byte c = not (c == 32) && not (c == 10)

abbrev pub is_clear : List ℕ → Bool
is_clear w = list_all is_word_byte w

-- a word of the grammar; a number of 64, 32 or 8 bits; an identifier or a grant; one byte, or bytes
pub data Token : Type 0 where
  Text : (text : List ℕ) → is_clear text ≡ true → Token
  Kind : FileKind → Token
  For : Mode → Token
  Commit : Bool → Token
  Why : Unread → Token
  Number : ℕ → Token
  Small : ℕ → Token
  Code : ℕ → Token
  To : Ref → Token
  Byte : ℕ → Token
  Hex : List ℕ → Token

abbrev pub spell : Token → List ℕ
spell (Text text clear) = text
spell (Kind kinds.Normal) = codes "normal"
spell (Kind kinds.Special) = codes "special"
spell (For modes.Reading) = codes "read"
spell (For modes.Writing) = codes "write"
spell (Commit true) = codes "commit"
spell (Commit false) = codes "abort"
spell (Why unread.Syntax) = codes "syntax"
spell (Why unread.NoName) = codes "name"
spell (Why unread.Memory) = codes "memory"
spell (Number n) = decimal n
spell (Small n) = decimal n
spell (Code n) = decimal n
spell (To (Direct id)) = id_digits id.block id.word
spell (To (Through t)) = codes "g" ++ id_digits t.draw t.word
spell (Byte b) = encode_lower (b ∷ [])
spell (Hex bytes) = encode_lower bytes

-- it is as wide as its type
abbrev pub is_within : Token → Bool
is_within (Number n) = in_64 n
is_within (Small n) = in_32 n
is_within (Code n) = in_8 n
is_within (To ref) = ref_within ref
is_within (Byte b) = in_8 b
is_within (Hex bytes) = bytes_within bytes
is_within token = true

-- ---- requests as they are asked, without the name that a reply binds, and replies as they are written

abbrev pub request_tokens : Request → List Token
request_tokens (asks.CreateFile kind fill index slot) =
    Text (codes "create-file") refl ∷ Kind kind ∷ Byte fill ∷ To index ∷ Number slot ∷ []
request_tokens (asks.CreateIndex slots index slot) =
    Text (codes "create-index") refl ∷ Number slots ∷ To index ∷ Number slot ∷ []
request_tokens (asks.Retain index slot id) = Text (codes "retain") refl ∷ To index ∷ Number slot ∷ To (Direct id) ∷ []
request_tokens (asks.Retrieve index slot) = Text (codes "retrieve") refl ∷ To index ∷ Number slot ∷ []
request_tokens (asks.Delete index slot) = Text (codes "delete") refl ∷ To index ∷ Number slot ∷ []
request_tokens (asks.Slots index) = Text (codes "slots") refl ∷ To index ∷ []
request_tokens (asks.OpenFor id mode) = Text (codes "open") refl ∷ To (Direct id) ∷ For mode ∷ []
request_tokens (asks.Close grant commit) = Text (codes "close") refl ∷ To (Through grant) ∷ Commit commit ∷ []
request_tokens (asks.Read file offset count) = Text (codes "read") refl ∷ To file ∷ Number offset ∷ Number count ∷ []
request_tokens (asks.Write file offset bytes) = Text (codes "write") refl ∷ To file ∷ Number offset ∷ Hex bytes ∷ []
request_tokens (asks.Size file) = Text (codes "size") refl ∷ To file ∷ []
request_tokens (asks.Resize file size) = Text (codes "resize") refl ∷ To file ∷ Number size ∷ []

abbrev pub ok : List Token → List Token
ok tokens = Text (codes "ok") refl ∷ tokens

abbrev pub no : (why : List ℕ) → is_clear why ≡ true → List Token → List Token
no why clear tokens = Text (codes "no") refl ∷ Text why clear ∷ tokens

abbrev pub reply_tokens : Reply → List Token
reply_tokens replies.Done = ok []
reply_tokens (replies.Id id) = ok (To (Direct id) ∷ [])
reply_tokens (replies.Grant t) = ok (To (Direct (record { block = t.draw; word = t.word })) ∷ [])
reply_tokens (replies.Number n) = ok (Number n ∷ [])
reply_tokens (replies.Content bytes) = ok (Hex bytes ∷ [])
reply_tokens replies.Memory = no (codes "memory") refl []
reply_tokens (replies.Stopped moment) = no (codes "stopped") refl (Number moment ∷ [])
reply_tokens replies.NoGrant = no (codes "grant") refl []
reply_tokens replies.NoObject = no (codes "object") refl []
reply_tokens replies.NotIndex = no (codes "not-index") refl []
reply_tokens replies.NotFile = no (codes "not-file") refl []
reply_tokens replies.ReadOnly = no (codes "read-only") refl []
reply_tokens replies.Locked = no (codes "locked") refl []
reply_tokens replies.Slot = no (codes "slot") refl []
reply_tokens replies.Empty = no (codes "empty") refl []
reply_tokens replies.Range = no (codes "range") refl []
reply_tokens replies.Grants = no (codes "grants") refl []
reply_tokens (replies.Full n) = no (codes "full") refl (Small n.free ∷ Small n.need ∷ [])
reply_tokens (replies.Disk None) = no (codes "disk") refl []
reply_tokens (replies.Disk (Some moment)) = no (codes "disk") refl (Number moment ∷ [])
reply_tokens (replies.Damaged damage moment) =
    no (codes "damaged") refl (Small damage.block ∷ Code damage.code ∷ Number moment ∷ [])

abbrev pub request_words : Request → List (List ℕ)
request_words request = map spell (request_tokens request)

abbrev pub reply_words : Reply → List (List ℕ)
reply_words reply = map spell (reply_tokens reply)

-- ---- lines

-- a first word, and the words after it
pub record Row : Type 0 where
  pub verb : List ℕ
  pub clear : is_clear verb ≡ true
  pub words : List Token

abbrev pub row_with : (verb : List ℕ) → is_clear verb ≡ true → List Token → Row
row_with verb clear words = record { verb = verb; clear = clear; words = words }

abbrev pub row_words : Row → List (List ℕ)
row_words r = r.verb ∷ map spell r.words

-- the words, with one space between two
abbrev pub row_line : Row → List ℕ
row_line r = join_with_byte 32 (row_words r)

abbrev pub event_row : Event → Row
event_row (events.Unread who why) = row_with (codes "unread") refl (Small who ∷ Why why ∷ [])
event_row (events.Ask who request reply) =
    row_with (codes "ask") refl (Small who ∷ (request_tokens request ++ Text (codes "=") refl ∷ reply_tokens reply))
event_row (events.Leave who None) = row_with (codes "leave") refl (Small who ∷ [])
event_row (events.Leave who (Some moment)) = row_with (codes "leave") refl (Small who ∷ Number moment ∷ [])
event_row events.Began = row_with (codes "began") refl []
event_row (events.Vanish ids) =
    row_with (codes "vanish") refl (Number (length ids) ∷ map (λ id. To (Direct id)) ids)
event_row events.Finished = row_with (codes "finished") refl []
event_row (events.Halted moment) = row_with (codes "halted") refl (Number moment ∷ [])

abbrev pub event_line : Event → List ℕ
event_line event = row_line (event_row event)

-- ---- which events fit: numbers are within their widths, as those of every event in the server are

abbrev pub are_within : List Token → Bool
are_within tokens = list_all is_within tokens

abbrev pub request_within : Request → Bool
request_within request = are_within (request_tokens request)

abbrev pub reply_within : Reply → Bool
reply_within reply = are_within (reply_tokens reply)

abbrev pub event_within : Event → Bool
event_within event = are_within (event_row event).words

-- the form of an ok reply is that of its request, there is at least one byte, and what vanishes increases

-- what an ok to the request reports
abbrev pub form_told : Request → Form
form_told (asks.CreateFile kind fill index slot) = forms.Id
form_told (asks.CreateIndex slots index slot) = forms.Id
form_told (asks.Retrieve index slot) = forms.Id
form_told (asks.OpenFor id mode) = forms.Grant
form_told (asks.Slots index) = forms.Number
form_told (asks.Size file) = forms.Number
form_told (asks.Read file offset count) = forms.Content
form_told request = forms.Nothing

abbrev pub reply_shaped : Reply → Form → Bool
reply_shaped replies.Done forms.Nothing = true
reply_shaped replies.Done form = false
reply_shaped (replies.Id id) forms.Id = true
reply_shaped (replies.Id id) form = false
reply_shaped (replies.Grant t) forms.Grant = true
reply_shaped (replies.Grant t) form = false
reply_shaped (replies.Number n) forms.Number = true
reply_shaped (replies.Number n) form = false
reply_shaped (replies.Content bytes) forms.Content = nat_lt 0 (length bytes)
reply_shaped (replies.Content bytes) form = false
reply_shaped reply form = true

abbrev pub request_shaped : Request → Bool
request_shaped (asks.Write file offset bytes) = nat_lt 0 (length bytes)
request_shaped request = true

abbrev pub event_shaped : Event → Bool
event_shaped (events.Ask who request reply) = request_shaped request && reply_shaped reply (form_told request)
event_shaped (events.Vanish ids) = ids_rise ids
event_shaped event = true

-- ---- both

abbrev pub fits : Event → Bool
fits event = event_within event && event_shaped event

-- ---- words that are appended to a line

-- the letters of a word
abbrev pub letters : Word → List ℕ
letters (words.Text text) = text.now
letters (words.Kind kind) = spell (Kind kind)
letters (words.For mode) = spell (For mode)
letters (words.Commit commit) = spell (Commit commit)
letters (words.Why why) = spell (Why why)
letters (words.Number n) = decimal n
letters (words.Small n) = decimal n
letters (words.Code n) = decimal n
letters (words.To ref) = spell (To ref)
letters (words.Byte b) = encode_lower (b ∷ [])
letters (words.Hex bytes) = encode_lower bytes.now

-- it is as wide as its type
abbrev pub word_within : Word → Bool
word_within (words.Number n) = in_64 n
word_within (words.Small n) = in_32 n
word_within (words.Code n) = in_8 n
word_within (words.To ref) = ref_within ref
word_within (words.Byte b) = in_8 b
word_within (words.Hex bytes) = bytes_within bytes.now
word_within word = true

-- words, a space before each
abbrev pub spaced : List (List ℕ) → List ℕ
spaced words = flat_map (λ w. 32 ∷ w) words
