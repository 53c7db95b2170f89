-- Each word is read as what it was written for, and so are the words of an event, of a first line and of a last.
use Rattle.std.proofs.Common.{Bool, List, None, Ok, Some, [], ap, arith, drop, false, get_or, length, map, refl, suc, sym, true, zero, ℕ, ◌&&◌, ◌++◌, ◌<◌, ◌==◌, ◌^◌, ◌∙◌, ◌∷◌, ◌≡◌, ◌≢◌}
use Rattle.trail_text.proofs.Words.{Direct, Event, FileKind, Form, IsBytes, IsNoneOf, Mode, Opening, Puid, Ref, Reply, Request, Through, Token, Tuid, Unread, and_from, and_parts, are_within, as_grant, byte_at, byte_read, bytes_eq, bytes_eq-Decides, bytes_high_first, bytes_read, bytes_within, codes, decimal, decimal_is_IsNumeral, decode_of-encode_lower, decode_of-ok, decode_sized, decode_sized-encode_lower, decode_sized-ok, decode_sized-twice, digits_decimal, digits_value-decimal, eight, encode_lower, eqb-true, event_line, event_read, event_row, event_shaped, event_within, false_from_ne_true, false≢true, fits, form_told, from_be_bytes, from_be_bytes-to_be_bytes_4, has_no_end, id_digits, id_of_bytes, id_read, in_32, in_64, in_8, is, is_within, kind_read, le-leb, leb-true, length-decimal-le, length-encode_with, list_all-append, lower_digits, lt-ltb, ltb-true, map-append, mode_read, nat_le, nat_lt, number_if_any, number_read, opening_fits, opening_line, opening_read, opening_row, own, read_32, read_8, ref_read, ref_within, reply_read, reply_shaped, reply_tokens, reply_within, reply_words, request_read, request_shaped, request_tokens, request_within, request_words, spell, status_line, status_read, status_row, to_be_bytes, true≢false, unread_read, w32, words_in, row_words}
use Rattle.cfs_base.specs.declared.kind.FileKind.TheVariants as kinds
use Rattle.cfs_base.specs.declared.kind.Mode.TheVariants as modes
use Rattle.ufs_model.specs.declared.asked.Unread.TheVariants as unread
use Rattle.ufs_model.specs.declared.asked.Request.TheVariants as asks
use Rattle.ufs_model.specs.declared.asked.Reply.TheVariants as replies
use Rattle.ufs_model.specs.declared.asked.Event.TheVariants as events
use Rattle.trail_text.specs.declared.shape.Form.TheVariants as forms
use Rattle.trail_text.specs.EventLine as tokens
use Rattle.trail_text.proofs.Clear.{line_cut, line_no_end}

and_3 : (x y z : Bool) → (x && y && z) ≡ true → (x ≡ true) × (y ≡ true) × (z ≡ true)
and_3 true true true h = (refl, refl, refl)
and_3 true true false h = absurd (false≢true h)
and_3 true false z h = absurd (false≢true h)
and_3 false y z h = absurd (false≢true h)

-- what is said of the words of a request or of a reply, each
all_1 : {x : Bool} → (x && true) ≡ true → x ≡ true
all_1 {x} h = (and_parts x true h).0

all_2 : (x y : Bool) → (x && (y && true)) ≡ true → (x ≡ true) × (y ≡ true)
all_2 x y h = let two = and_parts x (y && true) h in (two.0, all_1 two.1)

all_3 : (x y z : Bool) → (x && (y && (z && true))) ≡ true → (x ≡ true) × (y ≡ true) × (z ≡ true)
all_3 x y z h = let two = and_parts x (y && (z && true)) h in let rest = all_2 y z two.1 in (two.0, rest.0, rest.1)

-- ---- numbers

number_back : (n : ℕ) → in_64 n ≡ true → number_read (decimal n) ≡ n
number_back n within =
    let small : n < 2 ^ 64 = ltb-true n (2 ^ 64) within in
    let some = lt-ltb 0 (length (decimal n)) (decimal_is_IsNumeral n small).0.0 in
    let short = le-leb (length (decimal n)) 20 (length-decimal-le 20 n (omega arith) (omega (arith, small)) small) in
    let digits = digits_decimal own n small in
    let value = digits_value-decimal own n small in
    rw (some, short, digits, value, within) refl

back_32 : (n : ℕ) → in_32 n ≡ true → read_32 (decimal n) ≡ n
back_32 n within =
    let small : n < 2 ^ 32 = ltb-true n (2 ^ 32) within in
    let number = number_back n (lt-ltb n (2 ^ 64) (omega (arith, small))) in
    rw (number, within) refl

back_8 : (n : ℕ) → in_8 n ≡ true → read_8 (decimal n) ≡ n
back_8 n within =
    let small : n < 2 ^ 8 = ltb-true n (2 ^ 8) within in
    let number = number_back n (lt-ltb n (2 ^ 64) (omega (arith, small))) in
    rw (number, within) refl

-- ---- bytes

IsBytes-from_within : (bytes : List ℕ) → bytes_within bytes ≡ true → IsBytes bytes
IsBytes-from_within [] within i = omega arith
IsBytes-from_within (b ∷ bytes) within zero = ltb-true b 256 (and_parts (in_8 b) (bytes_within bytes) within).0
IsBytes-from_within (b ∷ bytes) within (suc i) = IsBytes-from_within bytes (and_parts (in_8 b) (bytes_within bytes) within).1 i

bytes_back : (bytes : List ℕ) → bytes_within bytes ≡ true → bytes_read (encode_lower bytes) ≡ bytes
bytes_back bytes within = rw (decode_of-encode_lower bytes (IsBytes-from_within bytes within)) refl

byte_back : (b : ℕ) → in_8 b ≡ true → byte_read (encode_lower (b ∷ [])) ≡ b
byte_back b within =
    let long : length (encode_lower (b ∷ [])) ≡ 2 = length-encode_with lower_digits (b ∷ []) in
    let decoded = decode_of-encode_lower (b ∷ []) (IsBytes-from_within (b ∷ []) (rw within refl)) in
    rw (decoded, long) refl

-- ---- identifiers

a_byte : (k n : ℕ) → byte_at k n < 256
a_byte zero n = omega arith
a_byte (suc k) n = omega arith

are_bytes : (k n : ℕ) (rest : List ℕ) → IsBytes rest → IsBytes (bytes_high_first k n ++ rest)
are_bytes zero n rest h i = h i
are_bytes (suc k) n rest h zero = a_byte k n
are_bytes (suc k) n rest h (suc i) = are_bytes k n rest h i

no_bytes : IsBytes []
no_bytes i = omega arith

abbrev id_bytes : ℕ → ℕ → List ℕ
id_bytes high low = to_be_bytes w32 high ++ to_be_bytes w32 low

long_16 : (high low : ℕ) → length (id_digits high low) ≡ 16
long_16 high low = length-encode_with lower_digits (id_bytes high low)

id_back : (id : Puid) → ref_within (Direct id) ≡ true → id_read (id_digits id.block id.word) ≡ id
id_back id within =
    let parts = and_parts (in_32 id.block) (in_32 id.word) within in
    let high = from_be_bytes-to_be_bytes_4 id.block (ltb-true id.block (2 ^ 32) parts.0) in
    let low = from_be_bytes-to_be_bytes_4 id.word (ltb-true id.word (2 ^ 32) parts.1) in
    let bytes = id_bytes id.block id.word in
    let each : IsBytes bytes = are_bytes 4 id.block (to_be_bytes w32 id.word) (are_bytes 4 id.word [] no_bytes) in
    let sized = decode_sized-encode_lower bytes 8 refl each in
    rw (sized, high, low) refl

pub id_decoded : (word bytes : List ℕ) → decode_sized word 8 ≡ Ok bytes
    → id_read word ≡ record {
      block = from_be_bytes w32 (get_or bytes 0 0 ∷ get_or bytes 1 0 ∷ get_or bytes 2 0 ∷ get_or bytes 3 0 ∷ []);
      word = from_be_bytes w32 (get_or bytes 4 0 ∷ get_or bytes 5 0 ∷ get_or bytes 6 0 ∷ get_or bytes 7 0 ∷ []);
    }
id_decoded word bytes h =
    let long = decode_sized-ok word 8 bytes h in
    let half = (decode_of-ok word bytes (sym (decode_sized-twice word 8 long) ∙ h)).2 in
    rw h (ap id_of_bytes (eight bytes (omega (arith, long, half))))

grant_back : (t : Tuid) → ref_within (Through t) ≡ true → as_grant (id_read (id_digits t.draw t.word)) ≡ t
grant_back t within = ap as_grant (id_back (record { block = t.draw; word = t.word }) within)

ref_back : (ref : Ref) → ref_within ref ≡ true → ref_read (spell (tokens.To ref)) ≡ ref
ref_back (Direct id) within = rw (id_back id within, long_16 id.block id.word) refl
ref_back (Through t) within = rw (grant_back t within, long_16 t.draw t.word) refl

-- ---- words of the grammar

kind_back : (kind : FileKind) → kind_read (spell (tokens.Kind kind)) ≡ kind
kind_back kinds.Normal = refl
kind_back kinds.Special = refl

mode_back : (mode : Mode) → mode_read (spell (tokens.For mode)) ≡ mode
mode_back modes.Reading = refl
mode_back modes.Writing = refl

commit_back : (commit : Bool) → is (spell (tokens.Commit commit)) (codes "commit") ≡ commit
commit_back true = refl
commit_back false = refl

unread_back : (why : Unread) → unread_read (spell (tokens.Why why)) ≡ why
unread_back unread.Syntax = refl
unread_back unread.NoName = refl
unread_back unread.Memory = refl

-- ---- requests

request_back : (request : Request) (more : List (List ℕ)) → request_within request ≡ true
    → request_read (request_words request ++ more) ≡ request
request_back (asks.CreateFile kind fill index slot) more h =
    let parts = all_3 (in_8 fill) (ref_within index) (in_64 slot) h in rw (kind_back kind, byte_back fill parts.0, ref_back index parts.1, number_back slot parts.2) refl
request_back (asks.CreateIndex slots index slot) more h =
    let parts = all_3 (in_64 slots) (ref_within index) (in_64 slot) h in rw (number_back slots parts.0, ref_back index parts.1, number_back slot parts.2) refl
request_back (asks.Retain index slot id) more h =
    let parts = all_3 (ref_within index) (in_64 slot) (ref_within (Direct id)) h in rw (ref_back index parts.0, number_back slot parts.1, id_back id parts.2) refl
request_back (asks.Retrieve index slot) more h =
    let parts = all_2 (ref_within index) (in_64 slot) h in rw (ref_back index parts.0, number_back slot parts.1) refl
request_back (asks.Delete index slot) more h =
    let parts = all_2 (ref_within index) (in_64 slot) h in rw (ref_back index parts.0, number_back slot parts.1) refl
request_back (asks.Slots index) more h = rw (ref_back index (all_1 h)) refl
request_back (asks.OpenFor id mode) more h = rw (id_back id (all_1 h), mode_back mode) refl
request_back (asks.Close grant commit) more h = rw (grant_back grant (all_1 h), commit_back commit) refl
request_back (asks.Read file offset count) more h =
    let parts = all_3 (ref_within file) (in_64 offset) (in_64 count) h in rw (ref_back file parts.0, number_back offset parts.1, number_back count parts.2) refl
request_back (asks.Write file offset bytes) more h =
    let parts = all_3 (ref_within file) (in_64 offset) (bytes_within bytes) h in rw (ref_back file parts.0, number_back offset parts.1, bytes_back bytes parts.2) refl
request_back (asks.Size file) more h = rw (ref_back file (all_1 h)) refl
request_back (asks.Resize file size) more h =
    let parts = all_2 (ref_within file) (in_64 size) h in rw (ref_back file parts.0, number_back size parts.1) refl

-- ---- replies

any_back : (n : ℕ) → in_64 n ≡ true → number_if_any (decimal n) ≡ Some n
any_back n h =
    let some = (decimal_is_IsNumeral n (ltb-true n (2 ^ 64) h)).0.0 in
    let not_none : (length (decimal n) == 0) ≡ false = false_from_ne_true (length (decimal n) == 0) (λ same. let is = eqb-true (length (decimal n)) 0 same in omega (arith, some, is)) in
    rw (not_none, number_back n h) refl

reply_back : (form : Form) (reply : Reply) → reply_within reply ≡ true → reply_shaped reply form ≡ true
    → reply_read form (reply_words reply) ≡ reply
reply_back forms.Nothing replies.Done h i = refl
reply_back form replies.Done h i = absurd (false≢true i)
reply_back forms.Id (replies.Id id) h i = rw (id_back id (all_1 h)) refl
reply_back form (replies.Id id) h i = absurd (false≢true i)
reply_back forms.Grant (replies.Grant t) h i = rw (grant_back t (all_1 h)) refl
reply_back form (replies.Grant t) h i = absurd (false≢true i)
reply_back forms.Number (replies.Number n) h i = rw (number_back n (all_1 h)) refl
reply_back form (replies.Number n) h i = absurd (false≢true i)
reply_back forms.Content (replies.Content bytes) h i = rw (bytes_back bytes (all_1 h)) refl
reply_back form (replies.Content bytes) h i = absurd (false≢true i)
reply_back form (replies.Stopped moment) h i = rw (number_back moment (all_1 h)) refl
reply_back form (replies.Full n) h i =
    let parts = all_2 (in_32 n.free) (in_32 n.need) h in rw (back_32 n.free parts.0, back_32 n.need parts.1) refl
reply_back form (replies.Disk None) h i = refl
reply_back form (replies.Disk (Some moment)) h i = rw (any_back moment (all_1 h)) refl
reply_back form (replies.Damaged damage moment) h i =
    let parts = all_3 (in_32 damage.block) (in_8 damage.code) (in_64 moment) h in rw (back_32 damage.block parts.0, back_8 damage.code parts.1, number_back moment parts.2) refl
reply_back form reply h i = refl

-- ---- events

ids_back : (ids : List Puid) → are_within (map (λ id. tokens.To (Direct id)) ids) ≡ true → map id_read (map spell (map (λ id. tokens.To (Direct id)) ids)) ≡ ids
ids_back [] h = refl
ids_back (id ∷ ids) h =
    let parts = and_parts (ref_within (Direct id)) (are_within (map (λ i. tokens.To (Direct i)) ids)) h in
    rw (id_back id parts.0, ids_back ids parts.1) refl

behind : (xs : List (List ℕ)) (ys : List (List ℕ)) → drop (length xs) (xs ++ ys) ≡ ys
behind [] ys = refl
behind (x ∷ xs) ys = behind xs ys

event_back : (event : Event) → event_within event ≡ true → event_shaped event ≡ true → event_read (row_words (event_row event)) ≡ event
event_back (events.Unread who why) h i = rw (back_32 who (all_1 h), unread_back why) refl
event_back (events.Ask who request reply) h i =
    let parts = and_parts (in_32 who) (are_within (request_tokens request ++ eq ∷ reply_tokens reply)) h in
    let told = and_parts (request_within request) (are_within (eq ∷ reply_tokens reply)) (sym (list_all-append is_within (request_tokens request) (eq ∷ reply_tokens reply)) ∙ parts.1) in
    let shapes = and_parts (request_shaped request) (reply_shaped reply (form_told request)) i in
    rw (
      map-append spell (request_tokens request) (eq ∷ reply_tokens reply),
      back_32 who parts.0,
      request_back request (codes "=" ∷ reply_words reply) told.0,
      behind (request_words request) (codes "=" ∷ reply_words reply),
      reply_back (form_told request) reply told.1 shapes.1,
    ) refl
  where
    eq : Token
    eq = tokens.Text (codes "=") refl
event_back (events.Leave who None) h i = rw (back_32 who (all_1 h)) refl
event_back (events.Leave who (Some moment)) h i =
    let parts = all_2 (in_32 who) (in_64 moment) h in rw (back_32 who parts.0, any_back moment parts.1) refl
event_back events.Began h i = refl
event_back (events.Vanish ids) h i = rw (ids_back ids (and_parts (in_64 (length ids)) (are_within (map (λ id. tokens.To (Direct id)) ids)) h).1) refl
event_back events.Finished h i = refl
event_back (events.Halted moment) h i = rw (number_back moment (all_1 h)) refl

-- ---- each line is read as what it is the line of

pub line_back : (event : Event) → fits event ≡ true → event_read (words_in (event_line event)) ≡ event
line_back event h =
    let parts = and_parts (event_within event) (event_shaped event) h in
    ap event_read (line_cut (event_row event) parts.0) ∙ event_back event parts.0 parts.1

module _ (o : Opening) (h : opening_fits o ≡ true) where
  narrow : (in_32 o.cylinders ≡ true) × (in_64 o.seed ≡ true)
  narrow =
      let parts = and_3 (nat_lt 0 o.cylinders) (nat_le o.cylinders 1024) (in_64 o.seed) h in
      let few = leb-true o.cylinders 1024 parts.1 in
      (lt-ltb o.cylinders 4294967296 (omega (arith, few)), parts.2)

  opening_within : are_within (opening_row o).words ≡ true
  opening_within = and_from (in_32 o.cylinders) (in_64 o.seed && true) narrow.0 (and_from (in_64 o.seed) true narrow.1 refl)

  pub opening_back : opening_read (words_in (opening_line o)) ≡ o
  opening_back = ap opening_read (line_cut (opening_row o) opening_within) ∙ rw (back_32 o.cylinders narrow.0, number_back o.seed narrow.1) refl

module _ (n : ℕ) (h : in_8 n ≡ true) where
  status_within : are_within (status_row n).words ≡ true
  status_within = and_from (in_8 n) true h refl

  pub status_back : status_read (words_in (status_line n)) ≡ n
  status_back = ap status_read (line_cut (status_row n) status_within) ∙ back_8 n h

-- no event's line begins as the last does
pub no_event_ends : (event : Event) (n : ℕ) → event_line event ≢ status_line n
no_event_ends event n e = starts event (ap (λ t. get_or t 0 0) e)
  where
    starts : (event : Event) → get_or (event_line event) 0 0 ≢ 115
    starts (events.Leave who None) e = omega (arith, e)
    starts (events.Leave who (Some moment)) e = omega (arith, e)
    starts event e = omega (arith, e)

-- ---- what lines tell

module _ {A : Type 0} (fits : A → Bool) (line_of : A → List ℕ) (read : List ℕ → A) (back : (a : A) → fits a ≡ true → read (line_of a) ≡ a) where
  -- no two have one line
  pub one_line : (a b : A) → fits a ≡ true → fits b ≡ true → line_of a ≡ line_of b → a ≡ b
  one_line a b first second same = sym (back a first) ∙ ap read same ∙ back b second

  -- a line that isn't that of what is read of it is of nothing
  pub none : (line : List ℕ) (x : A) → x ≡ read line → (fits x && bytes_eq line (line_of x)) ≡ false → IsNoneOf fits line_of line
  none line x reads differs a fitting is =
      let found : x ≡ a = reads ∙ ap read is ∙ back a fitting in
      let yes : (fits a && bytes_eq line (line_of a)) ≡ true = and_from (fits a) (bytes_eq line (line_of a)) fitting ((bytes_eq-Decides line (line_of a)).1 is) in
      true≢false (sym yes ∙ (rw found at differs))

pub its_line : {fitting : Bool} (line printed : List ℕ) → (fitting && bytes_eq line printed) ≡ true → (fitting ≡ true) × (line ≡ printed)
its_line {fitting} line printed h = let two = and_parts fitting (bytes_eq line printed) h in (two.0, (bytes_eq-Decides line printed).0 two.1)

pub one_event : (a b : Event) → fits a ≡ true → fits b ≡ true → event_line a ≡ event_line b → a ≡ b
one_event = one_line fits event_line (λ l. event_read (words_in l)) line_back

pub one_opening : (o p : Opening) → opening_fits o ≡ true → opening_fits p ≡ true → opening_line o ≡ opening_line p → o ≡ p
one_opening = one_line opening_fits opening_line (λ l. opening_read (words_in l)) opening_back

pub event_no_end : (event : Event) → fits event ≡ true → has_no_end (event_line event) ≡ true
event_no_end event h = line_no_end (event_row event) (and_parts (event_within event) (event_shaped event) h).0

pub status_no_end : (n : ℕ) → in_8 n ≡ true → has_no_end (status_line n) ≡ true
status_no_end n h = line_no_end (status_row n) (status_within n h)

pub opening_no_end : (o : Opening) → opening_fits o ≡ true → has_no_end (opening_line o) ≡ true
opening_no_end o h = line_no_end (opening_row o) (opening_within o h)
