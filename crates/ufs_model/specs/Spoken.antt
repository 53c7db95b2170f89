-- What the words of a request line ask.
use Rattle.std.specs.Prelude.{ℕ, ◌^◌, Bool, true, false, ◌&&◌, ◌==◌, nat_lt, nat_le, if◌then◌else◌, List, [], ◌∷◌}
use Rattle.std.specs.Prelude.{length, take, drop, find, Option, Some, None, Result, Ok, Err, codes}
use Rattle.std.specs.Str.{bytes_eq, all_ascii_digits}
use Rattle.std.specs.Str.Parse.{digits_value}
use Rattle.std.specs.Int.{w32, from_be_bytes}
use Rattle.hex.specs.declared.error.FromHexError.{FromHexError}
use Rattle.hex.specs.Hex.{decode_of}
use Rattle.cfs_base.specs.declared.identifier.Puid.{Puid}
use Rattle.cfs_base.specs.declared.identifier.Tuid.{Tuid}
use Rattle.cfs_base.specs.declared.kind.FileKind.{FileKind}
use Rattle.cfs_base.specs.declared.kind.FileKind.TheVariants as kinds
use Rattle.cfs_base.specs.declared.kind.Mode.{Mode}
use Rattle.cfs_base.specs.declared.kind.Mode.TheVariants as modes
use Rattle.ufs_model.specs.declared.asked.Bound.{Bound}
use Rattle.ufs_model.specs.declared.asked.Bound.TheVariants as bounds
use Rattle.ufs_model.specs.declared.asked.Ref.{Ref}
use Rattle.ufs_model.specs.declared.asked.Ref.TheVariants.{Direct, Through}
use Rattle.ufs_model.specs.declared.asked.Request.{Request}
use Rattle.ufs_model.specs.declared.asked.Request.TheVariants as asks
use Rattle.ufs_model.specs.Script.{is_readable, words_of}
use Rattle.ufs_model.specs.Names.{Names, is_name, is_id_digits}

-- the result of reading: something, a name that is not bound or is bound to the wrong kind of thing, or none of the
-- forms
pub data Reading (A : Type 0) : Type 0 where
  Is : A → Reading A
  Unbound : Reading A
  Bad : Reading A

-- both, if both can be read. `Bad` comes before an unbound name
infixl 10 ◌⊛◌
abbrev pub ◌⊛◌ : {A B : Type 0} → Reading (A → B) → Reading A → Reading B
Is f ⊛ Is x = Is (f x)
Is f ⊛ Unbound = Unbound
Is f ⊛ Bad = Bad
Unbound ⊛ Is x = Unbound
Unbound ⊛ Unbound = Unbound
Unbound ⊛ Bad = Bad
Bad ⊛ r = Bad

abbrev pub only_if : {A : Type 0} → Bool → Reading A → Reading A
only_if b r = if b then r else Bad

abbrev is_word : List ℕ → List ℕ → Bool
is_word w text = bytes_eq w text

-- ---- words

-- 1 to 20 decimal digits of a number below 2^64
abbrev pub number_in : List ℕ → Reading ℕ
number_in w =
    only_if (nat_lt 0 (length w) && nat_le (length w) 20 && all_ascii_digits w && nat_lt (digits_value 10 w) (2 ^ 64))
    (Is (digits_value 10 w))

abbrev bytes_or_bad : Result (List ℕ) FromHexError → Reading (List ℕ)
bytes_or_bad (Ok bytes) = Is bytes
bytes_or_bad (Err e) = Bad

-- two hexadecimal digits or more, of an even number
abbrev pub hex_in : List ℕ → Reading (List ℕ)
hex_in w = only_if (nat_lt 0 (length w)) (bytes_or_bad (decode_of w))

abbrev first_byte : List ℕ → ℕ
first_byte [] = 0
first_byte (b ∷ bs) = b

-- two hexadecimal digits
abbrev pub byte_in : List ℕ → Reading ℕ
byte_in w = only_if (length w == 2) (Is first_byte ⊛ hex_in w)

abbrev puid_of_bytes : List ℕ → Puid
puid_of_bytes bytes = record { block = from_be_bytes w32 (take 4 bytes); word = from_be_bytes w32 (drop 4 bytes) }

-- 16 hexadecimal digits
abbrev pub digits_in : List ℕ → Reading Puid
digits_in w = only_if (is_id_digits w) (Is puid_of_bytes ⊛ hex_in w)

abbrev permanent : Option Bound → Reading Puid
permanent (Some (bounds.Permanent id)) = Is id
permanent (Some (bounds.Temporary t)) = Unbound
permanent None = Unbound

abbrev temporary : Option Bound → Reading Tuid
temporary (Some (bounds.Temporary t)) = Is t
temporary (Some (bounds.Permanent id)) = Unbound
temporary None = Unbound

abbrev either : Option Bound → Reading Ref
either (Some (bounds.Permanent id)) = Is (Direct id)
either (Some (bounds.Temporary t)) = Is (Through t)
either None = Unbound

-- `root`, 16 hexadecimal digits, or a name that is bound to a permanent identifier
abbrev pub id_in : Names → List ℕ → Reading Puid
id_in names w =
    if is_word w (codes "root") then Is names.root else
    if is_id_digits w then digits_in w else only_if (is_name w) (permanent (names.bound w))

-- the same, or a name that is bound to a grant
abbrev pub ref_in : Names → List ℕ → Reading Ref
ref_in names w =
    if is_word w (codes "root") then Is (Direct names.root) else
    if is_id_digits w then Is (λ id. Direct id) ⊛ digits_in w else only_if (is_name w) (either (names.bound w))

-- a name that is bound to a grant
abbrev pub grant_in : Names → List ℕ → Reading Tuid
grant_in names w = only_if (is_name w) (temporary (names.bound w))

abbrev pub kind_in : List ℕ → Reading FileKind
kind_in w = if is_word w (codes "normal") then Is kinds.Normal
    else if is_word w (codes "special") then Is kinds.Special else Bad

abbrev pub mode_in : List ℕ → Reading Mode
mode_in w =
    if is_word w (codes "read") then Is modes.Reading else if is_word w (codes "write") then Is modes.Writing else Bad

abbrev pub commit_in : List ℕ → Reading Bool
commit_in w = if is_word w (codes "commit") then Is true else if is_word w (codes "abort") then Is false else Bad

-- ---- forms of lines

-- the verb, whether the next word is a name that an ok reply binds, and the request that the words after it make
pub record Form : Type 0 where
  pub verb : List ℕ
  pub binds : Bool
  pub reads : Names → List (List ℕ) → Reading Request

abbrev create_file : Names → List (List ℕ) → Reading Request
create_file names (kind ∷ fill ∷ index ∷ slot ∷ []) =
    Is (λ k f i s. asks.CreateFile k f i s) ⊛ kind_in kind ⊛ byte_in fill ⊛ ref_in names index ⊛ number_in slot
create_file names words = Bad

abbrev create_index : Names → List (List ℕ) → Reading Request
create_index names (slots ∷ index ∷ slot ∷ []) =
    Is (λ n i s. asks.CreateIndex n i s) ⊛ number_in slots ⊛ ref_in names index ⊛ number_in slot
create_index names words = Bad

abbrev retain : Names → List (List ℕ) → Reading Request
retain names (index ∷ slot ∷ id ∷ []) =
    Is (λ i s x. asks.Retain i s x) ⊛ ref_in names index ⊛ number_in slot ⊛ id_in names id
retain names words = Bad

abbrev retrieve : Names → List (List ℕ) → Reading Request
retrieve names (index ∷ slot ∷ []) = Is (λ i s. asks.Retrieve i s) ⊛ ref_in names index ⊛ number_in slot
retrieve names words = Bad

abbrev delete : Names → List (List ℕ) → Reading Request
delete names (index ∷ slot ∷ []) = Is (λ i s. asks.Delete i s) ⊛ ref_in names index ⊛ number_in slot
delete names words = Bad

abbrev slots : Names → List (List ℕ) → Reading Request
slots names (index ∷ []) = Is (λ i. asks.Slots i) ⊛ ref_in names index
slots names words = Bad

abbrev open_for : Names → List (List ℕ) → Reading Request
open_for names (id ∷ mode ∷ []) = Is (λ x m. asks.OpenFor x m) ⊛ id_in names id ⊛ mode_in mode
open_for names words = Bad

abbrev close : Names → List (List ℕ) → Reading Request
close names (grant ∷ commit ∷ []) = Is (λ t c. asks.Close t c) ⊛ grant_in names grant ⊛ commit_in commit
close names words = Bad

abbrev read : Names → List (List ℕ) → Reading Request
read names (file ∷ offset ∷ count ∷ []) =
    Is (λ f o n. asks.Read f o n) ⊛ ref_in names file ⊛ number_in offset ⊛ number_in count
read names words = Bad

abbrev write : Names → List (List ℕ) → Reading Request
write names (file ∷ offset ∷ bytes ∷ []) =
    Is (λ f o b. asks.Write f o b) ⊛ ref_in names file ⊛ number_in offset ⊛ hex_in bytes
write names words = Bad

abbrev size : Names → List (List ℕ) → Reading Request
size names (file ∷ []) = Is (λ f. asks.Size f) ⊛ ref_in names file
size names words = Bad

abbrev resize : Names → List (List ℕ) → Reading Request
resize names (file ∷ bytes ∷ []) = Is (λ f n. asks.Resize f n) ⊛ ref_in names file ⊛ number_in bytes
resize names words = Bad

abbrev pub create_file_form : Form
create_file_form = record { verb = codes "create-file"; binds = true; reads = create_file }

abbrev pub create_index_form : Form
create_index_form = record { verb = codes "create-index"; binds = true; reads = create_index }

abbrev pub retain_form : Form
retain_form = record { verb = codes "retain"; binds = false; reads = retain }

abbrev pub retrieve_form : Form
retrieve_form = record { verb = codes "retrieve"; binds = true; reads = retrieve }

abbrev pub delete_form : Form
delete_form = record { verb = codes "delete"; binds = false; reads = delete }

abbrev pub slots_form : Form
slots_form = record { verb = codes "slots"; binds = false; reads = slots }

abbrev pub open_form : Form
open_form = record { verb = codes "open"; binds = true; reads = open_for }

abbrev pub close_form : Form
close_form = record { verb = codes "close"; binds = false; reads = close }

abbrev pub read_form : Form
read_form = record { verb = codes "read"; binds = false; reads = read }

abbrev pub write_form : Form
write_form = record { verb = codes "write"; binds = false; reads = write }

abbrev pub size_form : Form
size_form = record { verb = codes "size"; binds = false; reads = size }

abbrev pub resize_form : Form
resize_form = record { verb = codes "resize"; binds = false; reads = resize }

-- the whole language
abbrev pub all_forms : List Form
all_forms =
    create_file_form ∷ create_index_form ∷ retain_form ∷ retrieve_form ∷ delete_form ∷ slots_form
    ∷ open_form ∷ close_form ∷ read_form ∷ write_form ∷ size_form ∷ resize_form ∷ []

-- ---- lines, in a language that has these forms

abbrev pub form_of : List Form → List ℕ → Option Form
form_of forms verb = find (λ form. is_word verb form.verb) forms

abbrev pub read_words : Form → Names → List (List ℕ) → Reading Request
read_words form names [] = form.reads names []
read_words form names (w ∷ words) =
    if form.binds then only_if (is_name w) (form.reads names words) else form.reads names (w ∷ words)

abbrev pub read_with : Option Form → Names → List (List ℕ) → Reading Request
read_with None names words = Bad
read_with (Some form) names words = read_words form names words

-- what the words of a line ask
abbrev pub spoken : List Form → Names → List (List ℕ) → Reading Request
spoken forms names [] = Bad
spoken forms names (verb ∷ words) = read_with (form_of forms verb) names words

-- what a line asks
abbrev pub reading_of : List Form → Names → List ℕ → Reading Request
reading_of forms names line = only_if (is_readable line) (spoken forms names (words_of line))

abbrev name_after : Option Form → List (List ℕ) → Option (List ℕ)
name_after None words = None
name_after (Some form) [] = None
name_after (Some form) (w ∷ words) = if form.binds then Some w else None

-- the name that an ok reply to these words binds
abbrev pub name_spoken : List Form → List (List ℕ) → Option (List ℕ)
name_spoken forms [] = None
name_spoken forms (verb ∷ words) = name_after (form_of forms verb) words
