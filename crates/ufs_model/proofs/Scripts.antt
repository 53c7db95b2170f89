-- Worked scripts: what their lines come to, and the replies as they are written.
use Rattle.std.proofs.Common.{◌≡◌, ℕ, refl, List, [], ◌∷◌, ◌++◌, Some, None, true, false, replicate}
use Rattle.ufs_model.proofs.Words.{AreTurns, Bad, Direct, Event, Is, Names, Reading, Request, Through, Unbound, all_forms, bind, codes, is_name, join_with_byte, no_names, printed_replies, reading_of, reply_line, request_lines}
use Rattle.hex.specs.Hex.{decode_pairs, encode_with}
use Rattle.std.specs.Fmt.{digits}
use Rattle.cfs_base.specs.declared.kind.FileKind.TheVariants as kinds
use Rattle.cfs_base.specs.declared.kind.Mode.TheVariants as modes
use Rattle.ufs_model.specs.declared.asked.Bound.TheVariants as bounds
use Rattle.ufs_model.specs.declared.asked.Request.TheVariants as asks
use Rattle.ufs_model.specs.declared.asked.Reply.TheVariants as replies
use Rattle.ufs_model.specs.declared.asked.Unread.TheVariants as unread
use Rattle.ufs_model.specs.declared.asked.Event.TheVariants as events
use Rattle.ufs_model.proofs.Worked.{root, a, second}
use Rattle.ufs_model.proofs.Runs.{stored_run}

-- lines, with LF after each but the last
abbrev text : List (List ℕ) → List ℕ
text lines = join_with_byte 10 lines

-- ---- the stored run

abbrev stored_script : List ℕ
stored_script = text (
    codes "create-index a 4 root 0"
    ∷ codes "retrieve b root 0"
    ∷ codes "slots a"
    ∷ codes "retrieve c root 63"
    ∷ codes "retrieve c root 64"
    ∷ [])

stored_run_is_of_its_script : AreTurns all_forms 0 root stored_script stored_run
stored_run_is_of_its_script = refl

stored_replies : printed_replies 0 stored_run ≡ text (
    codes "ok 00000003903df1a0"
    ∷ codes "ok 00000003903df1a0"
    ∷ codes "ok 4"
    ∷ codes "no empty"
    ∷ codes "no slot"
    ∷ []
    ∷ [])
unfolding digits encode_with
stored_replies = refl

of_no_other_session : printed_replies 1 stored_run ≡ []
of_no_other_session = refl

-- ---- which lines are request lines

lines : request_lines (text (
    (codes "slots root" ++ 13 ∷ [])
    ∷ []
    ∷ codes "# a comment"
    ∷ (codes "  " ++ 9 ∷ [])
    ∷ codes " # none"
    ∷ (codes "slots root" ++ 13 ∷ 13 ∷ [])
    ∷ codes "slots a"
    ∷ [])) ≡ codes "slots root" ∷ codes " # none" ∷ (codes "slots root" ++ 13 ∷ []) ∷ codes "slots a" ∷ []
lines = refl

-- ---- what lines ask

abbrev names : Names
names = bind (bind (no_names root) (codes "a") (bounds.Permanent a)) (codes "g") (bounds.Temporary second)

abbrev says : List ℕ → Reading Request
says line = reading_of all_forms names line

a_file : says (codes "create-file f special 2e root 0") ≡ Is (asks.CreateFile kinds.Special 0x2e (Direct root) 0)
unfolding decode_pairs
a_file = refl

an_index : says (codes "create-index i 4 a 18446744073709551615") ≡ Is (asks.CreateIndex 4 (Direct a) 18446744073709551615)
an_index = refl

blanks_between : says (9 ∷ codes "retain  g 3" ++ 9 ∷ codes "root ") ≡ Is (asks.Retain (Through second) 3 root)
blanks_between = refl

digits_in_either_case : says (codes "retain root 0 00000003903DF1a0") ≡ Is (asks.Retain (Direct root) 0 a)
unfolding decode_pairs
digits_in_either_case = refl

an_opening : says (codes "open h a write") ≡ Is (asks.OpenFor a modes.Writing)
an_opening = refl

an_abort : says (codes "close g abort") ≡ Is (asks.Close second false)
an_abort = refl

a_write : says (codes "write g 0 41Ff") ≡ Is (asks.Write (Through second) 0 (0x41 ∷ 0xff ∷ []))
unfolding decode_pairs
a_write = refl

a_read : says (codes "read a 0 007") ≡ Is (asks.Read (Direct a) 0 7)
a_read = refl

a_resize : says (codes "resize g 4") ≡ Is (asks.Resize (Through second) 4)
a_resize = refl

not_bound : says (codes "slots q") ≡ Unbound
not_bound = refl

of_the_wrong_sort : says (codes "retain root 0 g") ≡ Unbound
of_the_wrong_sort = refl

not_a_grant : says (codes "close a commit") ≡ Unbound
not_a_grant = refl

no_form_before_no_name : says (codes "retain q x root") ≡ Bad
no_form_before_no_name = refl

unknown_word : says (codes "frobnicate") ≡ Bad
unknown_word = refl

too_few_words : says (codes "slots") ≡ Bad
too_few_words = refl

too_many_words : says (codes "slots root x") ≡ Bad
too_many_words = refl

root_is_no_name : says (codes "create-index root 1 root 0") ≡ Bad
root_is_no_name = refl

digits_are_no_grant : says (codes "close 00000003903df1a0 commit") ≡ Bad
digits_are_no_grant = refl

above_64_bits : says (codes "slots root 1" ++ codes "8446744073709551616") ≡ Bad
above_64_bits = refl

a_slot_above_64_bits : says (codes "retrieve x root 18446744073709551616") ≡ Bad
a_slot_above_64_bits = refl

no_bytes : says (codes "write root 0 4") ≡ Bad
unfolding decode_pairs
no_bytes = refl

another_byte : says (codes "slots root" ++ 13 ∷ []) ≡ Bad
another_byte = refl

-- ---- names

longest_name : is_name (replicate 32 97) ≡ true
longest_name = refl

name_too_long : is_name (replicate 33 97) ≡ false
name_too_long = refl

name_of_digits : is_name (codes "00000003903df1a0") ≡ false
name_of_digits = refl

name_of_hexadecimal_letters : is_name (codes "abcdefabcdefabcd") ≡ false
name_of_hexadecimal_letters = refl

name_begins_with_a_letter : is_name (codes "-a") ≡ false
name_begins_with_a_letter = refl

-- ---- a session that goes on after lines that are no requests, and binds a name again

abbrev mixed_script : List ℕ
mixed_script = text (
    codes "frobnicate"
    ∷ codes "slots q"
    ∷ codes "retrieve q root 0"
    ∷ codes "retrieve q root 1"
    ∷ codes "slots q"
    ∷ codes "slots root"
    ∷ [])

abbrev mixed_run : List Event
mixed_run =
    events.Unread 3 unread.Syntax
    ∷ events.Unread 3 unread.NoName
    ∷ events.Began
    ∷ events.Ask 3 (asks.Retrieve (Direct root) 0) (replies.Id a)
    -- what is no ok reply binds nothing
    ∷ events.Ask 3 (asks.Retrieve (Direct root) 1) replies.Empty
    ∷ events.Ask 2 (asks.Slots (Direct root)) (replies.Number 64)
    ∷ events.Ask 3 (asks.Slots (Direct a)) (replies.Number 4)
    ∷ events.Unread 3 unread.Memory
    ∷ events.Leave 3 None
    ∷ []

mixed_run_is_of_its_script : AreTurns all_forms 3 root mixed_script mixed_run
mixed_run_is_of_its_script = refl

mixed_replies : printed_replies 3 mixed_run ≡ text (
    codes "no syntax"
    ∷ codes "no name"
    ∷ codes "ok 00000003903df1a0"
    ∷ codes "no empty"
    ∷ codes "ok 4"
    ∷ codes "no memory"
    ∷ []
    ∷ [])
unfolding digits encode_with
mixed_replies = refl

-- ---- replies

told_in_numbers :
    (reply_line (replies.Full (record { free = 7; need = 4 })) ++ reply_line (replies.Stopped 12) ++ reply_line (replies.Disk (Some 3))
    ++ reply_line (replies.Damaged (record { block = 0; code = 11 }) 5) ++ reply_line (replies.Grant second) ++ reply_line (replies.Content (0x2e ∷ 0x5a ∷ [])))
    ≡ text (
    codes "no full 7 4"
    ∷ codes "no stopped 12"
    ∷ codes "no disk 3"
    ∷ codes "no damaged 0 11 5"
    ∷ codes "ok 00000002e56a5d40"
    ∷ codes "ok 2e5a"
    ∷ []
    ∷ [])
unfolding digits encode_with
told_in_numbers = refl
