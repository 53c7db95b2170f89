-- Each refusal, and where two conditions hold the earlier one.
use Rattle.std.proofs.Common.{◌≡◌, refl, List, [], ◌∷◌, Some, None, replicate, Option}
use Rattle.ufs_model.proofs.Words.{Direct, Grant, Puid, Reply, Request, State, Through, Tuid, fresh_graph, new_file, new_index, opening, refusal_of, resized, with_object}
use Rattle.cfs_base.specs.declared.kind.FileKind.TheVariants as kinds
use Rattle.cfs_base.specs.declared.kind.Mode.TheVariants as modes
use Rattle.ufs_model.specs.declared.asked.Request.TheVariants as asks
use Rattle.ufs_model.specs.declared.asked.Reply.TheVariants as replies
use Rattle.ufs_model.specs.declared.object.Object.TheVariants as objects
use Rattle.ufs_model.proofs.Worked.{root}

-- a file of 4 bytes, and an index of 4 slots that session 0 has open for reading, as it has the file
abbrev file : Puid
file = record { block = 3; word = 1 }

abbrev index : Puid
index = record { block = 4; word = 1 }

abbrev absent : Puid
absent = record { block = 5; word = 1 }

abbrev on_file : Tuid
on_file = record { draw = 1; word = 7 }

abbrev on_index : Tuid
on_index = record { draw = 2; word = 7 }

abbrev nowhere : Tuid
nowhere = record { draw = 3; word = 7 }

abbrev reading : Tuid → Puid → Grant
reading t id = record { tuid = t; session = 0; id = id; mode = modes.Reading; draft = None }

abbrev some_open : List Grant → State
some_open grants =
    record (opening (with_object (with_object (fresh_graph root) file (objects.File (resized (new_file kinds.Normal 0) 4))) index (objects.Index (new_index 4)))) {
      grants = grants;
    }

abbrev refused : Request → Option Reply
refused request = refusal_of (some_open (reading on_file file ∷ reading on_index index ∷ [])) 0 request

-- ---- alone

no_grant : refused (asks.Slots (Through nowhere)) ≡ Some replies.NoGrant
no_grant = refl

no_grant_of_another : refusal_of (some_open (reading on_index index ∷ [])) 1 (asks.Slots (Through on_index)) ≡ Some replies.NoGrant
no_grant_of_another = refl

no_object : refused (asks.Slots (Direct absent)) ≡ Some replies.NoObject
no_object = refl

no_object_to_open : refused (asks.OpenFor absent modes.Reading) ≡ Some replies.NoObject
no_object_to_open = refl

not_index : refused (asks.Slots (Direct file)) ≡ Some replies.NotIndex
not_index = refl

not_file : refused (asks.Size (Direct index)) ≡ Some replies.NotFile
not_file = refl

read_only : refused (asks.Resize (Through on_file) 0) ≡ Some replies.ReadOnly
read_only = refl

locked : refused (asks.Resize (Direct file) 0) ≡ Some replies.Locked
locked = refl

readers_may_join : refused (asks.OpenFor file modes.Reading) ≡ None
readers_may_join = refl

reading_is_free_beside_readers : refused (asks.Size (Direct file)) ≡ None
reading_is_free_beside_readers = refl

no_slot : refused (asks.Retain (Direct root) 64 index) ≡ Some replies.Slot
no_slot = refl

last_slot : refused (asks.Retain (Direct root) 63 index) ≡ None
last_slot = refl

empty : refused (asks.Delete (Direct root) 0) ≡ Some replies.Empty
empty = refl

-- ---- ranges

no_slots : refused (asks.CreateIndex 0 (Direct root) 0) ≡ Some replies.Range
no_slots = refl

most_slots : refused (asks.CreateIndex 983040 (Direct root) 0) ≡ None
most_slots = refl

too_many_slots : refused (asks.CreateIndex 983041 (Direct root) 0) ≡ Some replies.Range
too_many_slots = refl

no_bytes : refused (asks.Read (Direct file) 0 0) ≡ Some replies.Range
no_bytes = refl

up_to_the_end : refused (asks.Read (Direct file) 1 3) ≡ None
up_to_the_end = refl

past_the_end : refused (asks.Read (Direct file) 1 4) ≡ Some replies.Range
past_the_end = refl

largest_file : refusal_of (some_open []) 0 (asks.Resize (Direct file) 7864320) ≡ None
largest_file = refl

too_large : refusal_of (some_open []) 0 (asks.Resize (Direct file) 7864321) ≡ Some replies.Range
too_large = refl

-- ---- grants

abbrev full_session : State
full_session = some_open (replicate 64 (reading on_index index))

all_grants : refusal_of full_session 0 (asks.OpenFor index modes.Reading) ≡ Some replies.Grants
all_grants = refl

of_that_session_alone : refusal_of full_session 1 (asks.OpenFor index modes.Reading) ≡ None
of_that_session_alone = refl

one_more : refusal_of (some_open (replicate 63 (reading on_index index))) 0 (asks.OpenFor index modes.Reading) ≡ None
one_more = refl

-- ---- the earlier of two

no_grant_before_no_object : refused (asks.Retain (Through nowhere) 0 absent) ≡ Some replies.NoGrant
no_grant_before_no_object = refl

no_object_before_not_index : refused (asks.Retain (Direct file) 0 absent) ≡ Some replies.NoObject
no_object_before_not_index = refl

not_index_before_read_only : refused (asks.Retain (Through on_file) 0 root) ≡ Some replies.NotIndex
not_index_before_read_only = refl

not_file_before_read_only : refused (asks.Resize (Through on_index) 0) ≡ Some replies.NotFile
not_file_before_read_only = refl

read_only_before_slot : refused (asks.Retain (Through on_index) 4 root) ≡ Some replies.ReadOnly
read_only_before_slot = refl

locked_before_slot : refused (asks.Retain (Direct index) 4 root) ≡ Some replies.Locked
locked_before_slot = refl

slot_before_empty : refused (asks.Retrieve (Direct root) 64) ≡ Some replies.Slot
slot_before_empty = refl

slot_before_range : refused (asks.CreateIndex 0 (Direct root) 64) ≡ Some replies.Slot
slot_before_range = refl

locked_before_range : refused (asks.Resize (Direct file) 7864321) ≡ Some replies.Locked
locked_before_range = refl

locked_before_grants : refusal_of (some_open (replicate 64 (reading on_file file))) 0 (asks.OpenFor file modes.Writing) ≡ Some replies.Locked
locked_before_grants = refl
