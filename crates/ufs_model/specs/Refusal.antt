-- When a request is refused: by the first of these conditions that holds.
use Rattle.std.specs.Prelude.{ℕ, ◌+◌, Bool, true, false, not, ◌&&◌, ◌||◌, ◌==◌, nat_lt, nat_le, is_none, if◌then◌else◌}
use Rattle.std.specs.Prelude.{List, [], ◌∷◌, length, filter, Option, Some, None}
use Rattle.std.specs.List.{list_any}
use Rattle.cfs_base.specs.declared.identifier.Puid.{Puid}
use Rattle.cfs_base.specs.declared.kind.Mode.{Mode}
use Rattle.cfs_base.specs.declared.kind.Mode.TheVariants as modes
use Rattle.ufs_model.specs.Limits.{most_bytes, most_slots, most_at_once, most_grants}
use Rattle.ufs_model.specs.declared.asked.Ref.{Ref}
use Rattle.ufs_model.specs.declared.asked.Ref.TheVariants.{Direct, Through}
use Rattle.ufs_model.specs.declared.asked.Request.{Request}
use Rattle.ufs_model.specs.declared.asked.Request.TheVariants as asks
use Rattle.ufs_model.specs.declared.asked.Wanted.{Wanted}
use Rattle.ufs_model.specs.declared.asked.Wanted.TheVariants.{AnIndex, AFile, Either}
use Rattle.ufs_model.specs.declared.asked.Reply.{Reply}
use Rattle.ufs_model.specs.declared.asked.Reply.TheVariants as replies
use Rattle.ufs_model.specs.declared.object.Object.{Object}
use Rattle.ufs_model.specs.declared.object.Object.TheVariants as objects
use Rattle.ufs_model.specs.declared.object.Grant.{Grant}
use Rattle.ufs_model.specs.Identifier.{same_puid}
use Rattle.ufs_model.specs.Object.{slot_of}
use Rattle.ufs_model.specs.Graph.{is_there}
use Rattle.ufs_model.specs.State.{State, grant_of, object_of, index_seen, file_seen}

-- ---- four tables on requests

-- what a request goes to
abbrev pub target : Request → Ref
target (asks.CreateFile kind fill index slot) = index
target (asks.CreateIndex slots index slot) = index
target (asks.Retain index slot id) = index
target (asks.Retrieve index slot) = index
target (asks.Delete index slot) = index
target (asks.Slots index) = index
target (asks.OpenFor id mode) = Direct id
target (asks.Close grant commit) = Through grant
target (asks.Read file offset count) = file
target (asks.Write file offset bytes) = file
target (asks.Size file) = file
target (asks.Resize file size) = file

-- what the request expects to find there
abbrev pub wanted : Request → Wanted
wanted (asks.CreateFile kind fill index slot) = AnIndex
wanted (asks.CreateIndex slots index slot) = AnIndex
wanted (asks.Retain index slot id) = AnIndex
wanted (asks.Retrieve index slot) = AnIndex
wanted (asks.Delete index slot) = AnIndex
wanted (asks.Slots index) = AnIndex
wanted (asks.OpenFor id mode) = Either
wanted (asks.Close grant commit) = Either
wanted (asks.Read file offset count) = AFile
wanted (asks.Write file offset bytes) = AFile
wanted (asks.Size file) = AFile
wanted (asks.Resize file size) = AFile

-- whether the request changes what is there
abbrev pub is_changing : Request → Bool
is_changing (asks.CreateFile kind fill index slot) = true
is_changing (asks.CreateIndex slots index slot) = true
is_changing (asks.Retain index slot id) = true
is_changing (asks.Retrieve index slot) = false
is_changing (asks.Delete index slot) = true
is_changing (asks.Slots index) = false
is_changing (asks.OpenFor id mode) = false
is_changing (asks.Close grant commit) = false
is_changing (asks.Read file offset count) = false
is_changing (asks.Write file offset bytes) = true
is_changing (asks.Size file) = false
is_changing (asks.Resize file size) = true

-- the slot that the request names
abbrev pub slot_named : Request → Option ℕ
slot_named (asks.CreateFile kind fill index slot) = Some slot
slot_named (asks.CreateIndex slots index slot) = Some slot
slot_named (asks.Retain index slot id) = Some slot
slot_named (asks.Retrieve index slot) = Some slot
slot_named (asks.Delete index slot) = Some slot
slot_named (asks.Slots index) = None
slot_named (asks.OpenFor id mode) = None
slot_named (asks.Close grant commit) = None
slot_named (asks.Read file offset count) = None
slot_named (asks.Write file offset bytes) = None
slot_named (asks.Size file) = None
slot_named (asks.Resize file size) = None

-- ---- the conditions, in their order

abbrev pub has_no_such_grant : State → ℕ → Ref → Bool
has_no_such_grant s who (Direct id) = false
has_no_such_grant s who (Through t) = is_none (grant_of s who t)

-- the grant that the request names is no grant of this session
abbrev pub has_no_grant : State → ℕ → Request → Bool
has_no_grant s who request = has_no_such_grant s who (target request)

abbrev pub goes_nowhere : State → Ref → Bool
goes_nowhere s (Direct id) = not (is_there s.graph id)
goes_nowhere s (Through t) = false

abbrev pub retains_nothing : State → Request → Bool
retains_nothing s (asks.Retain index slot id) = not (is_there s.graph id)
retains_nothing s request = false

-- an identifier that the request names is not in the graph
abbrev pub has_no_object : State → Request → Bool
has_no_object s request = goes_nowhere s (target request) || retains_nothing s request

abbrev pub is_unwanted_file : Wanted → Option Object → Bool
is_unwanted_file AnIndex (Some (objects.File f)) = true
is_unwanted_file AnIndex (Some (objects.Index i)) = false
is_unwanted_file AnIndex None = false
is_unwanted_file AFile o = false
is_unwanted_file Either o = false

abbrev pub is_unwanted_index : Wanted → Option Object → Bool
is_unwanted_index AFile (Some (objects.Index i)) = true
is_unwanted_index AFile (Some (objects.File f)) = false
is_unwanted_index AFile None = false
is_unwanted_index AnIndex o = false
is_unwanted_index Either o = false

-- a request on an index names a file
abbrev pub names_file : State → ℕ → Request → Bool
names_file s who request = is_unwanted_file (wanted request) (object_of s who (target request))

-- a request on a file names an index
abbrev pub names_index : State → ℕ → Request → Bool
names_index s who request = is_unwanted_index (wanted request) (object_of s who (target request))

abbrev pub is_reading : Mode → Bool
is_reading modes.Reading = true
is_reading modes.Writing = false

abbrev pub is_for_reading : Option Grant → Bool
is_for_reading None = false
is_for_reading (Some g) = is_reading g.mode

abbrev pub goes_through_reading : State → ℕ → Ref → Bool
goes_through_reading s who (Direct id) = false
goes_through_reading s who (Through t) = is_for_reading (grant_of s who t)

-- a change is asked through a grant for reading
abbrev pub is_read_only : State → ℕ → Request → Bool
is_read_only s who request = is_changing request && goes_through_reading s who (target request)

-- a grant is on the object; a grant for writing is
abbrev pub is_open : State → Puid → Bool
is_open s id = list_any (λ g. same_puid id g.id) s.grants

abbrev pub is_open_for_writing : State → Puid → Bool
is_open_for_writing s id = list_any (λ g. same_puid id g.id && not (is_reading g.mode)) s.grants

abbrev pub opens_for_writing : Request → Bool
opens_for_writing (asks.OpenFor id modes.Writing) = true
opens_for_writing request = false

abbrev pub meets_a_grant : State → Bool → Ref → Bool
meets_a_grant s true (Direct id) = is_open s id
meets_a_grant s false (Direct id) = is_open_for_writing s id
meets_a_grant s alone (Through t) = false

-- a direct change or an opening for writing meets any grant, and a direct reading or an opening for reading meets one
-- for writing
abbrev pub is_locked : State → ℕ → Request → Bool
is_locked s who request = meets_a_grant s (is_changing request || opens_for_writing request) (target request)

abbrev pub is_beyond : ℕ → Option ℕ → Bool
is_beyond slots None = false
is_beyond slots (Some slot) = nat_le slots slot

-- the slot is not below the index's number of slots
abbrev pub has_no_slot : State → ℕ → Request → Bool
has_no_slot s who request = is_beyond (length (index_seen s who (target request)).slots) (slot_named request)

-- the request asks for what a slot holds, or deletes it, and the slot is empty
abbrev pub finds_empty : State → ℕ → Request → Bool
finds_empty s who (asks.Retrieve index slot) = is_none (slot_of (index_seen s who index) slot)
finds_empty s who (asks.Delete index slot) = is_none (slot_of (index_seen s who index) slot)
finds_empty s who request = false

-- 1 to 4,096 bytes within the size
abbrev pub is_range : (size offset count : ℕ) → Bool
is_range size offset count = nat_lt 0 count && nat_le count most_at_once && nat_le (offset + count) size

-- a size, a count or a place is out of its range
abbrev pub is_out_of_range : State → ℕ → Request → Bool
is_out_of_range s who (asks.CreateIndex slots index slot) = (slots == 0) || nat_lt most_slots slots
is_out_of_range s who (asks.Read file offset count) = not (is_range (length (file_seen s who file).bytes) offset count)
is_out_of_range s who (asks.Write file offset bytes) =
    not (is_range (length (file_seen s who file).bytes) offset (length bytes))
is_out_of_range s who (asks.Resize file size) = nat_lt most_bytes size
is_out_of_range s who request = false

-- an opening, and the session has all the grants that it may have
abbrev pub has_all_grants : State → ℕ → Request → Bool
has_all_grants s who (asks.OpenFor id mode) = nat_le most_grants (length (filter (λ g. g.session == who) s.grants))
has_all_grants s who request = false

-- ---- the refusal

-- the conditions, each with its reply
abbrev pub conditions : State → ℕ → Request → List (Bool × Reply)
conditions s who request =
    (has_no_grant s who request, replies.NoGrant)
    ∷ (has_no_object s request, replies.NoObject)
    ∷ (names_file s who request, replies.NotIndex)
    ∷ (names_index s who request, replies.NotFile)
    ∷ (is_read_only s who request, replies.ReadOnly)
    ∷ (is_locked s who request, replies.Locked)
    ∷ (has_no_slot s who request, replies.Slot)
    ∷ (finds_empty s who request, replies.Empty)
    ∷ (is_out_of_range s who request, replies.Range)
    ∷ (has_all_grants s who request, replies.Grants)
    ∷ []

-- the reply of the first condition that holds
abbrev pub first_of : List (Bool × Reply) → Option Reply
first_of [] = None
first_of (c ∷ cs) = if c.0 then Some c.1 else first_of cs

abbrev pub refusal_of : State → ℕ → Request → Option Reply
refusal_of s who request = first_of (conditions s who request)
