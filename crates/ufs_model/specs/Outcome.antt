-- What a request does if it is not refused.
use Rattle.std.specs.Prelude.{ℕ, ◌+◌, Bool, true, false, not, if◌then◌else◌, [], ◌∷◌, ◌++◌, length, filter, slice_range}
use Rattle.std.specs.Prelude.{Option, Some, None}
use Rattle.cfs_base.specs.declared.identifier.Puid.{Puid}
use Rattle.cfs_base.specs.declared.identifier.Tuid.{Tuid}
use Rattle.cfs_base.specs.declared.kind.Mode.{Mode}
use Rattle.ufs_model.specs.declared.asked.Ref.{Ref}
use Rattle.ufs_model.specs.declared.asked.Request.{Request}
use Rattle.ufs_model.specs.declared.asked.Request.TheVariants as asks
use Rattle.ufs_model.specs.declared.asked.Reply.{Reply}
use Rattle.ufs_model.specs.declared.asked.Reply.TheVariants as replies
use Rattle.ufs_model.specs.declared.collection.Collection.{Collection}
use Rattle.ufs_model.specs.declared.collection.Collection.TheVariants as collections
use Rattle.ufs_model.specs.declared.object.Object.{Object}
use Rattle.ufs_model.specs.declared.object.Object.TheVariants as objects
use Rattle.ufs_model.specs.declared.object.Draft.{Draft}
use Rattle.ufs_model.specs.declared.object.Grant.{Grant}
use Rattle.ufs_model.specs.Object.{Change, Fill, Overwrite, SetSize, new_file, new_index, slot_of}
use Rattle.ufs_model.specs.Graph.{Graph, object_at, with_object}
use Rattle.ufs_model.specs.Word.{word}
use Rattle.ufs_model.specs.State.{State, is_grant, grant_of, named, seen, index_seen, file_seen, changed_draft, put}
use Rattle.ufs_model.specs.Need.{takes_draft}

-- ---- what a collection that marks remembers

-- a new entry: the index now refers to x
abbrev pub with_edge : Option Puid → Puid → Collection → Collection
with_edge (Some index) x (collections.Marking edges starts) = collections.Marking ((index, x) ∷ edges) starts
with_edge None x (collections.Marking edges starts) = collections.Marking edges starts
with_edge index x collections.None = collections.None
with_edge index x collections.Sweeping = collections.Sweeping

-- a new start: an object that is opened
abbrev pub with_start : Puid → Collection → Collection
with_start x (collections.Marking edges starts) = collections.Marking edges (x ∷ starts)
with_start x collections.None = collections.None
with_start x collections.Sweeping = collections.Sweeping

-- ---- the changes

-- what the reference shows, changed
abbrev pub changed : State → ℕ → Ref → Change → State
changed s who ref c = put s who ref (changed_draft c (seen s who ref))

-- the identifier put into the slot
abbrev pub retained : State → ℕ → Ref → ℕ → Puid → State
retained s who index slot id =
    record (changed s who index (Fill slot (Some id))) { collection = with_edge (named s who index) id s.collection }

-- a new object at block b, with its identifier put into the slot of the index as it was
abbrev pub created : ℕ → State → ℕ → Ref → ℕ → Object → ℕ → Reply × State
created seed s who index slot o b =
    let id : Puid = record { block = b; word = word seed (s.drawn + 1) } in
    let with_new = record s { graph = with_object s.graph id o; drawn = s.drawn + 1 } in
    let filled = put with_new who index (changed_draft (Fill slot (Some id)) (seen s who index)) in
    (replies.Id id, record filled { collection = with_edge (named s who index) id s.collection })

abbrev pub first_draft : Mode → Option Object → Option Draft
first_draft mode None = None
first_draft mode (Some o) = if takes_draft mode (Some o) then Some (record { object = o; fresh = [] }) else None

-- a new grant, after the others
abbrev pub granted : ℕ → State → ℕ → Puid → Mode → Reply × State
granted seed s who id mode =
    let tuid : Tuid = record { draw = s.drawn + 1; word = word seed (s.drawn + 1) } in
    let grant : Grant = record {
      tuid = tuid;
      session = who;
      id = id;
      mode = mode;
      draft = first_draft mode (object_at s.graph id);
    } in (
      replies.Grant tuid,
      record s {
        grants = s.grants ++ grant ∷ [];
        drawn = s.drawn + 1;
        collection = with_start id s.collection;
      },
    )

-- the grant's draft becomes the object
abbrev pub committed : Option Grant → Graph → Graph
committed None g = g
committed (Some grant) g = elim grant.draft [ None ↦ g | Some d ↦ with_object g grant.id d.object ]

abbrev pub closed : State → ℕ → Tuid → Bool → State
closed s who t commit = record s {
  graph = if commit then committed (grant_of s who t) s.graph else s.graph;
  grants = filter (λ g. not (is_grant who t g)) s.grants;
}

-- ---- the outcome

abbrev pub slot_reply : Option Puid → Reply
slot_reply (Some id) = replies.Id id
slot_reply None = replies.Empty

-- the reply and the state after it, if b is the root block of a new object
abbrev pub outcome_of : ℕ → State → ℕ → Request → ℕ → Reply × State
outcome_of seed s who (asks.CreateFile kind fill index slot) b =
    created seed s who index slot (objects.File (new_file kind fill)) b
outcome_of seed s who (asks.CreateIndex slots index slot) b =
    created seed s who index slot (objects.Index (new_index slots)) b
outcome_of seed s who (asks.Retain index slot id) b = (replies.Done, retained s who index slot id)
outcome_of seed s who (asks.Retrieve index slot) b = (slot_reply (slot_of (index_seen s who index) slot), s)
outcome_of seed s who (asks.Delete index slot) b = (replies.Done, changed s who index (Fill slot None))
outcome_of seed s who (asks.Slots index) b = (replies.Number (length (index_seen s who index).slots), s)
outcome_of seed s who (asks.OpenFor id mode) b = granted seed s who id mode
outcome_of seed s who (asks.Close grant commit) b = (replies.Done, closed s who grant commit)
outcome_of seed s who (asks.Read file offset count) b =
    (replies.Content (slice_range (file_seen s who file).bytes offset (offset + count)), s)
outcome_of seed s who (asks.Write file offset bytes) b = (replies.Done, changed s who file (Overwrite offset bytes))
outcome_of seed s who (asks.Size file) b = (replies.Number (length (file_seen s who file).bytes), s)
outcome_of seed s who (asks.Resize file size) b = (replies.Done, changed s who file (SetSize size))

-- a request that makes an object
abbrev pub creates : Request → Bool
creates (asks.CreateFile kind fill index slot) = true
creates (asks.CreateIndex slots index slot) = true
creates request = false

-- how many words an outcome draws
abbrev pub draws : Request → ℕ
draws (asks.CreateFile kind fill index slot) = 1
draws (asks.CreateIndex slots index slot) = 1
draws (asks.OpenFor id mode) = 1
draws request = 0

-- the root block that a reply names
abbrev pub block_named : Reply → ℕ
block_named (replies.Id id) = id.block
block_named reply = 0
