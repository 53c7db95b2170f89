-- Well-formed states, and the events that keep them so.
use Rattle.std.specs.Prelude.{◌≡◌, ℕ, Bool, true, false, not, ◌&&◌, ◌||◌, ◌==◌, nat_lt, nat_le, is_none, IsTrue}
use Rattle.std.specs.Prelude.{List, [], ◌∷◌, length, map, Option, Some, None}
use Rattle.std.specs.List.{list_all}
use Rattle.cfs_base.specs.declared.kind.FileKind.{FileKind}
use Rattle.cfs_base.specs.declared.kind.FileKind.TheVariants as kinds
use Rattle.ufs_model.specs.declared.asked.Request.{Request}
use Rattle.ufs_model.specs.declared.asked.Request.TheVariants as asks
use Rattle.ufs_model.specs.declared.asked.Event.{Event}
use Rattle.ufs_model.specs.declared.asked.Event.TheVariants as events
use Rattle.ufs_model.specs.declared.object.Object.{Object}
use Rattle.ufs_model.specs.declared.object.Object.TheVariants as objects
use Rattle.ufs_model.specs.declared.object.Draft.{Draft}
use Rattle.ufs_model.specs.declared.object.Grant.{Grant}
use Rattle.ufs_model.specs.Numbers.{has_number, numbers_rise}
use Rattle.ufs_model.specs.Object.{is_object}
use Rattle.ufs_model.specs.Graph.{Graph, object_at, is_there, IsGraph}
use Rattle.ufs_model.specs.Identifier.{same_puid}
use Rattle.ufs_model.specs.Refusal.{is_reading}
use Rattle.ufs_model.specs.State.{State, draft_pairs}

-- ---- grants

abbrev pub same_kind : FileKind → FileKind → Bool
same_kind kinds.Normal kinds.Normal = true
same_kind kinds.Normal kinds.Special = false
same_kind kinds.Special kinds.Normal = false
same_kind kinds.Special kinds.Special = true

-- A file of the kind and fill byte of the file that it is to become, or an index with as many slots as the index that
-- it is to become, which holds the leaves that that index holds.
abbrev pub is_draft_of : Object → Object → Bool
is_draft_of (objects.File f) (objects.File d) =
    same_kind d.kind f.kind && (d.fill == f.fill) && is_object (objects.File d)
is_draft_of (objects.Index i) (objects.Index d) =
    (length d.slots == length i.slots) && list_all (λ leaf. has_number leaf d.held) i.held
    && is_object (objects.Index d)
is_draft_of (objects.File f) (objects.Index d) = false
is_draft_of (objects.Index i) (objects.File d) = false

-- the object exists, and the draft, if there is one, is its draft
abbrev pub is_open_so : Option Object → Option Draft → Bool
is_open_so None draft = false
is_open_so (Some o) None = true
is_open_so (Some o) (Some d) = is_draft_of o d.object

abbrev pub is_grant_in : Graph → Grant → Bool
is_grant_in g grant = is_open_so (object_at g grant.id) grant.draft

-- Two grants on one object are both for reading, and a draft is for writing: so who has a draft is alone.
abbrev pub may_share : Grant → Grant → Bool
may_share g h = not (same_puid h.id g.id) || (is_reading g.mode && is_reading h.mode)

abbrev pub are_granted : List Grant → Bool
are_granted [] = true
are_granted (g ∷ gs) = (is_none g.draft || not (is_reading g.mode)) && list_all (may_share g) gs && are_granted gs

abbrev pub draws_of : List Grant → List ℕ
draws_of grants = map (λ g. g.tuid.draw) grants

-- ---- states

-- The graph is well-formed, the grants are on its objects, in the order in which they were drawn, and each identifier
-- in a slot of a draft names an object.
pub record IsState (s : State) : Type 0 where
  pub graph : IsGraph s.graph
  pub grants : list_all (is_grant_in s.graph) s.grants ≡ true
  pub closed : list_all (λ e. is_there s.graph e.1) (draft_pairs s.grants) ≡ true
  pub alone : are_granted s.grants ≡ true
  pub rising : numbers_rise (draws_of s.grants) ≡ true
  pub drawn : list_all (λ draw. nat_le draw s.drawn) (draws_of s.grants) ≡ true

-- ---- events

-- what is to be stored is bytes
abbrev pub stores_bytes : Request → Bool
stores_bytes (asks.CreateFile kind fill index slot) = nat_lt fill 256
stores_bytes (asks.CreateIndex slots index slot) = true
stores_bytes (asks.Retain index slot id) = true
stores_bytes (asks.Retrieve index slot) = true
stores_bytes (asks.Delete index slot) = true
stores_bytes (asks.Slots index) = true
stores_bytes (asks.OpenFor id mode) = true
stores_bytes (asks.Close grant commit) = true
stores_bytes (asks.Read file offset count) = true
stores_bytes (asks.Write file offset bytes) = list_all (λ byte. nat_lt byte 256) bytes
stores_bytes (asks.Size file) = true
stores_bytes (asks.Resize file size) = true

-- An event's fill byte and bytes are below 256. Definitions are over numbers, and what the code asks is always so.
abbrev pub IsSpeakable : Event → Type 0
IsSpeakable (events.Unread who why) = Unit {0}
IsSpeakable (events.Ask who request reply) = IsTrue (stores_bytes request)
IsSpeakable (events.Leave who stopped) = Unit {0}
IsSpeakable events.Began = Unit {0}
IsSpeakable (events.Vanish ids) = Unit {0}
IsSpeakable events.Finished = Unit {0}
IsSpeakable (events.Halted moment) = Unit {0}
