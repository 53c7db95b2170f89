-- What may happen between two steps of a collection that marks.
use Rattle.std.specs.Prelude.{◌≡◌, ◌⊎◌, ℕ, ◌+◌, ◌≤◌, length, Bool, true, false, if◌then◌else◌, List, [], ◌∷◌, Option}
use Rattle.std.specs.Prelude.{Some, None}
use Rattle.cfs_base.specs.declared.identifier.Puid.{Puid}
use Rattle.cfs_base.specs.declared.kind.Kind.{Kind}
use Rattle.ufs_model.specs.declared.asked.Request.{Request}
use Rattle.ufs_model.specs.declared.asked.Request.TheVariants as asks
use Rattle.ufs_model.specs.declared.asked.Reply.{Reply}
use Rattle.ufs_model.specs.declared.asked.Reply.TheVariants as replies
use Rattle.ufs_model.specs.State.{State, named}
use Rattle.marking.specs.declared.memory.Rescue.{Rescue}
use Rattle.marking.specs.Leaves.{is_found, kind_at}
use Rattle.marking.specs.Colours.{Colours}
use Rattle.marking.specs.Marking.{Waits, is_remembered, is_index_there}
use Rattle.marking.specs.Pace.{read_so_far, unread}

-- ---- any change

-- it is found at this place of the index, or at one that is read earlier, since a draft becomes the index
pub record IsFoundBy (s : State) (from : Option Puid) (place : ℕ) (x : Puid) : Type 0 where
  pub before : ℕ
  pub earlier : before ≤ place
  pub there : is_found s from before x ≡ true

-- While marks stay, a state may change so that each object that is newly found somewhere has one of these rescues,
-- which are remembered. What exists stays, with its kind, and an index keeps its leaves.
pub record Changes (s t : State) (more : List Rescue) : Type 0 where
  pub root : t.graph.root ≡ s.graph.root
  pub kinds : (x : Puid) (kind : Kind) → kind_at s.graph x ≡ Some kind → kind_at t.graph x ≡ Some kind
  pub found : (from : Option Puid) (place : ℕ) (x : Puid) → is_found t from place x ≡ true
      → IsFoundBy s from place x ⊎ Waits more from x
  pub rescues : (index : Option Puid) (x : Puid) → Waits more index x
      → (is_remembered t.collection index x ≡ true) × (is_index_there t.graph index ≡ true)
  pub memory : (index : Option Puid) (x : Puid) → is_remembered s.collection index x ≡ true
      → is_remembered t.collection index x ≡ true
  pub leaves : (c : Colours) → read_so_far s.graph c ≤ read_so_far t.graph c
  pub unread : (c : Colours) → unread t c ≤ unread s c + length more

-- ---- what is asked

-- the request was done, and its effect is all of its outcome's
abbrev pub is_carried_out : Reply → Bool
is_carried_out replies.Done = true
is_carried_out (replies.Id id) = true
is_carried_out (replies.Grant t) = true
is_carried_out reply = false

abbrev pub id_named : Reply → List Puid
id_named (replies.Id id) = id ∷ []
id_named reply = []

abbrev rescue_in : Option Puid → List Puid → List Rescue
rescue_in index [] = []
rescue_in index (id ∷ ids) = record { index = index; id = id } ∷ []

-- what a request that was done puts into an index, or opens
abbrev put_by : State → ℕ → Request → Reply → List Rescue
put_by s who (asks.CreateFile kind fill index slot) reply = rescue_in (named s who index) (id_named reply)
put_by s who (asks.CreateIndex slots index slot) reply = rescue_in (named s who index) (id_named reply)
put_by s who (asks.Retain index slot id) reply = rescue_in (named s who index) (id ∷ [])
put_by s who (asks.OpenFor id mode) reply = rescue_in None (id ∷ [])
put_by s who request reply = []

-- the rescue that an answer adds, if any
abbrev pub rescues_of : State → ℕ → Request → Reply → List Rescue
rescues_of s who request reply = if is_carried_out reply then put_by s who request reply else []
