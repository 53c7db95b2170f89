-- How a run is followed: what is remembered of a collection, one entry or opened object after another.
use Rattle.std.specs.Prelude.{◌≡◌, ℕ, ◌+◌, ◌<◌, ◌≤◌, ◌&&◌, ◌||◌, not, nat_lt, if◌then◌else◌, Bool, true, false, List}
use Rattle.std.specs.Prelude.{[], ◌∷◌, map, Option, Some, None, vec_len, vec_capacity}
use Rattle.std.specs.List.{list_all}
use Rattle.std.specs.Option.{option_map}
use Rattle.cfs_base.specs.declared.identifier.Puid.{Puid}
use Rattle.ufs_model.specs.declared.asked.Request.{Request}
use Rattle.ufs_model.specs.declared.asked.Request.TheVariants as asks
use Rattle.ufs_model.specs.declared.asked.Reply.{Reply}
use Rattle.ufs_model.specs.declared.asked.Reply.TheVariants as replies
use Rattle.ufs_model.specs.declared.collection.Collection.{Collection}
use Rattle.ufs_model.specs.declared.collection.Collection.TheVariants as collections
use Rattle.ufs_model.specs.declared.progress.Seen.{Seen}
use Rattle.ufs_model.specs.declared.progress.Seen.TheVariants.{Edge, Start}
use Rattle.ufs_model.specs.declared.progress.Progress.{Progress}
use Rattle.ufs_model.specs.declared.progress.Progress.TheVariants.{Idle, Marking, Sweeping}
use Rattle.ufs_model.specs.State.{State}
use Rattle.ufs_model.specs.Outcome.{with_edge, with_start}
use Rattle.ufs_model.specs.Next.{parts_of}
use Rattle.ufs_model.specs.Plain.{Server}
use Rattle.ufs_model.specs.declared.object.Object.{Object}
use Rattle.ufs_model.specs.Graph.{referred}
use Rattle.ufs_model.specs.Identifier.{is_among}
use Rattle.ufs_model.specs.Reach.{IsReached}
use Rattle.ufs_model.specs.Vanish.{edges, starts}

-- ---- a collection's memory

-- one more that a collection remembers
abbrev pub with_seen : Option Seen → Collection → Collection
with_seen None c = c
with_seen (Some (Edge i x)) c = with_edge (Some i) x c
with_seen (Some (Start x)) c = with_start x c

-- the collection after these are remembered, one after another
abbrev pub after_seen : Collection → List Seen → Collection
after_seen c [] = c
after_seen c (s ∷ more) = after_seen (with_seen (Some s) c) more

-- the collection of which this is remembered
abbrev pub collection_of : Progress → Collection
collection_of Idle = collections.None
collection_of (Marking seen) = after_seen (collections.Marking [] []) seen.items
collection_of Sweeping = collections.Sweeping

-- one more thing can be noted without taking memory
abbrev pub HasRoom : Progress → Type 0
HasRoom Idle = Unit {0}
HasRoom (Marking seen) = vec_len seen < vec_capacity seen
HasRoom Sweeping = Unit {0}

-- what a collection is to remember of a request that went to this identifier and was answered by this reply
abbrev pub seen_by : Option Puid → Request → Reply → Option Seen
seen_by to (asks.CreateFile kind fill index slot) (replies.Id id) = option_map (λ i. Edge i id) to
seen_by to (asks.CreateIndex slots index slot) (replies.Id id) = option_map (λ i. Edge i id) to
seen_by to (asks.Retain index slot id) reply = option_map (λ i. Edge i id) to
seen_by to (asks.OpenFor id mode) reply = Some (Start id)
seen_by to request reply = None

-- the entries of an object, seen as edges
abbrev pub edges_from : Puid → Object → List Seen
edges_from id o = map (λ x. Edge id x) (referred o)

-- each pair, seen as an edge
abbrev pub edges_of : List (Puid × Puid) → List Seen
edges_of pairs = map (λ e. Edge e.0 e.1) pairs

-- what is reached from the starts among these, through the edges among them
abbrev pub IsReachedBy : List Seen → Puid → Type 0
IsReachedBy seen x =
    let c = after_seen (collections.Marking [] []) seen in IsReached (edges c) (starts c) x

-- where one of them leads from these identifiers
abbrev pub leads_to : List Puid → Seen → Option Puid
leads_to ids (Edge i x) = if is_among i ids then Some x else None
leads_to ids (Start x) = Some x

-- it leads only to these identifiers
abbrev pub leads_within : List Puid → Seen → Bool
leads_within ids (Edge i x) = not (is_among i ids) || is_among x ids
leads_within ids (Start x) = is_among x ids

abbrev pub seen_end : Seen → Puid
seen_end (Edge i x) = x
seen_end (Start x) = x

-- What is reached after going through some of what was seen: no less than before, and nothing that isn't reached. If
-- nothing was added, those led to nothing new.
pub record IsSpread (seen done : List Seen) (old new : List Puid) (grew : Bool) : Type 0 where
  pub grows : (x : Puid) → is_among x old ≡ true → is_among x new ≡ true
  pub sound : ((x : Puid) → is_among x old ≡ true → IsReachedBy seen x) → (x : Puid) → is_among x new ≡ true
      → IsReachedBy seen x
  pub more : grew ≡ true → (x : Puid) × (is_among x (map seen_end seen) ≡ true) × (is_among x old ≡ false)
      × (is_among x new ≡ true)
  pub closed : grew ≡ false → list_all (leads_within new) done ≡ true

-- ---- a state, with its stop and its collection beside it

abbrev pub beside : State → Option ℕ → Collection → State
beside s stopped collection = record s { stopped = stopped; collection = collection }

-- ---- which replies report what was done, and which refuse

abbrev pub is_done : Reply → Bool
is_done reply = nat_lt (parts_of reply).0 5

abbrev pub refuses : Reply → Bool
refuses reply = nat_lt 6 (parts_of reply).0 && nat_lt (parts_of reply).0 17

-- ---- a step

-- The step was made, and the state is the one that may follow. Or nothing may follow, and nothing was changed.
abbrev pub IsMade : Option State → Server → Bool → Server → Type 0
IsMade after old true new = (after ≡ Some new.state) × (new.seed ≡ old.seed) × (new.state.drawn ≤ old.state.drawn + 1)
IsMade after old false new = (after ≡ None) × (new ≡ old)
