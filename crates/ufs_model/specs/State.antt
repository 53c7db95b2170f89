-- What the server remembers, and what a reference of a session goes to.
use Rattle.std.specs.Prelude.{ℕ, Bool, not, ◌&&◌, ◌==◌, is_none, is_some, if◌then◌else◌, List, [], ◌∷◌, ◌++◌, map}
use Rattle.std.specs.Prelude.{filter, find, Option, Some, None, option_and_then, unwrap_or}
use Rattle.std.specs.List.{flat_map}
use Rattle.cfs_base.specs.declared.identifier.Puid.{Puid}
use Rattle.cfs_base.specs.declared.identifier.Tuid.{Tuid}
use Rattle.cfs_base.specs.declared.kind.FileKind.TheVariants as kinds
use Rattle.ufs_model.specs.declared.asked.Ref.{Ref}
use Rattle.ufs_model.specs.declared.asked.Ref.TheVariants.{Direct, Through}
use Rattle.ufs_model.specs.declared.collection.Collection.{Collection}
use Rattle.ufs_model.specs.declared.collection.Collection.TheVariants as collections
use Rattle.ufs_model.specs.declared.object.Object.{Object}
use Rattle.ufs_model.specs.declared.object.Object.TheVariants as objects
use Rattle.ufs_model.specs.declared.object.File.{File}
use Rattle.ufs_model.specs.declared.object.Index.{Index}
use Rattle.ufs_model.specs.declared.object.Draft.{Draft}
use Rattle.ufs_model.specs.declared.object.Grant.{Grant}
use Rattle.ufs_model.specs.Identifier.{same_puid, same_tuid}
use Rattle.ufs_model.specs.Object.{Change, changed_object, fresh_after, new_file, new_index}
use Rattle.ufs_model.specs.Graph.{Graph, object_at, with_object, graph_pairs, referred}

pub record State : Type 0 where
  pub graph : Graph
  pub grants : List Grant
  -- how many words were drawn
  pub drawn : ℕ
  -- the moment at which the server stopped
  pub stopped : Option ℕ
  pub collection : Collection

-- the state in which a run begins
abbrev pub opening : Graph → State
opening g = record { graph = g; grants = []; drawn = 0; stopped = None; collection = collections.None }

abbrev pub is_running : State → Bool
is_running s = is_none s.stopped

abbrev pub stopped_at : ℕ → State → State
stopped_at moment s = record s { stopped = Some moment }

-- the object of a draft
abbrev pub object_in : Option Draft → Option Object
object_in None = None
object_in (Some d) = Some d.object

-- the identifiers in the slots of a grant's draft
abbrev pub drafted : Grant → List Puid
drafted g = elim g.draft [ None ↦ [] | Some d ↦ referred d.object ]

-- each pair of an object that is open and an object to which its draft refers
abbrev pub draft_pairs : List Grant → List (Puid × Puid)
draft_pairs grants = flat_map (λ g. map (λ x. (g.id, x)) (drafted g)) grants

-- index i refers to x, by a slot of its own or of its draft: each such pair that there is now
abbrev pub pairs_of : State → List (Puid × Puid)
pairs_of s = graph_pairs s.graph ++ draft_pairs s.grants

-- ---- grants

abbrev pub is_grant : ℕ → Tuid → Grant → Bool
is_grant who t g = (g.session == who) && same_tuid g.tuid t

-- the session's grant with that identifier
abbrev pub grant_of : State → ℕ → Tuid → Option Grant
grant_of s who t = find (is_grant who t) s.grants

-- the draft of an object that is open for writing
abbrev pub draft_at : List Grant → Puid → Option Object
draft_at [] id = None
draft_at (g ∷ gs) id = if same_puid id g.id && is_some g.draft then object_in g.draft else draft_at gs id

-- the objects that are open
abbrev pub open_ids : State → List Puid
open_ids s = map (λ g. g.id) s.grants

-- the session's grants, with their drafts, are dropped
abbrev pub after_leave : State → ℕ → State
after_leave s who = record s { grants = filter (λ g. not (g.session == who)) s.grants }

-- ---- what a reference goes to

-- the identifier that a reference names
abbrev pub named : State → ℕ → Ref → Option Puid
named s who (Direct id) = Some id
named s who (Through t) = option_and_then (λ g. Some g.id) (grant_of s who t)

abbrev pub object_of : State → ℕ → Ref → Option Object
object_of s who ref = option_and_then (object_at s.graph) (named s who ref)

abbrev pub draft_of : State → ℕ → Ref → Option Draft
draft_of s who (Direct id) = None
draft_of s who (Through t) = option_and_then (λ g. g.draft) (grant_of s who t)

-- What a reference shows: the grant's draft if it has one, else the object, of which nothing is fresh. A reference
-- that is refused shows an empty index.
abbrev pub seen : State → ℕ → Ref → Draft
seen s who ref = unwrap_or (draft_of s who ref) (record {
  object = unwrap_or (object_of s who ref) (objects.Index (new_index 0));
  fresh = [];
})

-- the object as an index, and as a file
abbrev pub the_index : Object → Index
the_index (objects.Index i) = i
the_index (objects.File f) = new_index 0

abbrev pub the_file : Object → File
the_file (objects.File f) = f
the_file (objects.Index i) = new_file kinds.Normal 0

abbrev pub index_seen : State → ℕ → Ref → Index
index_seen s who ref = the_index (seen s who ref).object

abbrev pub file_seen : State → ℕ → Ref → File
file_seen s who ref = the_file (seen s who ref).object

-- ---- what a reference goes to, changed

abbrev pub changed_draft : Change → Draft → Draft
changed_draft c d = record { object = changed_object c d.object; fresh = fresh_after c d.object d.fresh }

-- the grants with this draft in the session's grant with that identifier
abbrev pub with_draft : ℕ → Tuid → Draft → List Grant → List Grant
with_draft who t d grants = map (λ g. if is_grant who t g then record g { draft = Some d } else g) grants

abbrev pub put_object : State → Option Puid → Object → State
put_object s None o = s
put_object s (Some id) o = record s { graph = with_object s.graph id o }

abbrev pub put_draft : State → ℕ → Ref → Draft → State
put_draft s who (Direct id) d = s
put_draft s who (Through t) d = record s { grants = with_draft who t d s.grants }

-- the state in which the reference shows this: in the grant's draft if it has one, else in the graph
abbrev pub put : State → ℕ → Ref → Draft → State
put s who ref d = elim (draft_of s who ref) [
  | Some old ↦ put_draft s who ref d
  | None ↦ put_object s (named s who ref) d.object
]
