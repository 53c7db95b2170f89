-- Where an object is found: in a leaf of an index or of its draft, or, outside all indices, as the root or an open
-- object.
use Rattle.std.specs.Prelude.{ℕ, ◌*◌, ◌-◌, Bool, false, not, ◌&&◌, nat_lt, if◌then◌else◌, List, take, drop, Option}
use Rattle.std.specs.Prelude.{Some, None}
use Rattle.std.specs.List.{filter_map}
use Rattle.std.specs.Option.{option_map}
use Rattle.cfs_base.specs.declared.identifier.Puid.{Puid}
use Rattle.cfs_base.specs.declared.kind.Kind.{Kind}
use Rattle.ufs_model.specs.Limits.{leaf_slots, most_leaves}
use Rattle.ufs_model.specs.declared.object.Object.{Object}
use Rattle.ufs_model.specs.declared.object.Object.TheVariants as objects
use Rattle.ufs_model.specs.declared.object.Index.{Index}
use Rattle.ufs_model.specs.Identifier.{is_among}
use Rattle.ufs_model.specs.Graph.{object_at}
pub use Rattle.ufs_model.specs.Kinds.{file_kind, kind_at, object_kind}
use Rattle.ufs_model.specs.State.{State, draft_at}
use Rattle.ufs_model.specs.Reach.{starts_now}

-- the identifiers in the slots of one leaf
abbrev pub leaf_ids : Index → ℕ → List Puid
leaf_ids i leaf = filter_map (λ slot. slot) (take leaf_slots (drop (leaf_slots * leaf) i.slots))

-- a slot of this leaf of the index, if the object is one, holds x
abbrev pub in_leaf : Option Object → ℕ → Puid → Bool
in_leaf None leaf x = false
in_leaf (Some (objects.File f)) leaf x = false
in_leaf (Some (objects.Index i)) leaf x = is_among x (leaf_ids i leaf)

-- Places are in the order in which an index is read. Those below this one are leaves of its draft, and those from it
-- on are its own leaves.
abbrev pub own_part : ℕ
own_part = most_leaves

-- A place of the draft has what that leaf of the draft has and the same leaf of the index has not. A place of the
-- index itself has what that leaf has.
abbrev pub at_place : (draft own : Option Object) → ℕ → Puid → Bool
at_place draft own place x =
    if nat_lt place own_part then in_leaf draft place x && not (in_leaf own place x)
    else in_leaf own (place - own_part) x

-- x is at this place of an index; or, without an index, x is the root or open
abbrev pub is_found : State → Option Puid → ℕ → Puid → Bool
is_found s None place x = is_among x (starts_now s)
is_found s (Some i) place x = at_place (draft_at s.grants i) (object_at s.graph i) place x

-- ---- kinds

-- the kind of an object, if there is one
abbrev pub kind_standing : Option Object → Option Kind
kind_standing o = option_map object_kind o
