-- The steps of a collection that marks, on its colours.
use Rattle.std.specs.Prelude.{◌≡◌, ℕ, ◌+◌, Bool, true, nat_le, is_some, if◌then◌else◌, List, filter, find, not, Option}
use Rattle.std.specs.Prelude.{Some, None}
use Rattle.std.specs.Prelude.{◌-◌, nat_lt, []}
use Rattle.cfs_base.specs.declared.identifier.Puid.{Puid}
use Rattle.cfs_base.specs.declared.kind.Kind.{Kind}
use Rattle.ufs_model.specs.declared.object.Object.{Object}
use Rattle.ufs_model.specs.declared.object.Object.TheVariants as objects
use Rattle.ufs_model.specs.declared.object.Index.{Index}
use Rattle.ufs_model.specs.Graph.{Graph}
use Rattle.marking.specs.declared.memory.Rescue.{Rescue}
use Rattle.marking.specs.Leaves.{leaf_ids, kind_at, own_part}
use Rattle.marking.specs.Colours.{Colours, kind_among, shaded_in, all_shaded, moved}

-- the directory has the graph's identifiers, with their kinds
abbrev pub IsDirectoryOf : List (Puid × Kind) → Graph → Type 0
IsDirectoryOf directory g = (id : Puid) → kind_among directory id ≡ kind_at g id

-- ---- a rescue is taken

-- an object found here is to be shaded: there is no index, or it is marked
abbrev pub is_live : Option Puid → Colours → Bool
is_live None c = true
is_live (Some i) c = c.marked i.block

abbrev pub rescued : List (Puid × Kind) → Rescue → Colours → Colours
rescued directory r c = if is_live r.index c then shaded_in directory r.id c else c

-- ---- the next held leaf of an index is read

-- the first held leaf that is not below a number
abbrev pub next_held : ℕ → Index → Option ℕ
next_held from i = find (nat_le from) i.held

-- a place, if the index has a held leaf from a leaf on
abbrev pub if_held : Index → (from place : ℕ) → Option ℕ
if_held i from place = if is_some (next_held from i) then Some place else None

-- after a leaf of the draft comes the draft's next, and after its last the first of the index itself
abbrev pub after_draft : (draft i : Index) → ℕ → Option ℕ
after_draft draft i leaf = if is_some (next_held (leaf + 1) draft) then Some (leaf + 1) else if_held i 0 own_part

-- the objects that a step finds, and the place where the next step goes on, if one follows
abbrev pub draft_step : (draft i : Index) → Option ℕ → List Puid × Option ℕ
draft_step draft i None = ([], if_held i 0 own_part)
draft_step draft i (Some leaf) = (leaf_ids draft leaf, after_draft draft i leaf)

abbrev pub own_step : Index → Option ℕ → List Puid × Option ℕ
own_step i None = ([], None)
own_step i (Some leaf) = (leaf_ids i leaf, if_held i (leaf + 1) (own_part + (leaf + 1)))

-- the draft of an index, if it has one
abbrev pub IsDraftIndex : Option Object → Option Index → Type 0
IsDraftIndex o None = o ≡ None
IsDraftIndex o (Some d) = o ≡ Some (objects.Index d)

abbrev pub step_of : Option Index → Index → ℕ → List Puid × Option ℕ
step_of None i cursor = own_step i (next_held (cursor - own_part) i)
step_of (Some draft) i cursor =
    if nat_lt cursor own_part then draft_step draft i (next_held cursor draft)
    else own_step i (next_held (cursor - own_part) i)

-- The first grey index is read on: each object in the leaf that a step found is shaded. If no leaf follows the index
-- is no longer grey.
abbrev pub read : List (Puid × Kind) → List Puid × Option ℕ → Colours → Colours
read directory step c = all_shaded directory step.0 (moved step.1 c)

abbrev pub scanned : List (Puid × Kind) → Option Index → Index → ℕ → Colours → Colours
scanned directory draft i cursor c = read directory (step_of draft i cursor) c

-- ---- what isn't marked is removed

abbrev pub unmarked : Colours → List Puid → List Puid
unmarked c ids = filter (λ x. not (c.marked x.block)) ids
