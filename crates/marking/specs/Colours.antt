-- What is marked and what is grey, and how shading changes it.
use Rattle.std.specs.Prelude.{ℕ, Bool, true, false, ◌||◌, ◌==◌, if◌then◌else◌, List, [], ◌∷◌, Option, Some, None}
use Rattle.std.specs.Prelude.{nat_lt, slice_get}
use Rattle.std.specs.BTreeMap.{is_at}
use Rattle.std.specs.Map.{lookup}
use Rattle.cfs_base.specs.declared.identifier.Puid.{Puid}
use Rattle.cfs_base.specs.declared.kind.Kind.{Kind}
use Rattle.cfs_base.specs.declared.kind.Kind.TheVariants.{Normal, Special, Index}
use Rattle.ufs_model.specs.Identifier.{puid_cmp, same_puid}
use Rattle.marking.specs.declared.memory.Grey.{Grey}
use Rattle.marking.specs.Leaves.{own_part}

pub record Colours : Type 0 where
  -- whether the object with this root block is marked
  pub marked : ℕ → Bool
  -- the marked indices that are not read to their end
  pub grey : List Grey

abbrev pub none_marked : Colours
none_marked = record { marked = λ block. false; grey = [] }

-- ---- shading

abbrev pub is_index : Kind → Bool
is_index Normal = false
is_index Special = false
is_index Index = true

-- an object that isn't marked is marked, and grey if it is an index
abbrev pub shaded : Puid → Kind → Colours → Colours
shaded id kind c =
    if c.marked id.block then c else record {
      marked = λ block. (block == id.block) || c.marked block;
      grey = if is_index kind then record { id = id; cursor = 0 } ∷ c.grey else c.grey;
    }

-- the kind that a directory has for an identifier
abbrev pub kind_among : List (Puid × Kind) → Puid → Option Kind
kind_among directory id = lookup (is_at (puid_cmp id)) directory

-- an identifier that isn't in the list is not shaded
abbrev pub shaded_as : Option Kind → Puid → Colours → Colours
shaded_as None id c = c
shaded_as (Some kind) id c = shaded id kind c

abbrev pub shaded_in : List (Puid × Kind) → Puid → Colours → Colours
shaded_in directory id c = shaded_as (kind_among directory id) id c

abbrev pub all_shaded : List (Puid × Kind) → List Puid → Colours → Colours
all_shaded directory [] c = c
all_shaded directory (id ∷ ids) c = all_shaded directory ids (shaded_in directory id c)

-- ---- the first grey index

abbrev pub first_grey : Colours → Option Grey
first_grey c = slice_get c.grey 0

-- its cursor moves, or it is read to its end and no longer grey
abbrev pub moved_first : Option ℕ → List Grey → List Grey
moved_first next [] = []
moved_first None (e ∷ es) = es
moved_first (Some cursor) (e ∷ es) = record { id = e.id; cursor = cursor } ∷ es

abbrev pub moved : Option ℕ → Colours → Colours
moved next c = record c { grey = moved_first next c.grey }

-- how far an index was read, or None if it isn't grey
abbrev pub cursor_of : List Grey → Puid → Option ℕ
cursor_of [] i = None
cursor_of (e ∷ es) i = if same_puid i e.id then Some e.cursor else cursor_of es i

-- its cursor moves there, where the index is first in the list
abbrev pub moved_at : Puid → ℕ → List Grey → List Grey
moved_at i cursor [] = []
moved_at i cursor (e ∷ es) = if same_puid i e.id then record e { cursor = cursor } ∷ es else e ∷ moved_at i cursor es

abbrev pub with_cursor : Puid → ℕ → Colours → Colours
with_cursor i cursor c = record c { grey = moved_at i cursor c.grey }

-- ---- how a draft ends

-- if the draft was being read, the reading goes on at the index's own first leaf
abbrev pub ended_from : Option ℕ → Puid → Colours → Colours
ended_from None i c = c
ended_from (Some cursor) i c = if nat_lt cursor own_part then with_cursor i own_part c else c

abbrev pub draft_over : Puid → Colours → Colours
draft_over i c = ended_from (cursor_of c.grey i) i c
