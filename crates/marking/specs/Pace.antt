-- How many leaves a collection has read: each scan raises this, and the number of blocks of the graph bounds it.
use Rattle.std.specs.Prelude.{ℕ, ◌+◌, ◌≤◌, ◌<◌, ◌^◌, ◌-◌, nat_lt, List, [], ◌∷◌, length, count_by, if◌then◌else◌}
use Rattle.std.specs.Prelude.{Option, Some, None}
use Rattle.std.specs.Prelude.{◌*◌, nat_le, Bool, is_some}
use Rattle.std.specs.List.{sum_by}
use Rattle.cfs_base.specs.declared.identifier.Puid.{Puid}
use Rattle.ufs_model.specs.declared.object.Object.{Object}
use Rattle.ufs_model.specs.declared.object.Object.TheVariants as objects
use Rattle.cfs_base.specs.Outside.{count_after}
use Rattle.ufs_model.specs.Graph.{Graph, ids_of, object_at}
use Rattle.ufs_model.specs.Need.{one_if}
use Rattle.ufs_model.specs.State.{State}
use Rattle.ufs_model.specs.State.{draft_at}
use Rattle.marking.specs.declared.memory.Rescue.{Rescue}
use Rattle.marking.specs.Leaves.{own_part}
use Rattle.marking.specs.Colours.{Colours, cursor_of}

-- how many steps were made on an index's own leaves at most: one for each held leaf below its cursor, and one more
-- once it is read to its end
abbrev pub read_of : Option ℕ → List ℕ → ℕ
read_of (Some cursor) held = count_by (λ leaf. nat_lt (own_part + leaf) cursor) held
read_of None held = 1 + length held

abbrev pub read_in : Colours → Puid × Object → ℕ
read_in c (id, objects.File f) = 0
read_in c (id, objects.Index i) = if c.marked id.block then read_of (cursor_of c.grey id) i.held else 0

-- over all objects
abbrev pub read_so_far : Graph → Colours → ℕ
read_so_far g c = sum_by (read_in c) g.objects

-- ---- the leaves of drafts

abbrev pub index_leaves : Object → List ℕ
index_leaves (objects.File f) = []
index_leaves (objects.Index i) = i.held

-- the leaves of a draft, which holds what its index holds, or those with which a draft would begin
abbrev pub drafted_leaves : (draft own : Option Object) → List ℕ
drafted_leaves (Some d) own = index_leaves d
drafted_leaves None (Some o) = index_leaves o
drafted_leaves None None = []

-- how many steps may still be made on these: one for each leaf from a cursor on, and one to leave a draft that has
-- none
abbrev pub unread_of : (has_draft : Bool) → Option ℕ → List ℕ → ℕ
unread_of has_draft None held = 0
unread_of has_draft (Some cursor) held =
    if nat_lt cursor own_part then count_by (λ leaf. nat_le cursor leaf) held + one_if has_draft else 0

-- where the reading of an object is: at its first place if it isn't marked
abbrev pub reading_at : Colours → Puid → Option ℕ
reading_at c id = if c.marked id.block then cursor_of c.grey id else Some 0

abbrev pub unread_at : State → Colours → Puid → ℕ
unread_at s c id =
    let draft = draft_at s.grants id in
    unread_of (is_some draft) (reading_at c id) (drafted_leaves draft (object_at s.graph id))

-- over all objects
abbrev pub unread : State → Colours → ℕ
unread s c = sum_by (unread_at s c) (ids_of s.graph)

-- ---- the steps

-- a count of rescues, with these added
abbrev pub added_with : List Rescue → ℕ → ℕ
added_with [] added = added
added_with (r ∷ rs) added = added_with rs (count_after added)

-- The number of steps, with the beginning, is at most one, plus one for each rescue that was taken, one for each own
-- leaf of an index that was read, one for each index that was read to its end, and those on leaves of drafts. There
-- were no more leaves of drafts than blocks as the collection began, and each rescue adds at most one. This holds as
-- long as the count of rescues is below its type's end.
abbrev pub IsPaced : State → Colours → List Rescue → (volume steps added : ℕ) → Type 0
IsPaced s c waiting volume steps added = added < 2 ^ 64 - 1
    → steps + length waiting + unread s c ≤ 1 + volume + 2 * added + read_so_far s.graph c
