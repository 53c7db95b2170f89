-- Files and indices: what they hold, and how they are made and changed.
use Rattle.std.specs.Prelude.{ℕ, zero, suc, ◌+◌, ◌-◌, ◌*◌, ◌/◌, ◌%◌, ◌<◌, ◌≤◌, Bool, true, not, ◌&&◌, ◌||◌, ◌==◌}
use Rattle.std.specs.Prelude.{nat_lt, nat_le, is_none, is_some, if◌then◌else◌, List, [], ◌∷◌, ◌++◌, length, filter}
use Rattle.std.specs.Prelude.{take, drop, replicate, slice_get, slice_set, Option, None, unwrap_or, IsTrue}
use Rattle.std.specs.List.{list_all, sum_by, range_with_len}
use Rattle.cfs_base.specs.declared.identifier.Puid.{Puid}
use Rattle.cfs_base.specs.declared.kind.FileKind.{FileKind}
use Rattle.ufs_model.specs.Limits.{leaf_size, leaf_slots, most_bytes, most_slots}
pub use Rattle.ufs_model.specs.declared.change.Change.{Change}
pub use Rattle.ufs_model.specs.declared.change.Change.TheVariants.{Fill, Overwrite, SetSize}
use Rattle.ufs_model.specs.declared.object.Object.{Object}
use Rattle.ufs_model.specs.declared.object.File.{File}
use Rattle.ufs_model.specs.declared.object.Index.{Index}
use Rattle.ufs_model.specs.declared.object.Object.TheVariants as objects
use Rattle.ufs_model.specs.Numbers.{numbers_rise, has_number, with_number, with_numbers, parents, branches, lacking}
use Rattle.ufs_model.specs.Numbers.{shared, merged, within, first_level, next_levels}

-- ---- what an object holds: a root block, leaves, and inner blocks that lead to them

abbrev pub held_leaves : Object → List ℕ
held_leaves (objects.File f) = f.held
held_leaves (objects.Index i) = i.held

-- the levels of inner blocks between the root and the leaves: the nodes
abbrev pub inner_levels : Object → ℕ
inner_levels o = 1

-- the leaves that are held, and the inner blocks above them
abbrev pub held_levels : Object → List (List ℕ)
held_levels o = branches (inner_levels o) (held_leaves o)

abbrev pub held_nodes : Object → List ℕ
held_nodes o = parents (held_leaves o)

-- how many blocks an object takes
abbrev pub blocks_of : Object → ℕ
blocks_of o = 1 + sum_by length (held_levels o)

-- how many leaves hold this many bytes
abbrev pub leaves_in : ℕ → ℕ
leaves_in size = (size + leaf_size - 1) / leaf_size

-- the leaves with the bytes from offset to offset + count - 1
abbrev pub touched : ℕ → ℕ → List ℕ
touched offset count = range_with_len (offset / leaf_size) (leaves_in (offset + count) - offset / leaf_size)

abbrev pub leaf_of_slot : ℕ → ℕ
leaf_of_slot slot = slot / leaf_slots

-- ---- well-formed objects

abbrev pub byte_may_stand : File → ℕ → ℕ → Bool
byte_may_stand f at byte = nat_lt byte 256 && ((byte == f.fill) || has_number (at / leaf_size) f.held)

abbrev pub slot_may_stand : Index → ℕ → Option Puid → Bool
slot_may_stand i at what = is_none what || has_number (leaf_of_slot at) i.held

-- a test of each element and its place, beginning at a place
abbrev pub each_from : {A : Type 0} → (ℕ → A → Bool) → ℕ → List A → Bool
each_from test at [] = true
each_from test at (x ∷ xs) = test at x && each_from test (at + 1) xs

-- the object is within the limits, and a leaf that is not held has only fill bytes, or only empty slots
abbrev pub is_object : Object → Bool
is_object (objects.File f) =
    nat_le (length f.bytes) most_bytes && nat_lt f.fill 256
    && numbers_rise f.held && list_all (λ leaf. nat_lt leaf (leaves_in (length f.bytes))) f.held
    && each_from (byte_may_stand f) 0 f.bytes
is_object (objects.Index i) =
    not (length i.slots == 0) && nat_le (length i.slots) most_slots
    && numbers_rise i.held && list_all (λ leaf. nat_lt (leaf * leaf_slots) (length i.slots)) i.held
    && each_from (slot_may_stand i) 0 i.slots

abbrev pub IsObject : Object → Type 0
IsObject o = IsTrue (is_object o)

-- ---- made and changed

abbrev pub new_file : FileKind → ℕ → File
new_file kind fill = record { kind = kind; fill = fill; bytes = []; held = [] }

abbrev pub new_index : ℕ → Index
new_index slots = record { slots = replicate slots None; held = [] }

-- a file with these bytes at the offset
abbrev pub written : File → ℕ → List ℕ → File
written f offset bytes = record f {
  bytes = take offset f.bytes ++ bytes ++ drop (offset + length bytes) f.bytes;
  held = with_numbers (touched offset (length bytes)) f.held;
}

-- a file of this size: bytes are dropped from the end, or fill bytes are added there
abbrev pub resized : File → ℕ → File
resized f size = record f {
  bytes = take size f.bytes ++ replicate (size - length f.bytes) f.fill;
  held = filter (λ leaf. nat_lt leaf (leaves_in size)) f.held;
}

-- an index with this in the slot, whatever the slot held. The leaf of a slot that is filled is held from then on.
abbrev pub filled : Index → ℕ → Option Puid → Index
filled i slot what = record i {
  slots = slice_set i.slots slot what;
  held = if is_some what then with_number (leaf_of_slot slot) i.held else i.held;
}

abbrev pub slot_of : Index → ℕ → Option Puid
slot_of i slot = unwrap_or (slice_get i.slots slot) None

-- ---- a change of one object

abbrev pub changed_object : Change → Object → Object
changed_object (Fill slot what) (objects.Index i) = objects.Index (filled i slot what)
changed_object (Fill slot what) (objects.File f) = objects.File f
changed_object (Overwrite offset bytes) (objects.File f) = objects.File (written f offset bytes)
changed_object (Overwrite offset bytes) (objects.Index i) = objects.Index i
changed_object (SetSize size) (objects.File f) = objects.File (resized f size)
changed_object (SetSize size) (objects.Index i) = objects.Index i

-- the place of a change is within the object
abbrev pub IsInside : Change → Object → Type 0
IsInside (Fill slot what) (objects.Index i) = slot < length i.slots
IsInside (Fill slot what) (objects.File f) = Unit {0}
IsInside (Overwrite offset bytes) (objects.File f) = offset + length bytes ≤ length f.bytes
IsInside (Overwrite offset bytes) (objects.Index i) = Unit {0}
IsInside (SetSize size) (objects.File f) = size ≤ most_bytes
IsInside (SetSize size) (objects.Index i) = Unit {0}

abbrev pub size_of : Object → ℕ
size_of (objects.File f) = length f.bytes
size_of (objects.Index i) = 8 * length i.slots

-- ---- the blocks that a change writes anew, if the old ones stay until it is committed

-- the leaf within which a resize cuts, if it is held
abbrev pub cut_leaf : ℕ → List ℕ → List ℕ
cut_leaf size held = if size % leaf_size == 0 then [] else shared (size / leaf_size ∷ []) held

-- A resize to less keeps some blocks of a level, drops others, and writes some anew. On the levels above, a block
-- that is kept is written anew if it leads to one that is dropped, or to one that wasn't fresh and now is.
abbrev pub recut : ℕ → (kept gone anew : List ℕ) → (fresh : List (List ℕ)) → List (List ℕ)
recut zero kept gone anew fresh = anew ∷ []
recut (suc n) kept gone anew fresh =
    anew ∷ recut n (parents kept) (lacking (parents gone) (parents kept))
    (shared (parents kept) (parents (with_numbers gone (lacking anew (first_level fresh)))))
    (next_levels fresh)

-- the blocks that a resize to less writes anew, if these leaves are held
abbrev pub resize_anew : (levels size : ℕ) → (held : List ℕ) → (fresh : List (List ℕ)) → List (List ℕ)
resize_anew levels size held fresh =
    recut levels (filter (λ leaf. nat_lt leaf (leaves_in size)) held)
    (filter (λ leaf. nat_le (leaves_in size) leaf) held) (cut_leaf size held) fresh

abbrev pub written_anew : Change → Object → (fresh : List (List ℕ)) → List (List ℕ)
written_anew (Fill slot what) o fresh = branches (inner_levels o) (leaf_of_slot slot ∷ [])
written_anew (Overwrite offset bytes) o fresh = branches (inner_levels o) (touched offset (length bytes))
written_anew (SetSize size) o fresh =
    if nat_le (size_of o) size then [] else resize_anew (inner_levels o) size (held_leaves o) fresh

-- the fresh blocks after a change: also those that it writes anew, as far as the object still holds them
abbrev pub fresh_after : Change → Object → List (List ℕ) → List (List ℕ)
fresh_after c o fresh = within (merged (written_anew c o fresh) fresh) (held_levels (changed_object c o))
