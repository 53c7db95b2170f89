-- Bytes at places, laid over one another, and the bytes of a leaf that a change leaves.
use Rattle.std.specs.Prelude.{ℕ, ◌+◌, ◌-◌, ◌*◌, ◌%◌, ◌^◌, ◌<◌, List, ◌++◌, length, take, drop, replicate, slice_range}
use Rattle.std.specs.Prelude.{Option, Some, None}
use Rattle.std.specs.Int.{to_be_bytes, w32}
use Rattle.cfs_base.specs.declared.identifier.Puid.{Puid}

-- the bytes `below`, which begin at `at`, with the bytes `above` laid over them, which begin at `from`, as far as
-- they overlap
unfoldable pub overlaid : ℕ → List ℕ → ℕ → List ℕ → List ℕ
overlaid at below from above =
    take (from - at) below ++ slice_range above (at - from) (at + length below - from)
    ++ drop (from + length above - at) below

-- the bytes of a leaf, once these are written at an offset of its file
abbrev pub patched : ℕ → ℕ → List ℕ → List ℕ → List ℕ
patched leaf offset bytes content = overlaid (512 * leaf) content offset bytes

-- a part of a file that begins at an offset, once the bytes of this leaf are copied into it
abbrev pub with_leaf_copied : ℕ → List ℕ → ℕ → List ℕ → List ℕ
with_leaf_copied leaf content offset part = overlaid offset part (512 * leaf) content

-- the bytes of the leaf in which a file of this size ends: fill bytes from the file's end on
unfoldable pub cut : ℕ → ℕ → List ℕ → List ℕ
cut size fill content = take (size % 512) content ++ replicate (512 - size % 512) fill

-- what a slot holds: nothing, or an identifier, whose block is never 0
abbrev pub IsSlot : Option Puid → Type 0
IsSlot None = Unit {0}
IsSlot (Some id) = (0 < id.block) × (id.block < 2 ^ 32) × (id.word < 2 ^ 32)

-- the 8 bytes of a slot: block and word of its identifier, or zeros
abbrev pub slot_spelling : Option Puid → List ℕ
slot_spelling None = replicate 8 0
slot_spelling (Some id) = to_be_bytes w32 id.block ++ to_be_bytes w32 id.word

-- the bytes of a leaf of an index with this in a slot, where the first slot of the leaf is slot 0
unfoldable pub with_slot : ℕ → Option Puid → List ℕ → List ℕ
with_slot slot what content = take (8 * slot) content ++ slot_spelling what ++ drop (8 * slot + 8) content
