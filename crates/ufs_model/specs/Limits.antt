-- The limits of the server, as numbers.
use Rattle.std.specs.Prelude.{ℕ, ◌*◌}

-- the number of bytes in a leaf, and of its slots, each of 8 bytes
abbrev pub leaf_size : ℕ
leaf_size = 512

abbrev pub leaf_slots : ℕ
leaf_slots = 64

-- the number of blocks of the level below to which an inner block leads
abbrev pub fan_out : ℕ
fan_out = 128

-- the number of leaves of the largest object
abbrev pub most_leaves : ℕ
most_leaves = 15360

-- the number of bytes of the largest file, and of slots of the largest index
abbrev pub most_bytes : ℕ
most_bytes = leaf_size * most_leaves

abbrev pub most_slots : ℕ
most_slots = leaf_slots * most_leaves

-- the number of slots of the root index
abbrev pub root_slots : ℕ
root_slots = 64

-- the number of bytes of the largest read or write
abbrev pub most_at_once : ℕ
most_at_once = 4096

-- the number of grants that one session may have at a time
abbrev pub most_grants : ℕ
most_grants = 64

-- the number of blocks that stay Free for deletes
abbrev pub reserve : ℕ
reserve = 4

-- the number of bytes of the longest request line, and of the longest name
abbrev pub most_line : ℕ
most_line = 16384

abbrev pub most_name : ℕ
most_name = 32
