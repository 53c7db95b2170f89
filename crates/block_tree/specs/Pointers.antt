-- The pointers in a block: big-endian numbers of 4 bytes, one after another.
use Rattle.std.specs.Prelude.{ℕ, ◌+◌, ◌*◌, List, [], ◌∷◌, take, drop, map, replicate}
use Rattle.std.specs.List.{range_with_len, flat_map}
use Rattle.std.specs.Int.{from_be_bytes, to_be_bytes, w32}

-- the k-th number of 4 bytes
abbrev pub number_at : List ℕ → ℕ → ℕ
number_at bytes k = from_be_bytes w32 (take 4 (drop (4 * k) bytes))

-- as many numbers, from the given one on
abbrev pub numbers_from : List ℕ → ℕ → ℕ → List ℕ
numbers_from bytes from count = map (λ k. number_at bytes (from + k)) (range_with_len 0 count)

-- the bytes of numbers
abbrev pub numbers_spelling : List ℕ → List ℕ
numbers_spelling numbers = flat_map (to_be_bytes w32) numbers

-- where the pointers of a block are: `count` numbers, beginning at number `from`
pub record Level : Type 0 where
  pub from : ℕ
  pub count : ℕ

-- the pointers of a root block to its nodes
abbrev pub node_pointers : Level
node_pointers = record { from = 8; count = 120 }

-- the pointers of a node to its leaves
abbrev pub leaf_pointers : Level
leaf_pointers = record { from = 0; count = 128 }

-- how many levels of nodes are below a root
abbrev pub node_levels : ℕ
node_levels = 1

-- `height` levels of nodes, down to the leaves
abbrev pub levels_below : ℕ → List Level
levels_below height = replicate height leaf_pointers

-- how many leaves are below a block with these levels
abbrev pub width : List Level → ℕ
width [] = 1
width (level ∷ levels) = level.count * width levels

-- how many leaves an object may have
abbrev pub leaf_limit : ℕ
leaf_limit = width (node_pointers ∷ levels_below node_levels)

-- the greatest size of an object in bytes
abbrev pub size_limit : ℕ
size_limit = 512 * leaf_limit

-- the pointers of a block
unfoldable pub pointers_of : Level → List ℕ → List ℕ
pointers_of level block = numbers_from block level.from level.count
