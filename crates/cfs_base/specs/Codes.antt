-- The codes of damage: what may be wrong with a block of a volume.
use Rattle.std.specs.Prelude.{ℕ}

-- the label has another number of cylinders than the disk
abbrev pub wrong_size : ℕ
wrong_size = 1

-- the bytes of a map's entry spell no entry
abbrev pub no_entry : ℕ
no_entry = 2

-- a root block, or a shadow root that stands in for it, is invalid
abbrev pub no_root : ℕ
no_root = 3

-- a pointer leads past the end of the disk
abbrev pub past_disk : ℕ
past_disk = 4

-- a block's map entry has another owner or place than the block
abbrev pub not_owned : ℕ
not_owned = 5

-- an identifier names no object
abbrev pub names_nothing : ℕ
names_nothing = 6

-- two shadow roots belong to one object
abbrev pub two_shadows : ℕ
two_shadows = 7

-- a leaf has a block though it is at or past the size
abbrev pub late_leaf : ℕ
late_leaf = 8

-- a leaf with a block has a byte past the size that isn't the fill byte
abbrev pub late_byte : ℕ
late_byte = 9

-- a node with a block leads to no leaf
abbrev pub dead_end : ℕ
dead_end = 10

-- fewer than 4 blocks are Free
abbrev pub too_full : ℕ
too_full = 11

-- a map has another number of Free entries than when the volume was opened
abbrev pub other_count : ℕ
other_count = 12
