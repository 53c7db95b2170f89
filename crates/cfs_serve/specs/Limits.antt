-- The limits of the program, as numbers.
use Rattle.std.specs.Prelude.{ℕ}

-- the cylinders of the largest volume in memory
abbrev pub most_cylinders : ℕ
most_cylinders = 1024

-- the cylinders of the largest volume in a file
abbrev pub most_file_cylinders : ℕ
most_file_cylinders = 65536

-- the cylinders of the largest volume of pairs of blocks
abbrev pub most_pair_cylinders : ℕ
most_pair_cylinders = 16384

-- the blocks of the largest volume that is checked or mended
abbrev pub most_inspected : ℕ
most_inspected = 524288

-- the map blocks that a service holds in memory
abbrev pub held_maps : ℕ
held_maps = 64

-- the bytes of the longest request file
abbrev pub most_script : ℕ
most_script = 16777216

-- the bytes of the longest trail that is audited
abbrev pub most_trail : ℕ
most_trail = 268435456

-- the request lines of all files together
abbrev pub most_lines : ℕ
most_lines = 500000

-- the sessions of a service
abbrev pub most_sessions : ℕ
most_sessions = 64

-- the collections that a service may be called for
abbrev pub most_collections : ℕ
most_collections = 1000
