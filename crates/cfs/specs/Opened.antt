-- The file of a volume.
use Rattle.std.specs.Prelude.{ℕ, ◌/◌, Bool, true, false}

-- how many blocks a file of this many has for its volume: a third if it is one of pairs of blocks
abbrev pub volume_blocks : (pair : Bool) → ℕ → ℕ
volume_blocks true blocks = blocks / 3
volume_blocks false blocks = blocks
