-- Bits in words of 64.
use Rattle.std.specs.Prelude.{ℕ, ◌/◌, ◌%◌, ◌==◌, Bool, List, get_or, map}
use Rattle.std.specs.Int.{bit_at}
use Rattle.std.specs.List.{range_with_len}

-- whether a bit is set
abbrev pub bit_in : List ℕ → ℕ → Bool
bit_in words n = bit_at (get_or words (n / 64) 0) (n % 64) == 1

-- the first `count` bits
abbrev pub bits_of : (count : ℕ) → List ℕ → List Bool
bits_of count words = map (bit_in words) (range_with_len 0 count)
