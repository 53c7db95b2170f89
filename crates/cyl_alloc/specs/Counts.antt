-- Counts of Free blocks, one for each cylinder, with the sums by which the first that isn't 0 is found.
use Rattle.std.specs.Prelude.{◌≡◌, ℕ, ◌+◌, ◌*◌, ◌/◌, ◌<◌, ◌≤◌, List, length, get_or, take, drop, sum, Option, Some}
use Rattle.std.specs.Prelude.{None}
use Rattle.std.specs.List.{All}

-- at most as many as a volume may have cylinders, each of up to 64 blocks
pub record AreFreeCounts (free : List ℕ) : Type 0 where
  pub some : 1 ≤ length free
  pub most : length free ≤ 65536
  pub each : All (λ n. n ≤ 64) free

-- the sum of 256 counts
abbrev pub group_sum : List ℕ → ℕ → ℕ
group_sum free k = sum (take 256 (drop (256 * k) free))

-- the sum of each 256 counts, and of all
pub record AreSums (free groups : List ℕ) (total : ℕ) : Type 0 where
  pub kept : AreFreeCounts free
  pub count : length groups ≡ (length free + 255) / 256
  pub each : (k : ℕ) → get_or groups k 0 ≡ group_sum free k
  pub all : total ≡ sum free

-- the place of the first number above 0, or none if all are 0
abbrev pub IsFirstAbove : List ℕ → Option ℕ → Type 0
IsFirstAbove xs (Some k) = (k < length xs) × (0 < get_or xs k 0) × ((i : ℕ) → i < k → get_or xs i 0 ≡ 0)
IsFirstAbove xs None = (i : ℕ) → get_or xs i 0 ≡ 0
