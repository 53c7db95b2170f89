-- The bytes of a number of blocks.
use Rattle.std.specs.Prelude.{◌≡◌, ℕ, ◌*◌, ◌<◌, List, length, get_or}

pub record AreBytes (count : ℕ) (bytes : List ℕ) : Type 0 where
  pub size : length bytes ≡ count * 512
  pub each : (k : ℕ) → get_or bytes k 0 < 256
