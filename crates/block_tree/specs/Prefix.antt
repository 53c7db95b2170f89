-- Where bytes that spell nothing go wrong.
use Rattle.std.specs.Prelude.{◌≡◌, ◌≢◌, ℕ, ◌+◌, List, take}

-- Some good value's spelling begins with the bytes before this place, and no good value's with the bytes up to it and
-- with it.
pub record IsFirstMisspelt {X : Type 0} (IsGood : X → Type 0) (spelling : X → List ℕ) (bytes : List ℕ)
    (place : ℕ) : Type 0 where
  pub before : (x : X) × IsGood x × (take place (spelling x) ≡ take place bytes)
  pub here : (x : X) → IsGood x → take (place + 1) (spelling x) ≢ take (place + 1) bytes
