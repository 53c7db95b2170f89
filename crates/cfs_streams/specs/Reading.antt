-- What a source gave.
use Rattle.std.specs.Prelude.{◌≡◌, ℕ, ◌≤◌, List, [], ◌++◌, length, Some}
use Rattle.cfs_base.specs.Outside.{Supply}

-- the source gave these bytes, the first that were left, if it tells them
pub record Gave (old new : Supply) (bytes : List ℕ) : Type 0 where
  pub kept : old.faults ≤ new.faults
  pub first : (left : List ℕ) → old.left ≡ Some left → (rest : List ℕ) × (new.left ≡ Some rest) × (left ≡ bytes ++ rest)

-- the source gave at most this many bytes
abbrev pub GaveUpTo : ℕ → Supply → Supply → Type 0
GaveUpTo most old new = (bytes : List ℕ) × (length bytes ≤ most) × Gave old new bytes

-- the source has no bytes left, if it tells them
abbrev pub IsAtEnd : Supply → Type 0
IsAtEnd s = (left : List ℕ) → s.left ≡ Some left → left ≡ []
