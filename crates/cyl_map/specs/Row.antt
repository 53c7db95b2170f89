-- What is read by one row of the table.
use Rattle.std.specs.Prelude.{◌≡◌, ◌≢◌, ℕ, ◌+◌, ◌<◌, ◌≤◌, true, List, ◌++◌, take, slice_index}
use Rattle.cyl_map.specs.declared.entry.MapEntry.{MapEntry}
use Rattle.cyl_map.specs.declared.row.Row.{Row}
use Rattle.cyl_map.specs.Entry.{is_of, spelling}

-- some entry of the row has this spelling
abbrev pub IsSpelledBy : Row → List ℕ → Type 0
IsSpelledBy row bytes = (e : MapEntry) × (is_of row e ≡ true) × (bytes ≡ spelling e)

-- some entry of the row begins with these bytes
abbrev pub BeginsEntryOf : Row → List ℕ → Type 0
BeginsEntryOf row bytes = (e : MapEntry) × (is_of row e ≡ true) × (rest : List ℕ) × (spelling e ≡ bytes ++ rest)

-- the least place such that no entry of the row begins with the bytes up to it and with it
pub record IsFirstBadOf (row : Row) (bytes : List ℕ) (place : ℕ) : Type 0 where
  pub before : BeginsEntryOf row (take place bytes)
  pub bad : ¬ BeginsEntryOf row (take (place + 1) bytes)

-- the first byte of the owner that isn't 0
pub record IsFirstOfOwner (bytes : List ℕ) (place : ℕ) : Type 0 where
  pub after : 4 ≤ place
  pub within : place < 8
  pub set : slice_index bytes place ≢ 0
  pub clear : (k : ℕ) → 4 ≤ k → k < place → slice_index bytes k ≡ 0
