-- What a call of a source or a sink means: the bytes that it gives or takes, and the count of faults.
use Rattle.std.specs.Prelude.{◌≡◌, ℕ, ◌+◌, ◌-◌, ◌^◌, ◌<◌, ◌≤◌, min, List, [], ◌++◌, length, take, drop}
use Rattle.std.specs.Prelude.{Option, Some, Result, Ok, Err}
use Rattle.cfs_base.specs.declared.refusal.Failed.{Failed}

-- one more, up to the last number of a u64, at which every count stays
abbrev pub count_after : ℕ → ℕ
count_after n = min (n + 1) (2 ^ 64 - 1)

-- a count rose, or is at its last number
abbrev pub Rose : ℕ → ℕ → Type 0
Rose before now = count_after before ≤ now

-- a source: the bytes that are left, if it tells them, and how many calls failed
pub record Supply : Type 0 where
  pub left : Option (List ℕ)
  pub faults : ℕ

-- The first n bytes that were left are given. None are given only if there is no room or none were left.
pub record GivesBytes (left : List ℕ) (new : Supply) (buffer filled : List ℕ) (n : ℕ) : Type 0 where
  pub some : n ≤ length left
  pub filled_with : take n filled ≡ take n left
  pub rest : new.left ≡ Some (drop n left)
  pub ended : n ≡ 0 → 0 < length buffer → left ≡ []

-- what a read gives if the source tells its bytes
abbrev pub Gives : List ℕ → Supply → List ℕ → List ℕ → Result ℕ Failed → Type 0
Gives left new buffer filled (Ok n) = GivesBytes left new buffer filled n
Gives left new buffer filled (Err e) = new.left ≡ Some left

-- at most as many as there is room for, or a failure, which is counted
abbrev pub IsWithin : ℕ → ℕ → ℕ → Result ℕ Failed → Type 0
IsWithin room before now (Ok n) = n ≤ room
IsWithin room before now (Err e) = Rose before now

-- one read into a buffer
pub record Reads (old new : Supply) (buffer filled : List ℕ) (result : Result ℕ Failed) : Type 0 where
  pub kept : old.faults ≤ new.faults
  pub within : IsWithin (length buffer) old.faults new.faults result
  pub gives : (left : List ℕ) → old.left ≡ Some left → Gives left new buffer filled result

-- a sink: the bytes that were taken, if it tells them, and how many calls failed
pub record Intake : Type 0 where
  pub taken : Option (List ℕ)
  pub faults : ℕ

-- what a write adds if the sink tells its bytes
abbrev pub Takes : List ℕ → Intake → List ℕ → Result ℕ Failed → Type 0
Takes taken new piece (Ok n) = new.taken ≡ Some (taken ++ take n piece)
Takes taken new piece (Err e) = new.taken ≡ Some taken

-- at least one byte of a piece is taken, if the piece has any
abbrev pub TakesSome : List ℕ → Result ℕ Failed → Type 0
TakesSome piece (Ok n) = 0 < length piece → 0 < n
TakesSome piece (Err e) = Unit {0}

-- one write of a piece
pub record Writes (old new : Intake) (piece : List ℕ) (result : Result ℕ Failed) : Type 0 where
  pub kept : old.faults ≤ new.faults
  pub within : IsWithin (length piece) old.faults new.faults result
  pub some : TakesSome piece result
  pub takes : (taken : List ℕ) → old.taken ≡ Some taken → Takes taken new piece result
