-- The write that a crash leaves of each block.
use Rattle.std.specs.Prelude.{◌≡◌, ℕ, ◌<◌, get_or, nat_eq, if◌then◌else◌, List, [], ◌∷◌}
use Rattle.cfs_fakes.specs.declared.kept.Pick.{Pick}

-- the choice of the first pick of this block, or 0 if there is none
abbrev pub choice_of : List Pick → ℕ → ℕ
choice_of [] n = 0
choice_of (pick ∷ later) n = if nat_eq pick.block n then pick.choice else choice_of later n

-- the choice of each block
abbrev pub IsWanted : List ℕ → List Pick → ℕ → Type 0
IsWanted wanted picks blocks = (n : ℕ) → n < blocks → get_or wanted n 0 ≡ choice_of picks n
