-- Marks of faults: for each block and each code below 12, whether the block was found with that fault.
use Rattle.std.specs.Prelude.{◌≡◌, ◌⊎◌, ℕ, ◌+◌, ◌*◌, ◌/◌, ◌%◌, ◌<◌, ◌≤◌, Bool, true, false, List, length, get_or, map}
use Rattle.std.specs.Prelude.{filter}
use Rattle.std.specs.List.{range_with_len}
use Rattle.cfs_base.specs.declared.refusal.Damage.{Damage}

abbrev pub mark_place : (code block : ℕ) → ℕ
mark_place code block = 12 * block + code

abbrev pub is_marked : List Bool → (code block : ℕ) → Bool
is_marked marks code block = get_or marks (mark_place code block) false

-- the marks are those of a volume, and none is set unless `any` says so
pub record AreMarks (marks : List Bool) (any : Bool) : Type 0 where
  pub few : length marks ≤ 12 * 4294967295
  pub told : (place : ℕ) → get_or marks place false ≡ true → any ≡ true

-- exactly these faults were marked beside those that were marked before
pub record AddsMarks (P : ℕ → ℕ → Type 0) (old new : List Bool) : Type 0 where
  pub size : length new ≡ length old
  pub kept : (code block : ℕ) → is_marked old code block ≡ true → is_marked new code block ≡ true
  pub added : (code block : ℕ) → P code block → (code < 12) × (is_marked new code block ≡ true)
  pub only : (code block : ℕ) → code < 12 → is_marked new code block ≡ true
      → (is_marked old code block ≡ true) ⊎ P code block

-- this fault, if `told` is set
pub record IsToldOf (told : Bool) (code block c n : ℕ) : Type 0 where
  pub is_told : told ≡ true
  pub code_is : c ≡ code
  pub block_is : n ≡ block

-- the faults that are marked: by block, and then by code
abbrev pub damage_at : ℕ → Damage
damage_at k = record { block = k / 12; code = k % 12 }

abbrev pub is_marked_damage : List Bool → Damage → Bool
is_marked_damage marks d = is_marked marks d.code d.block

abbrev pub damages_below : List Bool → ℕ → List Damage
damages_below marks n = filter (is_marked_damage marks) (map damage_at (range_with_len 0 n))

abbrev pub damages_in : List Bool → List Damage
damages_in marks = damages_below marks (length marks)
