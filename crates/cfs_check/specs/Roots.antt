-- The root blocks that were found, in their order.
use Rattle.std.specs.Prelude.{◌≡◌, ◌⊎◌, ℕ, ◌+◌, ◌<◌, Bool, true, false, not, List, [], ◌∷◌, ◌++◌, length, get_or}
use Rattle.std.specs.Prelude.{count_by, slice_get, Some}
use Rattle.ufs_model.specs.Numbers.{has_number}

-- root blocks of a volume of `room` blocks
pub record Found : Type 0 where
  pub blocks : List ℕ
  pub room : ℕ

-- each is listed once, and a table says which are
pub record AreFoundRoots (found : List ℕ) (has : List Bool) : Type 0 where
  pub few : length has ≡ length found + count_by not has
  pub small : length has < 4294967296
  pub told : (n : ℕ) → n < length has → get_or has n false ≡ has_number n found
  pub within : (n : ℕ) → has_number n found ≡ true → n < length has
  pub once : (j k n : ℕ) → slice_get found j ≡ Some n → slice_get found k ≡ Some n → j ≡ k

-- the list with one more block, if that isn't in it
abbrev pub with_root_block : List ℕ → ℕ → Bool → List ℕ
with_root_block found n true = found
with_root_block found n false = found ++ n ∷ []

-- exactly these were added, at the end
pub record AddsRoots (P : ℕ → Type 0) (old new : Found) : Type 0 where
  pub room : new.room ≡ old.room
  pub more : List ℕ
  pub is : new.blocks ≡ old.blocks ++ more
  pub added : (n : ℕ) → P n → has_number n new.blocks ≡ true
  pub only : (n : ℕ) → has_number n new.blocks ≡ true → (has_number n old.blocks ≡ true) ⊎ P n

-- the first list is part of the second
abbrev pub HasAll : List ℕ → List ℕ → Type 0
HasAll few many = (n : ℕ) → has_number n few ≡ true → has_number n many ≡ true

-- what was found stays, in its place
pub record Extends (old new : Found) : Type 0 where
  pub more : List ℕ
  pub is : new.blocks ≡ old.blocks ++ more
