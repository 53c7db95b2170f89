-- The keys of the table of objects.
use Rattle.std.proofs.Common.{◌≡◌, ℕ, true, cond, Option, Some, Result, Ok, Err, arith}
use Rattle.open_table.proofs.Words.{Mode, Modes, OnOk, Puid, Updates, get, is_ok, nat_tests, same_key, same_puid}

-- two identifiers are one where their keys are
pub same_key-is : (q id : Puid) → same_key (id.block, id.word) (q.block, q.word) ≡ same_puid q id
same_key-is q id = grind (arith, nat_tests)

-- a mode that was put into the table
pub put-is : {E : Type 0} (m n : Modes) (k : ℕ × ℕ) (mode : Mode) (r : Result (Option Mode) E) → is_ok r ≡ true → OnOk r (Updates same_key m n k (Some mode))
    → (q : ℕ × ℕ) → get same_key n q ≡ cond (same_key k q) (Some mode) (get same_key m q)
put-is m n k mode (Ok old) there updates q = updates.0 q
put-is m n k mode (Err e) there updates q = cc
