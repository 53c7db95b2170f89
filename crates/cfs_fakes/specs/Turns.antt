-- The turns of two workers.
use Rattle.std.specs.Prelude.{◌≡◌, ℕ, zero, suc, ◌≤◌, ◌==◌, true, refl}
use Rattle.std.proofs.Math.Nat.{not-suc-le-zero, le_of_suc-le-suc}
use Rattle.cfs_fakes.specs.declared.turns.Turns.{Turns}

-- how many turns a worker has left; there are no other workers
abbrev pub left_of : Turns → ℕ → ℕ
left_of turns zero = turns.first
left_of turns (suc zero) = turns.second
left_of turns (suc (suc w)) = 0

pub none_is_left : (turns : Turns) (worker : ℕ) → 2 ≤ worker → left_of turns worker ≡ 0
none_is_left turns zero beyond = absurd (not-suc-le-zero beyond)
none_is_left turns (suc zero) beyond = absurd (not-suc-le-zero (le_of_suc-le-suc beyond))
none_is_left turns (suc (suc w)) beyond = refl

pub none_is_done : (turns : Turns) (worker : ℕ) → 2 ≤ worker → (left_of turns worker == 0) ≡ true
none_is_done turns zero beyond = absurd (not-suc-le-zero beyond)
none_is_done turns (suc zero) beyond = absurd (not-suc-le-zero (le_of_suc-le-suc beyond))
none_is_done turns (suc (suc w)) beyond = refl
