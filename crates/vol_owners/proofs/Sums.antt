-- Sums over lists and runs of numbers, and how many numbers of a run pass a test.
use Rattle.std.proofs.Common.{◌≡◌, ℕ, zero, suc, ◌+◌, ◌<◌, ◌≤◌, List, [], ◌∷◌, Bool, true, false, count_by, refl, ap, arith}
use Rattle.vol_owners.proofs.Words.{one_of, range_with_len, sum_by, sum_by-cons}

pub sum_both : {X : Type 0} (f k : X → ℕ) (xs : List X) → sum_by (λ x. f x + k x) xs ≡ sum_by f xs + sum_by k xs
sum_both f k [] = refl
sum_both f k (x ∷ xs) = omega (arith, sum_by-cons (λ y. f y + k y) x xs, sum_by-cons f x xs, sum_by-cons k x xs, sum_both f k xs)

pub sum_each : {X : Type 0} (f k : X → ℕ) (xs : List X) → ((x : X) → f x ≡ k x) → sum_by f xs ≡ sum_by k xs
sum_each f k [] same = refl
sum_each f k (x ∷ xs) same = omega (arith, sum_by-cons f x xs, sum_by-cons k x xs, same x, sum_each f k xs same)

-- ---- runs

abbrev pub sum_run : (ℕ → ℕ) → ℕ → ℕ → ℕ
sum_run f from n = sum_by f (range_with_len from n)

pub run-suc : (f : ℕ → ℕ) (from n : ℕ) → sum_run f from (suc n) ≡ f from + sum_run f (from + 1) n
run-suc f from n = sum_by-cons f from (range_with_len (from + 1) n)

pub run_same : (f k : ℕ → ℕ) (from n : ℕ) → ((m : ℕ) → from ≤ m → m < from + n → f m ≡ k m) → sum_run f from n ≡ sum_run k from n
run_same f k from zero same = refl
run_same f k from (suc n) same =
    let rest = run_same f k (from + 1) n (λ m le lt. same m (omega arith) (omega arith)) in
    omega (arith, run-suc f from n, run-suc k from n, same from (omega arith) (omega arith), rest)

pub run_ones : (from n : ℕ) → sum_run (λ m. 1) from n ≡ n
run_ones from zero = refl
run_ones from (suc n) = omega (arith, run-suc (λ m. 1) from n, run_ones (from + 1) n)

pub run_none : (f : ℕ → ℕ) (from n : ℕ) → ((m : ℕ) → from ≤ m → m < from + n → f m ≡ 0) → sum_run f from n ≡ 0
run_none f from zero none = refl
run_none f from (suc n) none =
    omega (arith, run-suc f from n, none from (omega arith) (omega arith), run_none f (from + 1) n (λ m le lt. none m (omega arith) (omega arith)))

pub run_zeros : (f : ℕ → ℕ) (from n : ℕ) → ((m : ℕ) → f m ≡ 0) → sum_run f from n ≡ 0
run_zeros f from n none = run_none f from n (λ m le lt. none m)

pub run_split : (f : ℕ → ℕ) (from n m : ℕ) → sum_run f from (n + m) ≡ sum_run f from n + sum_run f (from + n) m
run_split f from zero m =
    let none : 0 + m ≡ m = omega arith in
    let at : from + 0 ≡ from = omega arith in
    omega (arith, ap (λ (k : ℕ). sum_run f from k) none, ap (λ (k : ℕ). sum_run f k m) at)
run_split f from (suc n) m =
    let more : suc n + m ≡ suc (n + m) = omega arith in
    let at : from + suc n ≡ from + 1 + n = omega arith in
    omega (arith, ap (λ (k : ℕ). sum_run f from k) more, run-suc f from (n + m), run_split f (from + 1) n m, run-suc f from n, ap (λ (k : ℕ). sum_run f k m) at)

-- ---- counts

abbrev pub count_in : (ℕ → Bool) → ℕ → ℕ → ℕ
count_in p from n = count_by p (range_with_len from n)

pub ones_le : (p q : ℕ → Bool) (from n : ℕ) → ((m : ℕ) → p m ≡ true → q m ≡ true) → count_in p from n ≤ count_in q from n
ones_le p q from zero each = omega arith
ones_le p q from (suc n) each =
    omega (arith, run-suc (λ m. one_of (p m)) from n, run-suc (λ m. one_of (q m)) from n, ones_le p q (from + 1) n each, one (p from) (q from) (each from))
  where
    one : (b c : Bool) → (b ≡ true → c ≡ true) → one_of b ≤ one_of c
    one true c both = rw (both refl) (omega arith)
    one false c both = omega arith
