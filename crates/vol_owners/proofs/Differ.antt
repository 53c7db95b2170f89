-- Lists of different numbers, and runs in which exactly these pass a test.
use Rattle.std.proofs.Common.{◌≡◌, inl, inr, ℕ, zero, suc, ◌+◌, ◌<◌, ◌≤◌, List, [], ◌∷◌, ◌++◌, length, Bool, true, false, ◌||◌, refl, sym, ◌∙◌, ap, subst, arith, ◌==◌}
use Rattle.vol_owners.proofs.Words.{above, and_parts, both_ways, cases_eq, eq-eqb, false_from_ne_true, has_number, here, in_map, later, list_any-append, map, ne_eqb, numbers_rise, one_of, or_cases, range_with_len}
use Rattle.vol_owners.proofs.Sums.{count_in, run-suc, run_same, run_zeros, sum_both, sum_each, sum_run}

-- ---- which lists are such

abbrev pub Differ : List ℕ → Type 0
Differ [] = Unit {0}
Differ (n ∷ ns) = (has_number n ns ≡ false) × Differ ns

pub rising_differ : (ns : List ℕ) → numbers_rise ns ≡ true → Differ ns
rising_differ [] up = tt
rising_differ (n ∷ ns) up =
    let two = and_parts _ _ up in
    (false_from_ne_true (has_number n ns) (λ h. let past = above n n ns two.0 h in omega arith), rising_differ ns two.1)

pub has-append : (n : ℕ) (xs ys : List ℕ) → has_number n (xs ++ ys) ≡ (has_number n xs || has_number n ys)
has-append n xs ys = list_any-append (λ (m : ℕ). m == n) xs ys

pub append_differ : (xs ys : List ℕ) → Differ xs → Differ ys → ((n : ℕ) → has_number n xs ≡ true → has_number n ys ≡ true → ⊥) → Differ (xs ++ ys)
append_differ [] ys one two apart = two
append_differ (x ∷ xs) ys one two apart = (
  false_from_ne_true (has_number x (xs ++ ys)) (λ h. elim (or_cases _ _ (sym (has-append x xs ys) ∙ h)) [
    | inl again ↦ both_ways _ one.0 again
    | inr too ↦ apart x (here x xs) too
  ]),
  append_differ xs ys one.1 two (λ n h. apart n (later n x xs h)),
)

pub map_differ : (f : ℕ → ℕ) (ns : List ℕ) → Differ ns → ((m n : ℕ) → has_number m ns ≡ true → has_number n ns ≡ true → f m ≡ f n → m ≡ n) → Differ (map f ns)
map_differ f [] one names = tt
map_differ f (n ∷ ns) one names = (
  false_from_ne_true (has_number (f n) (map f ns)) (λ h.
      let from = in_map f (f n) ns h in
      both_ways _ one.0 (subst (λ (k : ℕ). has_number k ns ≡ true) (names from.0 n (later from.0 n ns from.1) (here n ns) from.2) from.1)),
  map_differ f ns one.1 (λ m k hm hk. names m k (later m n ns hm) (later k n ns hk)),
)

-- ---- counted

-- one number of a run passes a test
one_passes : (at from n : ℕ) → from ≤ at → at < from + n → sum_run (λ m. one_of (at == m)) from n ≡ 1
one_passes at from zero le lt = absurd (omega arith)
one_passes at from (suc n) le lt = elim (cases_eq at from) [
  | inl same ↦
      let rest = run_same (λ m. one_of (at == m)) (λ m. 0) (from + 1) n (λ m l h. ap one_of (ne_eqb at m (λ is. omega arith))) in
      let none = run_zeros (λ m. 0) (from + 1) n (λ m. refl) in
      omega (arith, run-suc (λ m. one_of (at == m)) from n, ap one_of (eq-eqb at from same), rest, none)
  | inr other ↦ omega (arith, run-suc (λ m. one_of (at == m)) from n, ap one_of (ne_eqb at from other), one_passes at (from + 1) n (omega arith) (omega arith))
]

one_more : (x : ℕ) (ns : List ℕ) → has_number x ns ≡ false → (n : ℕ) → one_of (has_number n (x ∷ ns)) ≡ one_of (x == n) + one_of (has_number n ns)
one_more x ns none n = elim (cases_eq x n) [
  | inl same ↦
      let here_is : (x == n) ≡ true = eq-eqb x n same in
      let rest : has_number n ns ≡ false = ap (λ (k : ℕ). has_number k ns) (sym same) ∙ none in
      rw (here_is, rest) refl
  | inr other ↦ let here_no : (x == n) ≡ false = ne_eqb x n other in rw here_no (omega arith)
]

counted : (ns : List ℕ) (size : ℕ) → Differ ns → ((n : ℕ) → has_number n ns ≡ true → n < size) → sum_run (λ n. one_of (has_number n ns)) 0 size ≡ length ns
counted [] size one below = run_zeros (λ n. 0) 0 size (λ n. refl)
counted (x ∷ ns) size one below =
    let rest = counted ns size one.1 (λ n h. below n (later n x ns h)) in
    let split = sum_each (λ n. one_of (has_number n (x ∷ ns))) (λ n. one_of (x == n) + one_of (has_number n ns)) (range_with_len 0 size) (one_more x ns one.0)
    ∙ sum_both (λ n. one_of (x == n)) (λ n. one_of (has_number n ns)) (range_with_len 0 size) in
    omega (arith, split, one_passes x 0 size (omega arith) (omega (arith, below x (here x ns))), rest)

-- exactly these numbers pass a test
pub record PassesOnly (p : ℕ → Bool) (ns : List ℕ) (size : ℕ) : Type 0 where
  pub differ : Differ ns
  pub each : (n : ℕ) → has_number n ns ≡ true → (n < size) × (p n ≡ true)
  pub no_other : (n : ℕ) → p n ≡ true → has_number n ns ≡ true

pub count_of_these : (p : ℕ → Bool) (ns : List ℕ) (size : ℕ) → PassesOnly p ns size → count_in p 0 size ≡ length ns
count_of_these p ns size only =
    sum_each (λ n. one_of (p n)) (λ n. one_of (has_number n ns)) (range_with_len 0 size)
    (λ n. ap one_of (same_tests (p n) (has_number n ns) (only.no_other n) (λ h. (only.each n h).1)))
    ∙ counted ns size only.differ (λ n h. (only.each n h).0)
  where
    same_tests : (b c : Bool) → (b ≡ true → c ≡ true) → (c ≡ true → b ≡ true) → b ≡ c
    same_tests true c to from = sym (to refl)
    same_tests false true to from = from refl
    same_tests false false to from = refl
