-- Tests of each element of a list, some with its place.
use Rattle.std.proofs.Common.{◌≡◌, ℕ, zero, suc, ◌+◌, ◌<◌, ◌≤◌, List, [], ◌∷◌, ◌++◌, length, take, drop, replicate, set, refl, subst, arith, Bool, true, false, cond, Some}
use Rattle.ufs_model.proofs.Words.{and_from, and_parts, each_from, filter, find, list_all}

pub all_filter : {X : Type 0} (P M : X → Bool) (xs : List X) → list_all P xs ≡ true → list_all P (filter M xs) ≡ true
all_filter P M [] h = refl
all_filter P M (x ∷ xs) h =
    let two = and_parts (P x) (list_all P xs) h in
    elim (M x) as (λ b. list_all P (cond b (x ∷ filter M xs) (filter M xs)) ≡ true) [
      | true ↦ and_from (P x) (list_all P (filter M xs)) two.0 (all_filter P M xs two.1)
      | false ↦ all_filter P M xs two.1
    ]

pub all_weaker : {X : Type 0} (P Q : X → Bool) (xs : List X) → ((x : X) → P x ≡ true → Q x ≡ true) → list_all P xs ≡ true → list_all Q xs ≡ true
all_weaker P Q [] weaker h = refl
all_weaker P Q (x ∷ xs) weaker h =
    let two = and_parts (P x) (list_all P xs) h in and_from (Q x) (list_all Q xs) (weaker x two.0) (all_weaker P Q xs weaker two.1)

pub all_passing : {X : Type 0} (M : X → Bool) (xs : List X) → list_all M (filter M xs) ≡ true
all_passing M [] = refl
all_passing M (x ∷ xs) = elim (M x) as (λ b. M x ≡ b → list_all M (cond b (x ∷ filter M xs) (filter M xs)) ≡ true) [
  | true ↦ λ is. and_from (M x) (list_all M (filter M xs)) is (all_passing M xs)
  | false ↦ λ is. all_passing M xs
] refl

-- what is found passes
pub all_found : {X : Type 0} (P M : X → Bool) (xs : List X) (x : X) → find M xs ≡ Some x → list_all P xs ≡ true → (M x ≡ true) × (P x ≡ true)
all_found P M [] x h all = cc
all_found P M (y ∷ ys) x h all =
    let two = and_parts (P y) (list_all P ys) all in
    elim (M y) as (λ b. M y ≡ b → cond b (Some y) (find M ys) ≡ Some x → (M x ≡ true) × (P x ≡ true)) [
      | true ↦ λ is e. let same : y ≡ x = cc in subst (λ z. (M z ≡ true) × (P z ≡ true)) same (is, two.0)
      | false ↦ λ is e. all_found P M ys x e two.1
    ] refl h

-- ---- a test of each element with its place

module _ {A : Type 0} where
  pub each_append : (test : ℕ → A → Bool) (at n : ℕ) (xs ys : List A) → at + length xs ≡ n → each_from test at xs ≡ true → each_from test n ys ≡ true → each_from test at (xs ++ ys) ≡ true
  each_append test at n [] ys is h k = subst (λ (m : ℕ). each_from test m ys ≡ true) (omega arith) k
  each_append test at n (x ∷ xs) ys is h k =
      let two = and_parts (test at x) (each_from test (at + 1) xs) h in
      and_from (test at x) (each_from test (at + 1) (xs ++ ys)) two.0 (each_append test (at + 1) n xs ys (omega arith) two.1 k)

  pub each_take : (test : ℕ → A → Bool) (at n : ℕ) (xs : List A) → each_from test at xs ≡ true → each_from test at (take n xs) ≡ true
  each_take test at zero xs h = refl
  each_take test at (suc n) [] h = refl
  each_take test at (suc n) (x ∷ xs) h =
      let two = and_parts (test at x) (each_from test (at + 1) xs) h in and_from (test at x) (each_from test (at + 1) (take n xs)) two.0 (each_take test (at + 1) n xs two.1)

  pub each_drop : (test : ℕ → A → Bool) (at n to : ℕ) (xs : List A) → at + n ≡ to → each_from test at xs ≡ true → each_from test to (drop n xs) ≡ true
  each_drop test at zero to xs is h = subst (λ (m : ℕ). each_from test m xs ≡ true) (omega arith) h
  each_drop test at (suc n) to [] is h = refl
  each_drop test at (suc n) to (x ∷ xs) is h = let two = and_parts (test at x) (each_from test (at + 1) xs) h in each_drop test (at + 1) n to xs (omega arith) two.1

  pub each_set : (test : ℕ → A → Bool) (at n i : ℕ) (x : A) (xs : List A) → at + i ≡ n → test n x ≡ true → each_from test at xs ≡ true → each_from test at (set xs i x) ≡ true
  each_set test at n i x [] is new h = refl
  each_set test at n zero x (y ∷ ys) is new h =
      let two = and_parts (test at y) (each_from test (at + 1) ys) h in and_from (test at x) (each_from test (at + 1) ys) (subst (λ (m : ℕ). test m x ≡ true) (omega arith) new) two.1
  each_set test at n (suc i) x (y ∷ ys) is new h =
      let two = and_parts (test at y) (each_from test (at + 1) ys) h in
      and_from (test at y) (each_from test (at + 1) (set ys i x)) two.0 (each_set test (at + 1) n i x ys (omega arith) new two.1)

  pub each_same : (test : ℕ → A → Bool) (at n : ℕ) (x : A) → ((k : ℕ) → at ≤ k → test k x ≡ true) → each_from test at (replicate n x) ≡ true
  each_same test at zero x all = refl
  each_same test at (suc n) x all = and_from (test at x) (each_from test (at + 1) (replicate n x)) (all at (omega arith)) (each_same test (at + 1) n x (λ k le. all k (omega arith)))

  pub each_weaker : (test weak : ℕ → A → Bool) (at : ℕ) (xs : List A) → ((k : ℕ) (x : A) → at ≤ k → k < at + length xs → test k x ≡ true → weak k x ≡ true)
      → each_from test at xs ≡ true → each_from weak at xs ≡ true
  each_weaker test weak at [] weaker h = refl
  each_weaker test weak at (x ∷ xs) weaker h =
      let two = and_parts (test at x) (each_from test (at + 1) xs) h in
      and_from (weak at x) (each_from weak (at + 1) xs) (weaker at x (omega arith) (omega arith) two.0) (each_weaker test weak (at + 1) xs (λ k y from below. weaker k y (omega arith) (omega arith)) two.1)

  pub each_all : (test : A → Bool) (at : ℕ) (xs : List A) → list_all test xs ≡ true → each_from (λ _. test) at xs ≡ true
  each_all test at [] h = refl
  each_all test at (x ∷ xs) h =
      let two = and_parts (test x) (list_all test xs) h in and_from (test x) (each_from (λ _. test) (at + 1) xs) two.0 (each_all test (at + 1) xs two.1)
