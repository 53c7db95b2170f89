-- Sums over lists, and over numbers in rising order.
use Rattle.marking.proofs.Words.{and_parts, cases_eq, eqb-true, has_number, list_all, nat_lt, numbers_rise, or_cases, sum_by, sum_by-cons, with_number}
use Rattle.std.proofs.Common.{◌≡◌, ◌⊎◌, inl, inr, ℕ, ◌+◌, ◌<◌, ◌≤◌, ◌==◌, List, [], ◌∷◌, length, refl, sym, ◌∙◌, ap, subst, arith, true, false, cond}
use Rattle.ufs_model.proofs.Rising.{here, later, in_cons, above}

abbrev pub IsIn : {X : Type 0} → X → List X → Type 0
IsIn x [] = ⊥
IsIn x (y ∷ ys) = (y ≡ x) ⊎ IsIn x ys

pub number_in : (n : ℕ) (ns : List ℕ) → has_number n ns ≡ true → IsIn n ns
number_in n [] h = cc
number_in n (m ∷ ms) h = elim (or_cases (m == n) (has_number n ms) h) [ inl here ↦ inl (eqb-true m n here) | inr later ↦ inr (number_in n ms later) ]

module _ {X : Type 0} (f h : X → ℕ) (le : (x : X) → f x ≤ h x) where
  pub sum_more : (xs : List X) → sum_by f xs ≤ sum_by h xs
  sum_more [] = omega arith
  sum_more (x ∷ xs) = omega (arith, le x, sum_more xs, sum_by-cons f x xs, sum_by-cons h x xs)

  pub sum_raised : (x : X) → f x + 1 ≤ h x → (xs : List X) → IsIn x xs → sum_by f xs + 1 ≤ sum_by h xs
  sum_raised x raised [] at = absurd at
  sum_raised x raised (y ∷ ys) (inl here) =
      let now : f y + 1 ≤ h y = subst (λ (z : X). f z + 1 ≤ h z) (sym here) raised in
      omega (arith, now, sum_more ys, sum_by-cons f y ys, sum_by-cons h y ys)
  sum_raised x raised (y ∷ ys) (inr later) = omega (arith, le y, sum_raised x raised ys later, sum_by-cons f y ys, sum_by-cons h y ys)

  -- one is lower by so much, and no other higher
  pub sum_lowered : (x : X) (n : ℕ) → f x + n ≤ h x → (xs : List X) → IsIn x xs → sum_by f xs + n ≤ sum_by h xs
  sum_lowered x n low [] at = absurd at
  sum_lowered x n low (y ∷ ys) (inl here) =
      let now : f y + n ≤ h y = subst (λ (z : X). f z + n ≤ h z) (sym here) low in
      omega (arith, now, sum_more ys, sum_by-cons f y ys, sum_by-cons h y ys)
  sum_lowered x n low (y ∷ ys) (inr later) = omega (arith, le y, sum_lowered x n low ys later, sum_by-cons f y ys, sum_by-cons h y ys)

-- one leaf more is held
pub with_sum : (f : ℕ → ℕ) (n : ℕ) (ms : List ℕ) → sum_by f ms ≤ sum_by f (with_number n ms)
with_sum f n [] = omega arith
with_sum f n (m ∷ ms) =
    elim (n == m) as (λ t. sum_by f (m ∷ ms) ≤ sum_by f (cond t (m ∷ ms) (cond (nat_lt n m) (n ∷ m ∷ ms) (m ∷ with_number n ms)))) [
      | true ↦ omega arith
      | false ↦ elim (nat_lt n m) as (λ t. sum_by f (m ∷ ms) ≤ sum_by f (cond t (n ∷ m ∷ ms) (m ∷ with_number n ms))) [
        | true ↦ omega (arith, sum_by-cons f n (m ∷ ms))
        | false ↦ omega (arith, sum_by-cons f m ms, sum_by-cons f m (with_number n ms), with_sum f n ms)
      ]
    ]

pub with_more : (f : ℕ → ℕ) (n : ℕ) (ms : List ℕ) → sum_by f (with_number n ms) ≤ sum_by f ms + f n
with_more f n [] = omega (arith, sum_by-cons f n [])
with_more f n (m ∷ ms) =
    elim (n == m) as (λ t. sum_by f (cond t (m ∷ ms) (cond (nat_lt n m) (n ∷ m ∷ ms) (m ∷ with_number n ms))) ≤ sum_by f (m ∷ ms) + f n) [
      | true ↦ omega arith
      | false ↦ elim (nat_lt n m) as (λ t. sum_by f (cond t (n ∷ m ∷ ms) (m ∷ with_number n ms)) ≤ sum_by f (m ∷ ms) + f n) [
        | true ↦ omega (arith, sum_by-cons f n (m ∷ ms))
        | false ↦ omega (arith, sum_by-cons f m ms, sum_by-cons f m (with_number n ms), with_more f n ms)
      ]
    ]

-- numbers among others sum to no more
pub within_sum : (f : ℕ → ℕ) (ns ms : List ℕ) → numbers_rise ns ≡ true → numbers_rise ms ≡ true → ((n : ℕ) → has_number n ns ≡ true → has_number n ms ≡ true) → sum_by f ns ≤ sum_by f ms
within_sum f [] ms up rise all = omega arith
within_sum f (n ∷ ns) [] up rise all = let no = all n (here n ns) in cc
within_sum f (n ∷ ns) (m ∷ ms) up rise all =
    let low = and_parts (list_all (nat_lt n) ns) (numbers_rise ns) up in
    let high = and_parts (list_all (nat_lt m) ms) (numbers_rise ms) rise in
    elim (cases_eq m n) [
      | inl same ↦
          let rest : sum_by f ns ≤ sum_by f ms = within_sum f ns ms low.1 high.1 (λ k at. elim (in_cons k m ms (all k (later k n ns at))) [
            | inl is ↦ absurd (let more : n < k = above n k ns low.0 at in omega (arith, more, same, is))
            | inr on ↦ on
          ]) in
          omega (arith, ap f same, rest, sum_by-cons f n ns, sum_by-cons f m ms)
      | inr other ↦
          let on : has_number n ms ≡ true = elim (in_cons n m ms (all n (here n ns))) [ inl is ↦ absurd (other is) | inr on ↦ on ] in
          let less : m < n = above m n ms high.0 on in
          let rest : sum_by f (n ∷ ns) ≤ sum_by f ms = within_sum f (n ∷ ns) ms up high.1 (λ k at. elim (in_cons k m ms (all k at)) [
            | inl is ↦ absurd (elim (in_cons k n ns at) [ inl now ↦ omega (arith, less, is, now) | inr past ↦ (let more : n < k = above n k ns low.0 past in omega (arith, less, is, more)) ])
            | inr on ↦ on
          ]) in
          omega (arith, rest, sum_by-cons f m ms)
    ]

pub count_all : (ns : List ℕ) → sum_by (λ n. 1) ns ≡ length ns
count_all [] = refl
count_all (n ∷ ns) = sum_by-cons (λ n. 1) n ns ∙ omega (arith, count_all ns)
