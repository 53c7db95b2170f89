-- A number at its place in a list.
use Rattle.std.proofs.Common.{◌≡◌, ℕ, zero, suc, ◌<◌, ◌≤◌, List, [], ◌∷◌, ◌++◌, refl, sym, ap, ◌∙◌, inl, inr, true, length, arith, take, drop, get_or}
use Rattle.ufs_model.proofs.Words.{Err, IsBinarySearchResult, MatchResult, Ok, Result, and_at, and_parts, cases_lt, drop-cons, drop_all, insert, list_all, ltb-true, nat_cmp, nat_lt, nat_tests, numbers_rise, searched, take-append-drop, with_number}

past : (n m : ℕ) (ms : List ℕ) → m < n → with_number n (m ∷ ms) ≡ m ∷ with_number n ms
past n m ms less = grind (arith, nat_tests)

before : (n m : ℕ) (ms : List ℕ) → n < m → with_number n (m ∷ ms) ≡ n ∷ m ∷ ms
before n m ms less = grind (arith, nat_tests)

same : (n : ℕ) (ms : List ℕ) → with_number n (n ∷ ms) ≡ n ∷ ms
same n ms = grind (arith, nat_tests)

-- past smaller numbers, the rest decides
skipped : (n : ℕ) (ns : List ℕ) (i : ℕ) → i ≤ length ns → ((k : ℕ) → k < i → get_or ns k 0 < n) → with_number n ns ≡ take i ns ++ with_number n (drop i ns)
skipped n ns zero le below = refl
skipped n [] (suc i) le below = absurd (omega arith)
skipped n (m ∷ ms) (suc i) le below =
    past n m ms (below 0 (omega arith)) ∙ ap (λ xs. m ∷ xs) (skipped n ms i (omega arith) (λ k h. below (suc k) (omega arith)))

module _ (n : ℕ) (ns : List ℕ) (i : ℕ) (below : (k : ℕ) → k < i → get_or ns k 0 < n) where
  there : i < length ns → get_or ns i 0 ≡ n → with_number n ns ≡ ns
  there lt is =
      let cut : drop i ns ≡ n ∷ drop (suc i) ns = drop-cons ns i 0 lt ∙ ap (λ m. m ∷ drop (suc i) ns) is in
      skipped n ns i (omega arith) below
      ∙ ap (λ xs. take i ns ++ with_number n xs) cut
      ∙ ap (λ xs. take i ns ++ xs) (same n (drop (suc i) ns) ∙ sym cut)
      ∙ take-append-drop i ns

  goes_before : i < length ns → n < get_or ns i 0 → with_number n ns ≡ insert ns i n
  goes_before lt less =
      skipped n ns i (omega arith) below
      ∙ ap (λ xs. take i ns ++ with_number n xs) (drop-cons ns i 0 lt)
      ∙ ap (λ xs. take i ns ++ xs) (before n (get_or ns i 0) (drop (suc i) ns) less ∙ ap (λ xs. n ∷ xs) (sym (drop-cons ns i 0 lt)))

  goes_last : i ≡ length ns → with_number n ns ≡ insert ns i n
  goes_last is =
      skipped n ns i (omega arith) below
      ∙ ap (λ xs. take i ns ++ with_number n xs) none
      ∙ ap (λ xs. take i ns ++ n ∷ xs) (sym none)
    where
      none : drop i ns ≡ []
      none = drop_all i ns (omega arith)

-- ---- what a search among numbers that rise answers

rise_at : (ns : List ℕ) (i j : ℕ) → numbers_rise ns ≡ true → i < j → j < length ns → get_or ns i 0 < get_or ns j 0
rise_at [] i j up less within = absurd (omega arith)
rise_at (n ∷ ns) i zero up less within = absurd (omega arith)
rise_at (n ∷ ns) zero (suc j) up less within =
    ltb-true n (get_or ns j 0) (and_at (list_all (nat_lt n)) (nat_lt n) refl (λ _ _. refl) ns j 0 (omega arith) (and_parts (list_all (nat_lt n) ns) (numbers_rise ns) up).0)
rise_at (n ∷ ns) (suc i) (suc j) up less within = rise_at ns i j (and_parts (list_all (nat_lt n) ns) (numbers_rise ns) up).1 (omega arith) (omega arith)

pub place_found : (n : ℕ) (ns : List ℕ) (r : Result ℕ ℕ) → numbers_rise ns ≡ true → IsBinarySearchResult (λ y. nat_cmp y n) ns r
    → MatchResult r (λ _. with_number n ns ≡ ns) (λ i. with_number n ns ≡ insert ns i n)
place_found n ns r up found = each r (searched ns n r found (λ i j le within. elim (cases_lt i j) [ inl less ↦ let past = rise_at ns i j up less within in omega arith | inr same ↦ let is : i ≡ j = omega arith in rw is (omega arith) ]))
  where
    each : (r : Result ℕ ℕ) → MatchResult r (λ i. (i < length ns) × (get_or ns i 0 ≡ n)) (λ i. (i ≤ length ns) × ((k : ℕ) → k < i → get_or ns k 0 < n) × ((k : ℕ) → i ≤ k → k < length ns → n < get_or ns k 0))
        → MatchResult r (λ _. with_number n ns ≡ ns) (λ i. with_number n ns ≡ insert ns i n)
    each (Ok i) h = there n ns i (λ k less. let past = rise_at ns k i up less h.0 in omega arith) h.0 h.1
    each (Err i) h = elim (cases_lt i (length ns)) [
      | inl inner ↦ goes_before n ns i h.1 inner (h.2 i (omega arith) inner)
      | inr last ↦ goes_last n ns i h.1 (omega arith)
    ]
