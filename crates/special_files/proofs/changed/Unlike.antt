-- The pointers of a table that are unlike those of another, each a number that isn't 0.
use Rattle.std.proofs.Common.{◌≡◌, ◌≢◌, ◌⊎◌, inl, inr, ℕ, zero, suc, ◌+◌, ◌<◌, ◌≤◌, true, false, not, List, [], ◌∷◌, ◌++◌, length, refl, sym, ◌∙◌, ap, subst, append_assoc, length-append, arith}
use Rattle.special_files.proofs.Words.{All-append, All-cons, All-nil, AreOnDisk, Differ, all_unlike, and_from, append-nil, append_differ, cases_Bool, cases_lt, eqb-false, eqb-true, has-append, has_number, here, numbers_differ, or_cases, or_left, or_right, unlike, ◌==◌}
use Rattle.special_files.specs.Changed.{Adds}

-- ---- one pointer

pub data Unlike (n m : ℕ) : Type 0 where
  Not : unlike n m ≡ [] → (n ≡ 0) ⊎ (n ≡ m) → Unlike n m
  Is : unlike n m ≡ n ∷ [] → n ≢ 0 → n ≢ m → Unlike n m

unlike_is : (n m : ℕ) → Unlike n m
unlike_is n m = elim (cases_Bool (n == 0)) [
  | inl none ↦ Not (rw none refl) (inl (eqb-true n 0 none))
  | inr some ↦ elim (cases_Bool (n == m)) [
    | inl same ↦ Not (rw (some, same) refl) (inr (eqb-true n m same))
    | inr other ↦ Is (rw (some, other) refl) (eqb-false n 0 some) (eqb-false n m other)
  ]
]

pub one_number : (a n : ℕ) → has_number n (a ∷ []) ≡ true → a ≡ n
one_number a n h = elim (or_cases (a == n) false h) [ inl is ↦ eqb-true a n is | inr none ↦ cc ]

has_unlike : (n a b : ℕ) → has_number n (unlike a b) ≡ true → (a ≡ n) × (n ≢ 0) × (b ≢ n)
has_unlike n a b h = elim (unlike_is a b) [
  | Not none why ↦ absurd (let clash : false ≡ true = sym (ap (has_number n) none) ∙ h in cc)
  | Is one some other ↦ let same = one_number a n (sym (ap (has_number n) one) ∙ h) in (same, λ z. some (same ∙ z), λ is. other (same ∙ sym is))
]

it_has : (n m : ℕ) → n ≢ 0 → m ≢ n → has_number n (unlike n m) ≡ true
it_has n m some other = elim (unlike_is n m) [
  | Not none why ↦ absurd (elim why [ inl z ↦ some z | inr same ↦ other (sym same) ])
  | Is one s o ↦ ap (has_number n) one ∙ here n []
]

unlike_once : (a b : ℕ) → Differ (unlike a b)
unlike_once a b = elim (unlike_is a b) [ Not none why ↦ subst Differ (sym none) tt | Is one some other ↦ subst Differ (sym one) (refl, tt) ]

unlike_same : (a b : ℕ) → a ≡ b → unlike a b ≡ []
unlike_same a b same = elim (unlike_is a b) [ Not none why ↦ none | Is one some other ↦ absurd (other same) ]

pub one_at_most : (a b : ℕ) → length (unlike a b) ≤ 1
one_at_most a b = elim (unlike_is a b) [ Not none why ↦ omega (arith, ap (length {A = ℕ}) none) | Is one some other ↦ omega (arith, ap (length {A = ℕ}) one) ]

one_on_disk : (size a b : ℕ) → a < size → AreOnDisk size (unlike a b)
one_on_disk size a b below = elim (unlike_is a b) [
  | Not none why ↦ subst (AreOnDisk size) (sym none) (All-nil (λ n. (n ≢ 0) × (n < size)))
  | Is one some other ↦ subst (AreOnDisk size) (sym one) (All-cons (λ n. (n ≢ 0) × (n < size)) a [] (some, below) (All-nil (λ n. (n ≢ 0) × (n < size))))
]

-- ---- many

pub once_from : (ns : List ℕ) → Differ ns → numbers_differ ns ≡ true
once_from [] d = refl
once_from (n ∷ ns) d = and_from _ _ (ap not d.0) (once_from ns d.1)

module _ (f g : ℕ → ℕ) where
  pub none_unlike : all_unlike f g 0 ≡ []
  unfolding all_unlike
  none_unlike = refl

  pub more_unlike : (k j : ℕ) → j ≡ k + 1 → all_unlike f g j ≡ all_unlike f g k ++ unlike (f k) (g k)
  unfolding all_unlike
  more_unlike k j is = let next : j ≡ suc k = omega (arith, is) in ap (all_unlike f g) next

  pub first_unlike : all_unlike f g 1 ≡ unlike (f 0) (g 0)
  first_unlike = more_unlike 0 1 (omega arith) ∙ ap (λ (ns : List ℕ). ns ++ unlike (f 0) (g 0)) none_unlike

  -- what is listed, and that all is
  pub in_unlike : (k n : ℕ) → has_number n (all_unlike f g k) ≡ true → (j : ℕ) × (j < k) × (f j ≡ n) × (n ≢ 0) × (g j ≢ n)
  unfolding all_unlike
  in_unlike zero n h = cc
  in_unlike (suc k) n h = elim (or_cases _ _ (sym (has-append n (all_unlike f g k) (unlike (f k) (g k))) ∙ h)) [
    | inl before ↦ let r = in_unlike k n before in (r.0, omega (arith, r.1), r.2, r.3, r.4)
    | inr last ↦ let one = has_unlike n (f k) (g k) last in (k, omega arith, one.0, one.1, one.2)
  ]

  pub to_unlike : (k j : ℕ) → j < k → f j ≢ 0 → g j ≢ f j → has_number (f j) (all_unlike f g k) ≡ true
  unfolding all_unlike
  to_unlike zero j less some other = absurd (omega (arith, less))
  to_unlike (suc k) j less some other = has-append (f j) (all_unlike f g k) (unlike (f k) (g k)) ∙ elim (cases_lt j k) [
    | inl before ↦ or_left _ _ (to_unlike k j before some other)
    | inr last ↦ let same : j ≡ k = omega (arith, less, last) in or_right _ _ (subst (λ (i : ℕ). has_number (f j) (unlike (f i) (g i)) ≡ true) same (it_has (f j) (g j) some other))
  ]

  -- where no two of the first are the same, but for 0, each is listed once
  pub unlike_differ : (k : ℕ) → ((i j : ℕ) → i < k → j < k → f i ≡ f j → f i ≢ 0 → i ≡ j) → Differ (all_unlike f g k)
  unfolding all_unlike
  unlike_differ zero one = tt
  unlike_differ (suc k) one =
      append_differ (all_unlike f g k) (unlike (f k) (g k)) (unlike_differ k (λ i j low high. one i j (omega (arith, low)) (omega (arith, high)))) (unlike_once (f k) (g k)) (λ n before last.
      let r = in_unlike k n before in
      let l = has_unlike n (f k) (g k) last in
      let same : r.0 ≡ k = one r.0 k (omega (arith, r.1)) (omega arith) (r.2 ∙ sym l.0) (λ z. r.3 (sym r.2 ∙ z)) in
      omega (arith, same, r.1))

  -- where they are the same from one on, no more is listed
  pub alike_from : (k m : ℕ) → k ≤ m → ((j : ℕ) → k ≤ j → j < m → f j ≡ g j) → all_unlike f g m ≡ all_unlike f g k
  unfolding all_unlike
  alike_from k zero le same = let is : zero ≡ k = omega (arith, le) in ap (all_unlike f g) is
  alike_from k (suc m) le same = elim (cases_lt m k) [
    | inl before ↦ let is : suc m ≡ k = omega (arith, le, before) in ap (all_unlike f g) is
    | inr past ↦
        let more : k ≤ m = omega (arith, past) in
        (λ i. alike_from k m more (λ j from less. same j from (omega (arith, less))) i ++ unlike_same (f m) (g m) (same m more (omega arith)) i) ∙ append-nil (all_unlike f g k)
  ]

  pub all_alike : (k : ℕ) → ((j : ℕ) → j < k → f j ≡ g j) → all_unlike f g k ≡ []
  all_alike k same = alike_from 0 k (omega arith) (λ j none less. same j less) ∙ none_unlike

  -- where they are the same but at two places
  pub two_unlike : (p q k : ℕ) → p < q → q < k → ((j : ℕ) → j < k → j ≢ p → j ≢ q → f j ≡ g j) → all_unlike f g k ≡ unlike (f p) (g p) ++ unlike (f q) (g q)
  two_unlike p q k low high same =
      alike_from (q + 1) k (omega (arith, high)) (λ j from less. same j less (λ is. omega (arith, is, from, low)) (λ is. omega (arith, is, from)))
      ∙ more_unlike q (q + 1) refl
      ∙ ap (λ (ns : List ℕ). ns ++ unlike (f q) (g q))
      (alike_from (p + 1) q (omega (arith, low)) (λ j from less. same j (omega (arith, less, high)) (λ is. omega (arith, is, from)) (λ is. omega (arith, is, less)))
      ∙ more_unlike p (p + 1) refl
      ∙ ap (λ (ns : List ℕ). ns ++ unlike (f p) (g p)) (all_alike p (λ j less. same j (omega (arith, less, low, high)) (λ is. omega (arith, is, less)) (λ is. omega (arith, is, less, low)))))

  pub length-unlike : (k : ℕ) → length (all_unlike f g k) ≤ k
  unfolding all_unlike
  length-unlike zero = omega arith
  length-unlike (suc k) = omega (arith, length-append (all_unlike f g k) (unlike (f k) (g k)), length-unlike k, one_at_most (f k) (g k))

  pub unlike_on_disk : (size k : ℕ) → ((j : ℕ) → j < k → f j < size) → AreOnDisk size (all_unlike f g k)
  unfolding all_unlike
  unlike_on_disk size zero below = All-nil (λ n. (n ≢ 0) × (n < size))
  unlike_on_disk size (suc k) below =
      All-append (λ n. (n ≢ 0) × (n < size)) (all_unlike f g k) (unlike (f k) (g k)) (unlike_on_disk size k (λ j less. below j (omega (arith, less)))) (one_on_disk size (f k) (g k) (below k (omega arith)))

  pub adds_unlike : (size k : ℕ) (old new : List ℕ) → new ≡ old ++ all_unlike f g k → ((j : ℕ) → j < k → f j < size) → Adds size k old new
  adds_unlike size k old new is below = record {
    room = omega (arith, ap (length {A = ℕ}) is, length-append old (all_unlike f g k), length-unlike k);
    on_disk = λ had. subst (AreOnDisk size) (sym is) (All-append (λ n. (n ≢ 0) × (n < size)) old (all_unlike f g k) had (unlike_on_disk size k below));
  }

  -- two tables, one after the other
  pub join_unlike : (p q : ℕ → ℕ) (k m j : ℕ) → j ≡ k + m → ((i : ℕ) → i < m → f (k + i) ≡ p i) → ((i : ℕ) → i < m → g (k + i) ≡ q i) → all_unlike f g j ≡ all_unlike f g k ++ all_unlike p q m
  unfolding all_unlike
  join_unlike p q k zero j is one two = let same : j ≡ k = omega (arith, is) in ap (all_unlike f g) same ∙ sym (append-nil (all_unlike f g k))
  join_unlike p q k (suc m) j is one two =
      let next : j ≡ suc (k + m) = omega (arith, is) in
      let before = join_unlike p q k m (k + m) refl (λ i less. one i (omega (arith, less))) (λ i less. two i (omega (arith, less))) in
      ap (all_unlike f g) next ∙ (λ i. before i ++ unlike (one m (omega arith) i) (two m (omega arith) i)) ∙ append_assoc (all_unlike f g k) (all_unlike p q m) (unlike (p m) (q m))
