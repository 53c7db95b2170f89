-- Numbers that rise: two lists with the same members are one.
use Rattle.std.proofs.Common.{◌≡◌, ◌⊎◌, inl, inr, ℕ, zero, suc, ◌+◌, ◌<◌, ◌≤◌, List, [], ◌∷◌, ◌++◌, Bool, true, false, cond, refl, sym, ◌∙◌, ap, subst, arith, ◌||◌, ◌&&◌, map}
use Rattle.ufs_model.proofs.Words.{and_from, and_parts, cases_order, eq-eqb, eqb-true, filter, has_number, list_all, list_all-append, lt-ltb, ltb-true, nat_lt, nat_tests, numbers_rise, or_cases, range_with_len, with_number, with_numbers, ◌==◌}

-- ---- members

-- the head, and what is in the tail
pub here : (n : ℕ) (ns : List ℕ) → has_number n (n ∷ ns) ≡ true
here n ns = rw (eq-eqb n n refl) refl

pub later : (x n : ℕ) (ns : List ℕ) → has_number x ns ≡ true → has_number x (n ∷ ns) ≡ true
later x n ns h = elim (n == x) as (λ b. (b || has_number x ns) ≡ true) [ true ↦ refl | false ↦ h ]

pub in_cons : (x n : ℕ) (ns : List ℕ) → has_number x (n ∷ ns) ≡ true → (n ≡ x) ⊎ (has_number x ns ≡ true)
in_cons x n ns h = elim (or_cases (n == x) (has_number x ns) h) [ inl is ↦ inl (eqb-true n x is) | inr rest ↦ inr rest ]

-- of numbers in a row
pub in_numbers : (x a n : ℕ) → has_number x (range_with_len a n) ≡ true → (a ≤ x) × (x < a + n)
in_numbers x a zero h = cc
in_numbers x a (suc n) h = elim (in_cons x a (range_with_len (a + 1) n) h) [
  | inl is ↦ (omega arith, omega arith)
  | inr rest ↦ let two = in_numbers x (a + 1) n rest in (omega arith, omega arith)
]

pub to_numbers : (x a n : ℕ) → a ≤ x → x < a + n → has_number x (range_with_len a n) ≡ true
to_numbers x a zero from below = absurd (omega arith)
to_numbers x a (suc n) from below = elim (cases_order a x) [
  | inl is ↦ subst (λ (y : ℕ). has_number y (a ∷ range_with_len (a + 1) n) ≡ true) is (here a (range_with_len (a + 1) n))
  | inr (inl past) ↦ later x a (range_with_len (a + 1) n) (to_numbers x (a + 1) n (omega arith) (omega arith))
  | inr (inr under) ↦ absurd (omega arith)
]

-- one more in the row
pub numbers_more : (a n m : ℕ) → a + n ≡ m → range_with_len a (suc n) ≡ range_with_len a n ++ m ∷ []
numbers_more a zero m is = let same : a ≡ m = omega arith in ap (λ (x : ℕ). x ∷ []) same
numbers_more a (suc n) m is = ap (λ rest. a ∷ rest) (numbers_more (a + 1) n m (omega arith))

-- of those that pass a test
pub in_filter : (P : ℕ → Bool) (x : ℕ) (ns : List ℕ) → has_number x (filter P ns) ≡ true → (P x ≡ true) × (has_number x ns ≡ true)
in_filter P x [] h = cc
in_filter P x (n ∷ ns) h = elim (P n) as (λ b. P n ≡ b → has_number x (cond b (n ∷ filter P ns) (filter P ns)) ≡ true → (P x ≡ true) × (has_number x (n ∷ ns) ≡ true)) [
  | true ↦ λ is h. elim (in_cons x n (filter P ns) h) [
    | inl same ↦ (sym (ap P same) ∙ is, subst (λ (y : ℕ). has_number y (n ∷ ns) ≡ true) same (here n ns))
    | inr rest ↦ let two = in_filter P x ns rest in (two.0, later x n ns two.1)
  ]
  | false ↦ λ is h. let two = in_filter P x ns h in (two.0, later x n ns two.1)
] refl h

pub to_filter : (P : ℕ → Bool) (x : ℕ) (ns : List ℕ) → P x ≡ true → has_number x ns ≡ true → has_number x (filter P ns) ≡ true
to_filter P x [] passes h = h
to_filter P x (n ∷ ns) passes h = elim (in_cons x n ns h) [
  | inl same ↦ rw (ap P same ∙ passes) (subst (λ (y : ℕ). has_number y (n ∷ filter P ns) ≡ true) same (here n (filter P ns)))
  | inr rest ↦ elim (P n) as (λ b. has_number x (cond b (n ∷ filter P ns) (filter P ns)) ≡ true) [
    | true ↦ later x n (filter P ns) (to_filter P x ns passes rest)
    | false ↦ to_filter P x ns passes rest
  ]
]

-- of what a function gives
pub in_map : (f : ℕ → ℕ) (x : ℕ) (ns : List ℕ) → has_number x (map f ns) ≡ true → (n : ℕ) × (has_number n ns ≡ true) × (f n ≡ x)
in_map f x [] h = cc
in_map f x (n ∷ ns) h = elim (in_cons x (f n) (map f ns) h) [
  | inl same ↦ (n, here n ns, same)
  | inr rest ↦ let three = in_map f x ns rest in (three.0, later three.0 n ns three.1, three.2)
]

pub to_map : (f : ℕ → ℕ) (x : ℕ) (ns : List ℕ) → has_number x ns ≡ true → has_number (f x) (map f ns) ≡ true
to_map f x [] h = h
to_map f x (n ∷ ns) h = elim (in_cons x n ns h) [
  | inl same ↦ subst (λ (y : ℕ). has_number (f y) (f n ∷ map f ns) ≡ true) same (here (f n) (map f ns))
  | inr rest ↦ later (f x) (f n) (map f ns) (to_map f x ns rest)
]

-- ---- one more at its place

at_same : (n m : ℕ) (ms : List ℕ) → n ≡ m → with_number n (m ∷ ms) ≡ m ∷ ms
at_same n m ms is = grind (arith, nat_tests)

at_before : (n m : ℕ) (ms : List ℕ) → n < m → with_number n (m ∷ ms) ≡ n ∷ m ∷ ms
at_before n m ms is = grind (arith, nat_tests)

at_after : (n m : ℕ) (ms : List ℕ) → m < n → with_number n (m ∷ ms) ≡ m ∷ with_number n ms
at_after n m ms is = grind (arith, nat_tests)

pub in_with : (x n : ℕ) (ms : List ℕ) → has_number x (with_number n ms) ≡ true → (n ≡ x) ⊎ (has_number x ms ≡ true)
in_with x n [] h = in_cons x n [] h
in_with x n (m ∷ ms) h = elim (cases_order n m) [
  | inl is ↦ inr (subst (λ (l : List ℕ). has_number x l ≡ true) (at_same n m ms is) h)
  | inr (inl is) ↦ in_cons x n (m ∷ ms) (subst (λ (l : List ℕ). has_number x l ≡ true) (at_before n m ms is) h)
  | inr (inr is) ↦ elim (in_cons x m (with_number n ms) (subst (λ (l : List ℕ). has_number x l ≡ true) (at_after n m ms is) h)) [
    | inl same ↦ inr (subst (λ (y : ℕ). has_number y (m ∷ ms) ≡ true) same (here m ms))
    | inr rest ↦ elim (in_with x n ms rest) [ inl same ↦ inl same | inr old ↦ inr (later x m ms old) ]
  ]
]

pub with_itself : (n : ℕ) (ms : List ℕ) → has_number n (with_number n ms) ≡ true
with_itself n [] = here n []
with_itself n (m ∷ ms) = elim (cases_order n m) [
  | inl is ↦ rw (at_same n m ms is) (subst (λ (y : ℕ). has_number y (m ∷ ms) ≡ true) (sym is) (here m ms))
  | inr (inl is) ↦ rw (at_before n m ms is) (here n (m ∷ ms))
  | inr (inr is) ↦ rw (at_after n m ms is) (later n m (with_number n ms) (with_itself n ms))
]

pub with_others : (x n : ℕ) (ms : List ℕ) → has_number x ms ≡ true → has_number x (with_number n ms) ≡ true
with_others x n [] h = cc
with_others x n (m ∷ ms) h = elim (cases_order n m) [
  | inl is ↦ rw (at_same n m ms is) h
  | inr (inl is) ↦ rw (at_before n m ms is) (later x n (m ∷ ms) h)
  | inr (inr is) ↦ rw (at_after n m ms is) (elim (in_cons x m ms h) [
    | inl same ↦ subst (λ (y : ℕ). has_number y (m ∷ with_number n ms) ≡ true) same (here m (with_number n ms))
    | inr rest ↦ later x m (with_number n ms) (with_others x n ms rest)
  ])
]

-- of all of these, each at its place
pub withs_new : (x : ℕ) (ns ms : List ℕ) → has_number x ns ≡ true → has_number x (with_numbers ns ms) ≡ true
withs_new x [] ms h = cc
withs_new x (n ∷ ns) ms h = elim (in_cons x n ns h) [
  | inl same ↦ subst (λ (y : ℕ). has_number y (with_number n (with_numbers ns ms)) ≡ true) same (with_itself n (with_numbers ns ms))
  | inr rest ↦ with_others x n (with_numbers ns ms) (withs_new x ns ms rest)
]

pub withs_old : (x : ℕ) (ns ms : List ℕ) → has_number x ms ≡ true → has_number x (with_numbers ns ms) ≡ true
withs_old x [] ms h = h
withs_old x (n ∷ ns) ms h = with_others x n (with_numbers ns ms) (withs_old x ns ms h)

pub in_withs : (x : ℕ) (ns : List ℕ) → has_number x (with_numbers ns []) ≡ true → has_number x ns ≡ true
in_withs x [] h = h
in_withs x (n ∷ ns) h = elim (in_with x n (with_numbers ns []) h) [
  | inl same ↦ subst (λ (y : ℕ). has_number y (n ∷ ns) ≡ true) same (here n ns)
  | inr rest ↦ later x n ns (in_withs x ns rest)
]

pub to_withs : (x : ℕ) (ns : List ℕ) → has_number x ns ≡ true → has_number x (with_numbers ns []) ≡ true
to_withs x ns h = withs_new x ns [] h

-- what each passes
pub all_with : (P : ℕ → Bool) (n : ℕ) (ms : List ℕ) → P n ≡ true → list_all P ms ≡ true → list_all P (with_number n ms) ≡ true
all_with P n [] one all = and_from (P n) true one refl
all_with P n (m ∷ ms) one all =
    let two = and_parts (P m) (list_all P ms) all in
    elim (cases_order n m) [
      | inl is ↦ rw (at_same n m ms is) all
      | inr (inl is) ↦ rw (at_before n m ms is) (and_from (P n) (list_all P (m ∷ ms)) one all)
      | inr (inr is) ↦ rw (at_after n m ms is) (and_from (P m) (list_all P (with_number n ms)) two.0 (all_with P n ms one two.1))
    ]

pub all_withs : (P : ℕ → Bool) (ns ms : List ℕ) → list_all P ns ≡ true → list_all P ms ≡ true → list_all P (with_numbers ns ms) ≡ true
all_withs P [] ms new old = old
all_withs P (n ∷ ns) ms new old = let two = and_parts (P n) (list_all P ns) new in all_with P n (with_numbers ns ms) two.0 (all_withs P ns ms two.1 old)

pub all_numbers : (P : ℕ → Bool) (a n : ℕ) → ((x : ℕ) → a ≤ x → x < a + n → P x ≡ true) → list_all P (range_with_len a n) ≡ true
all_numbers P a zero each = refl
all_numbers P a (suc n) each = and_from (P a) (list_all P (range_with_len (a + 1) n)) (each a (omega arith) (omega arith)) (all_numbers P (a + 1) n (λ x from below. each x (omega arith) (omega arith)))

-- ---- what rises

-- above all: the test of the list, and of each member
pub above : (n x : ℕ) (ns : List ℕ) → list_all (nat_lt n) ns ≡ true → has_number x ns ≡ true → n < x
above n x [] all h = cc
above n x (m ∷ ms) all h =
    let two = and_parts (nat_lt n m) (list_all (nat_lt n) ms) all in
    elim (in_cons x m ms h) [ inl same ↦ subst (λ (y : ℕ). n < y) same (ltb-true n m two.0) | inr rest ↦ above n x ms two.1 rest ]

pub all_above : (n : ℕ) (ns : List ℕ) → ((x : ℕ) → has_number x ns ≡ true → n < x) → list_all (nat_lt n) ns ≡ true
all_above n [] each = refl
all_above n (m ∷ ms) each = and_from (nat_lt n m) (list_all (nat_lt n) ms) (lt-ltb n m (each m (here m ms))) (all_above n ms (λ x h. each x (later x m ms h)))

pub numbers-rise : (a n : ℕ) → numbers_rise (range_with_len a n) ≡ true
numbers-rise a zero = refl
numbers-rise a (suc n) = and_from _ _ (all_above a (range_with_len (a + 1) n) (λ x h. let two = in_numbers x (a + 1) n h in omega arith)) (numbers-rise (a + 1) n)

pub filter-rises : (P : ℕ → Bool) (ns : List ℕ) → numbers_rise ns ≡ true → numbers_rise (filter P ns) ≡ true
filter-rises P [] up = refl
filter-rises P (n ∷ ns) up =
    let two = and_parts (list_all (nat_lt n) ns) (numbers_rise ns) up in
    let rest = filter-rises P ns two.1 in
    elim (P n) as (λ b. numbers_rise (cond b (n ∷ filter P ns) (filter P ns)) ≡ true) [
      | true ↦ and_from _ _ (all_above n (filter P ns) (λ x h. above n x ns two.0 (in_filter P x ns h).1)) rest
      | false ↦ rest
    ]

pub with_number-rises : (n : ℕ) (ms : List ℕ) → numbers_rise ms ≡ true → numbers_rise (with_number n ms) ≡ true
with_number-rises n [] up = refl
with_number-rises n (m ∷ ms) up = let two = and_parts (list_all (nat_lt m) ms) (numbers_rise ms) up in elim (cases_order n m) [
  | inl is ↦ rw (at_same n m ms is) up
  | inr (inl is) ↦ rw (at_before n m ms is) (and_from _ _ (all_above n (m ∷ ms) (λ x h. elim (in_cons x m ms h) [ inl same ↦ omega arith | inr rest ↦ let past = above m x ms two.0 rest in omega arith ])) up)
  | inr (inr is) ↦ rw (at_after n m ms is) (and_from _ _ (all_above m (with_number n ms) (λ x h. elim (in_with x n ms h) [ inl same ↦ omega arith | inr rest ↦ above m x ms two.0 rest ]))
      (with_number-rises n ms two.1))
]

pub withs-rise : (ns ms : List ℕ) → numbers_rise ms ≡ true → numbers_rise (with_numbers ns ms) ≡ true
withs-rise [] ms up = up
withs-rise (n ∷ ns) ms up = with_number-rises n (with_numbers ns ms) (withs-rise ns ms up)

pub with_numbers-rise : (ns : List ℕ) → numbers_rise (with_numbers ns []) ≡ true
with_numbers-rise ns = withs-rise ns [] refl

-- a greater number at the end
pub rise-push : (ns : List ℕ) (m : ℕ) → numbers_rise ns ≡ true → list_all (λ n. nat_lt n m) ns ≡ true → numbers_rise (ns ++ m ∷ []) ≡ true
rise-push [] m up below = refl
rise-push (n ∷ ns) m up below =
    let ups = and_parts (list_all (nat_lt n) ns) (numbers_rise ns) up in
    let two = and_parts (nat_lt n m) (list_all (λ k. nat_lt k m) ns) below in
    and_from (list_all (nat_lt n) (ns ++ m ∷ [])) (numbers_rise (ns ++ m ∷ []))
    (list_all-append (nat_lt n) ns (m ∷ []) ∙ and_from (list_all (nat_lt n) ns) (nat_lt n m && true) ups.0 (and_from (nat_lt n m) true two.0 refl)) (rise-push ns m ups.1 two.1)

-- ---- one list

abbrev pub IsWithin : List ℕ → List ℕ → Type 0
IsWithin ns ms = (x : ℕ) → has_number x ns ≡ true → has_number x ms ≡ true

-- the first of numbers that rise is the least
least : (n x : ℕ) (ns : List ℕ) → list_all (nat_lt n) ns ≡ true → has_number x (n ∷ ns) ≡ true → n ≤ x
least n x ns all h = elim (in_cons x n ns h) [ inl same ↦ omega arith | inr rest ↦ let past = above n x ns all rest in omega arith ]

within_tail : (n : ℕ) (ns ms : List ℕ) → list_all (nat_lt n) ns ≡ true → IsWithin (n ∷ ns) (n ∷ ms) → IsWithin ns ms
within_tail n ns ms all to x h = elim (in_cons x n ms (to x (later x n ns h))) [ inl same ↦ let past = above n x ns all h in absurd (omega arith) | inr rest ↦ rest ]

pub same_numbers : (ns ms : List ℕ) → numbers_rise ns ≡ true → numbers_rise ms ≡ true → IsWithin ns ms → IsWithin ms ns → ns ≡ ms
same_numbers [] [] up down to from = refl
same_numbers [] (m ∷ ms) up down to from = let no : false ≡ true = from m (here m ms) in cc
same_numbers (n ∷ ns) [] up down to from = let no : false ≡ true = to n (here n ns) in cc
same_numbers (n ∷ ns) (m ∷ ms) up down to from =
    let ups = and_parts (list_all (nat_lt n) ns) (numbers_rise ns) up in
    let downs = and_parts (list_all (nat_lt m) ms) (numbers_rise ms) down in
    let one = least n m ns ups.0 (from m (here m ms)) in
    let two = least m n ms downs.0 (to n (here n ns)) in
    let is : m ≡ n = omega arith in
    let first = within_tail n ns ms ups.0 (subst (λ (y : ℕ). IsWithin (n ∷ ns) (y ∷ ms)) is to) in
    let second = within_tail n ms ns (subst (λ (y : ℕ). list_all (nat_lt y) ms ≡ true) is downs.0) (subst (λ (y : ℕ). IsWithin (y ∷ ms) (n ∷ ns)) is from) in
    let tail = same_numbers ns ms ups.1 downs.1 first second in
    λ i. sym is i ∷ tail i
