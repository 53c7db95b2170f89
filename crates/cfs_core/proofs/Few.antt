-- How many blocks a file takes, by the leaves that it may hold.
use Rattle.std.proofs.Common.{◌≡◌, ◌⊎◌, inl, inr, ℕ, ◌+◌, ◌/◌, ◌≤◌, List, [], ◌∷◌, ◌++◌, length, true, false, cond, not, refl, ap, subst, arith, ◌==◌, filter, map, nat_lt}
use Rattle.cfs_core.proofs.Words.{above, and_parts, blocks_of, branches, File, first_level, has_number, here, in_cons, in_map, in_withs, lacking, later, list_all, missing, nat_tests, next_levels, numbers_rise, parents, sum_by, sum_by-cons, to_filter, to_map, to_withs, with_numbers-rise}
use Rattle.ufs_model.specs.Limits.{fan_out}
use Rattle.ufs_model.specs.declared.object.Object.TheVariants as objects

-- ---- numbers that rise are no more than those among which they are

no_longer : (n : ℕ) (ms : List ℕ) → length (filter (λ m. not (m == n)) ms) ≤ length ms
no_longer n [] = omega arith
no_longer n (m ∷ ms) = elim (not (m == n)) as (λ b. length (cond b (m ∷ filter (λ x. not (x == n)) ms) (filter (λ x. not (x == n)) ms)) ≤ length (m ∷ ms)) [
  | true ↦ omega (arith, no_longer n ms)
  | false ↦ omega (arith, no_longer n ms)
]

one_less : (n : ℕ) (ms : List ℕ) → has_number n ms ≡ true → length (filter (λ m. not (m == n)) ms) + 1 ≤ length ms
one_less n [] is = cc
one_less n (m ∷ ms) is = elim (m == n) as (λ b. (m == n) ≡ b → length (cond (not b) (m ∷ filter (λ x. not (x == n)) ms) (filter (λ x. not (x == n)) ms)) + 1 ≤ length (m ∷ ms)) [
  | true ↦ λ same. omega (arith, no_longer n ms)
  | false ↦ λ other. omega (arith, one_less n ms (elim (in_cons n m ms is) [ inl same ↦ (let no : (m == n) ≡ true = grind (arith, nat_tests) in cc) | inr rest ↦ rest ]))
] refl

no_more : (xs ms : List ℕ) → numbers_rise xs ≡ true → ((x : ℕ) → has_number x xs ≡ true → has_number x ms ≡ true) → length xs ≤ length ms
no_more [] ms up among = omega arith
no_more (n ∷ xs) ms up among =
    let ups = and_parts (list_all (nat_lt n) xs) (numbers_rise xs) up in
    omega (
      arith,
      one_less n ms (among n (here n xs)),
      no_more xs (filter (λ m. not (m == n)) ms) ups.1
          (λ x has. to_filter (λ m. not (m == n)) x ms (let past = above n x xs ups.0 has in let other : (x == n) ≡ false = grind (arith, nat_tests) in ap not other) (among x (later x n xs has))),
    )

in_first : (x : ℕ) (ms ns : List ℕ) → has_number x ms ≡ true → has_number x (ms ++ ns) ≡ true
in_first x [] ns has = cc
in_first x (m ∷ ms) ns has = elim (in_cons x m ms has) [ inl same ↦ subst (λ (y : ℕ). has_number x (y ∷ ms ++ ns) ≡ true) (let is : x ≡ m = omega (arith, same) in is) (here x (ms ++ ns)) | inr rest ↦ later x m (ms ++ ns) (in_first x ms ns rest) ]

in_second : (x : ℕ) (ms ns : List ℕ) → has_number x ns ≡ true → has_number x (ms ++ ns) ≡ true
in_second x [] ns has = has
in_second x (m ∷ ms) ns has = later x m (ms ++ ns) (in_second x ms ns has)

joined : (ms ns : List ℕ) → length (ms ++ ns) ≡ length ms + length ns
joined [] ns = omega arith
joined (m ∷ ms) ns = omega (arith, joined ms ns)

-- each is one of ms or of ns, and those of ns that are there are of ms: then they are no more than ms and what is lacking
pub few_more : (xs ms ns there : List ℕ) → numbers_rise xs ≡ true → ((x : ℕ) → has_number x xs ≡ true → (has_number x ms ≡ true) ⊎ (has_number x ns ≡ true))
    → ((x : ℕ) → has_number x there ≡ true → has_number x ms ≡ true) → length xs ≤ length ms + length (lacking ns there)
few_more xs ms ns there up among held = omega (
  arith,
  joined ms (lacking ns there),
  no_more xs (ms ++ lacking ns there) up
      (λ x has. elim (among x has) [
        | inl old ↦ in_first x ms (lacking ns there) old
        | inr new ↦ elim (has_number x there) as (λ b. has_number x there ≡ b → has_number x (ms ++ lacking ns there) ≡ true) [
          | true ↦ λ is. in_first x ms (lacking ns there) (held x is)
          | false ↦ λ is. in_second x ms (lacking ns there) (to_filter (λ n. not (has_number n there)) x ns (ap not is) new)
        ] refl
      ]),
)

parents_among : (xs ms ns : List ℕ) → ((x : ℕ) → has_number x xs ≡ true → (has_number x ms ≡ true) ⊎ (has_number x ns ≡ true))
    → (y : ℕ) → has_number y (parents xs) ≡ true → (has_number y (parents ms) ≡ true) ⊎ (has_number y (parents ns) ≡ true)
parents_among xs ms ns among y has =
    let half : ℕ → ℕ = λ n. n / fan_out in
    let x = in_map half y xs (in_withs y (map half xs) has) in
    elim (among x.0 x.1) [
      | inl old ↦ inl (subst (λ (n : ℕ). has_number n (parents ms) ≡ true) x.2 (to_withs (half x.0) (map half ms) (to_map half x.0 ms old)))
      | inr new ↦ inr (subst (λ (n : ℕ). has_number n (parents ns) ≡ true) x.2 (to_withs (half x.0) (map half ns) (to_map half x.0 ns new)))
    ]

-- ---- a file

two_levels : (held : List ℕ) → sum_by length (held ∷ parents held ∷ []) ≡ length held + length (parents held)
two_levels held = omega (arith, sum_by-cons {X = List ℕ} length held (parents held ∷ []), sum_by-cons {X = List ℕ} length (parents held) [])

-- Each leaf of file x is one of file f, or one of these; then x takes no more blocks than f and those that are missing. What is
-- there may be left out of account.
pub blocks_within : (x f : File) (leaves : List ℕ) (there : List (List ℕ)) → numbers_rise x.held ≡ true → ((leaf : ℕ) → has_number leaf x.held ≡ true → (has_number leaf f.held ≡ true) ⊎ (has_number leaf leaves ≡ true))
    → ((n : ℕ) → has_number n (first_level there) ≡ true → has_number n f.held ≡ true) → ((n : ℕ) → has_number n (first_level (next_levels there)) ≡ true → has_number n (parents f.held) ≡ true)
    → blocks_of (objects.File x) ≤ blocks_of (objects.File f) + missing (branches 1 leaves) there
blocks_within x f leaves there up among held above_held =
    omega (
      arith,
      two_levels x.held,
      two_levels f.held,
      few_more x.held f.held leaves (first_level there) up among held,
      few_more (parents x.held) (parents f.held) (parents leaves) (first_level (next_levels there)) (with_numbers-rise (map (λ n. n / fan_out) x.held)) (parents_among x.held f.held leaves among) above_held,
    )
