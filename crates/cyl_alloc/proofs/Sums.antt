-- The sums of counts: one of them changed, and the first that isn't 0.
use Rattle.std.proofs.Common.{◌≡◌, ◌≢◌, ℕ, suc, ◌+◌, ◌-◌, ◌*◌, ◌/◌, ◌%◌, ◌<◌, ◌≤◌, List, [], ◌∷◌, length, take, drop, set, get_or, replicate, refl, sym, ◌∙◌, ap, arith, inl, inr, length-drop, length-set, Some, None}
use Rattle.cyl_alloc.proofs.Words.{All-replicate, All-set, AreSums, IsFirstAbove, AreFreeCounts, cases_eq, cases_lt, drop-set-add, drop-set-lt, get_or-drop, get_or-le-sum_by, get_or-replicate, get_or-set_other, get_or-set_same, get_or-take, get_or_past, group_sum, length-replicate, length-take, sum, sum_by-cons, sum_by-le, sum_by-set, sum_by-take-drop, sum_by-take-le, take-set-le, take-set-lt}

abbrev itself : ℕ → ℕ
itself n = n

-- ---- the sum of a group

member : (xs : List ℕ) (i : ℕ) → get_or (take 256 (drop (256 * (i / 256)) xs)) (i % 256) 0 ≡ get_or xs i 0
member xs i =
    get_or-take 256 (drop (256 * (i / 256)) xs) (i % 256) 0 (omega arith)
    ∙ get_or-drop (256 * (i / 256)) xs (i % 256) 0
    ∙ ap (λ (n : ℕ). get_or xs n 0) (omega arith)

within : (xs : List ℕ) (i : ℕ) → i < length xs → i % 256 < length (take 256 (drop (256 * (i / 256)) xs))
within xs i lt = omega (arith, length-take 256 (drop (256 * (i / 256)) xs), length-drop (256 * (i / 256)) xs)

pub member-le-group : (xs : List ℕ) (i : ℕ) → i < length xs → get_or xs i 0 ≤ group_sum xs (i / 256)
member-le-group xs i lt = omega (arith, member xs i, get_or-le-sum_by itself (take 256 (drop (256 * (i / 256)) xs)) (i % 256) 0 (within xs i lt))

pub group-le-sum : (xs : List ℕ) (k : ℕ) → group_sum xs k ≤ sum xs
group-le-sum xs k = omega (arith, sum_by-take-le itself (drop (256 * k) xs) 256, sum_by-take-drop itself xs (256 * k))

pub group-set : (xs : List ℕ) (i y : ℕ) → i < length xs → group_sum (set xs i y) (i / 256) + get_or xs i 0 ≡ group_sum xs (i / 256) + y
group-set xs i y lt =
    let m = 256 * (i / 256) in
    let part = take 256 (drop m xs) in
    let at : i ≡ m + i % 256 = omega arith in
    let moved : take 256 (drop m (set xs i y)) ≡ set part (i % 256) y =
    ap (λ (n : ℕ). take 256 (drop m (set xs n y))) at ∙ ap (take 256) (drop-set-add m xs (i % 256) y) ∙ take-set-lt 256 (drop m xs) (i % 256) y (omega arith) in
    omega (arith, ap sum moved, sum_by-set itself part (i % 256) y 0 (within xs i lt), member xs i)

pub group-set_other : (xs : List ℕ) (i y k : ℕ) → k ≢ i / 256 → group_sum (set xs i y) k ≡ group_sum xs k
group-set_other xs i y k other = ap sum (elim (cases_lt i (256 * k)) [
  | inl before ↦ ap (take 256) (drop-set-lt (256 * k) xs i y before)
  | inr after ↦
      let at : i ≡ 256 * k + (i - 256 * k) = omega arith in
      ap (λ (n : ℕ). take 256 (drop (256 * k) (set xs n y))) at
      ∙ ap (take 256) (drop-set-add (256 * k) xs (i - 256 * k) y)
      ∙ take-set-le 256 (drop (256 * k) xs) (i - 256 * k) y (omega arith)
])

-- ---- all sums

pub sum-most : (xs : List ℕ) → AreFreeCounts xs → sum xs ≤ 4194304
sum-most xs kept = omega (arith, sum_by-le itself 64 xs kept.each, kept.most)

-- the sum of a cylinder's group
pub group-bounds : (xs groups : List ℕ) (total i s o : ℕ) → AreSums xs groups total → i < length xs → s ≡ get_or groups (i / 256) 0 → o ≡ get_or xs i 0 → (o ≤ s) × (s ≤ 4194304)
group-bounds xs groups total i s o sums lt at was = (
  omega (arith, at, was, sums.each (i / 256), member-le-group xs i lt),
  omega (arith, at, sums.each (i / 256), group-le-sum xs (i / 256), sum-most xs sums.kept),
)

-- the count o of cylinder i, in a group of sum s, becomes y
pub sums-set : (xs groups : List ℕ) (total i y s o : ℕ) → AreSums xs groups total → i < length xs → y ≤ 64 → s ≡ get_or groups (i / 256) 0 → o ≡ get_or xs i 0
    → AreSums (set xs i y) (set groups (i / 256) (s - o + y)) (total - o + y)
sums-set xs groups total i y s o sums lt most at was = record {
  kept = record {
    some = omega (arith, length-set xs i y, sums.kept.some);
    most = omega (arith, length-set xs i y, sums.kept.most);
    each = All-set (λ n. n ≤ 64) xs i y most sums.kept.each;
  };
  count = length-set groups (i / 256) _ ∙ sums.count ∙ ap (λ (n : ℕ). (n + 255) / 256) (sym (length-set xs i y));
  each = λ k. elim (cases_eq k (i / 256)) [
    | inl same ↦
        ap (λ (n : ℕ). get_or (set groups (i / 256) (s - o + y)) n 0) same
        ∙ get_or-set_same groups (i / 256) _ 0 (omega (arith, sums.count))
        ∙ omega (arith, at, was, sums.each (i / 256), group-set xs i y lt, member-le-group xs i lt)
        ∙ ap (group_sum (set xs i y)) (sym same)
    | inr other ↦ get_or-set_other groups (i / 256) k _ 0 other ∙ sums.each k ∙ sym (group-set_other xs i y k other)
  ];
  all = omega (arith, was, sums.all, sum_by-set itself xs i y 0 lt, get_or-le-sum_by itself xs i 0 lt);
}

length-zeros : (n : ℕ) → length (replicate {A = ℕ} n 0) ≡ n
length-zeros n = length-replicate {A = ℕ} n 0

zeros : (n k : ℕ) → get_or (replicate {A = ℕ} n 0) k 0 ≡ 0
zeros n k = elim (cases_lt k n) [
  | inl less ↦ get_or-replicate {A = ℕ} n k 0 0 less
  | inr past ↦ get_or_past (replicate {A = ℕ} n 0) k 0 (omega (arith, length-zeros n))
]

none_sum : (xs : List ℕ) → ((i : ℕ) → get_or xs i 0 ≡ 0) → sum xs ≡ 0
none_sum [] none = refl
none_sum (x ∷ xs) none = omega (arith, sum_by-cons itself x xs, none 0, none_sum xs (λ i. none (suc i)))

part_none : (xs : List ℕ) (a b : ℕ) → ((i : ℕ) → get_or xs i 0 ≡ 0) → sum (take b (drop a xs)) ≡ 0
part_none xs a b none = none_sum (take b (drop a xs)) (λ i. elim (cases_lt i b) [
  | inl less ↦ get_or-take b (drop a xs) i 0 less ∙ get_or-drop a xs i 0 ∙ none (a + i)
  | inr past ↦ get_or_past (take b (drop a xs)) i 0 (omega (arith, length-take b (drop a xs)))
])

pub sums-zeros : (n m : ℕ) → 1 ≤ n → n ≤ 65536 → m ≡ (n + 255) / 256 → AreSums (replicate n 0) (replicate m 0) 0
sums-zeros n m some most count = record {
  kept = record {
    some = omega (arith, length-zeros n);
    most = omega (arith, length-zeros n);
    each = All-replicate (λ c. c ≤ 64) n 0 (omega arith);
  };
  count = length-zeros m ∙ count ∙ ap (λ (l : ℕ). (l + 255) / 256) (sym (length-zeros n));
  each = λ k. zeros m k ∙ sym (part_none (replicate n 0) (256 * k) 256 (zeros n));
  all = sym (none_sum (replicate n 0) (zeros n));
}

-- ---- the first above 0

pub none_above : (xs : List ℕ) → IsFirstAbove xs None → sum xs ≡ 0
none_above xs none = none_sum xs none

-- a group of sum 0 has no number above 0
group_none : (xs : List ℕ) (i : ℕ) → group_sum xs (i / 256) ≡ 0 → get_or xs i 0 ≡ 0
group_none xs i none = elim (cases_lt i (length xs)) [
  | inl less ↦ omega (arith, member-le-group xs i less)
  | inr past ↦ get_or_past xs i 0 past
]

pub first_none : (xs groups : List ℕ) (total : ℕ) → AreSums xs groups total → IsFirstAbove groups None → IsFirstAbove xs None
first_none xs groups total sums none i = group_none xs i (sym (sums.each (i / 256)) ∙ none (i / 256))

-- the numbers that are read of group g, which is the first whose sum isn't 0
module _ (xs groups : List ℕ) (total g n : ℕ) (sums : AreSums xs groups total) (group : IsFirstAbove groups (Some g)) where
  abbrev read : List ℕ
  read = take n (drop (g * 256) xs)

  read_at : (i : ℕ) → i < n → get_or read i 0 ≡ get_or xs (g * 256 + i) 0
  read_at i lt = get_or-take n (drop (g * 256) xs) i 0 lt ∙ get_or-drop (g * 256) xs i 0

  pub first_in : (p : ℕ) → n ≤ 256 → IsFirstAbove read (Some p) → IsFirstAbove xs (Some (g * 256 + p))
  first_in p few first =
      let shorter : p < n = omega (arith, first.0, length-take n (drop (g * 256) xs)) in (
        omega (arith, first.0, length-take n (drop (g * 256) xs), length-drop (g * 256) xs),
        omega (arith, first.1, read_at p shorter),
        λ i before. elim (cases_lt i (g * 256)) [
          | inl earlier ↦ group_none xs i (sym (sums.each (i / 256)) ∙ group.2 (i / 256) (omega arith))
          | inr here ↦
              let at : g * 256 + (i - g * 256) ≡ i = omega arith in
              ap (λ (k : ℕ). get_or xs k 0) (sym at) ∙ sym (read_at (i - g * 256) (omega arith)) ∙ first.2 (i - g * 256) (omega arith)
        ],
      )

  -- they are all of the group, so some is above 0
  pub some_in : ((i : ℕ) → n ≤ i → i < 256 → length xs ≤ g * 256 + i) → ¬ IsFirstAbove read None
  some_in whole none =
      let m : 256 * g ≡ g * 256 = omega arith in
      let sum_is : group_sum xs g ≡ 0 = ap (λ (k : ℕ). sum (take 256 (drop k xs))) m ∙ none_sum (take 256 (drop (g * 256) xs)) (λ i. elim (cases_lt i 256) [
        | inl less ↦ get_or-take 256 (drop (g * 256) xs) i 0 less ∙ get_or-drop (g * 256) xs i 0 ∙ elim (cases_lt i n) [
          | inl inside ↦ sym (read_at i inside) ∙ none i
          | inr past ↦ get_or_past xs (g * 256 + i) 0 (whole i past less)
        ]
        | inr past ↦ get_or_past (take 256 (drop (g * 256) xs)) i 0 (omega (arith, length-take 256 (drop (g * 256) xs)))
      ]) in
      omega (arith, group.1, sums.each g, sum_is)
