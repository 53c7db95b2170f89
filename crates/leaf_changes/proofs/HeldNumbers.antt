-- The leaves that an object holds, as a list of numbers that rise.
use Rattle.std.proofs.Common.{◌≡◌, ◌⊎◌, inl, inr, ℕ, ◌+◌, ◌-◌, ◌/◌, ◌<◌, ◌≤◌, List, [], ◌∷◌, Bool, true, false, Option, Some, None, refl, sym, ◌∙◌, ap, subst, arith}
use Rattle.leaf_changes.proofs.Words.{Held, Kind, Root, filter-rises, has_number, held_in, held_leaves, here, in_cons, in_filter, in_numbers, in_with, is_some, later, leaves_in, numbers-rise, numbers_rise, object_with, range_with_len, same_numbers, to_filter, to_numbers, touched, with_itself, with_number, with_number-rises, with_numbers, with_others}
use Rattle.cfs_base.specs.declared.kind.Kind.TheVariants as kinds

-- ---- the second numbers with the first

pub in_all : (x : ℕ) (ns ms : List ℕ) → has_number x (with_numbers ns ms) ≡ true → (has_number x ns ≡ true) ⊎ (has_number x ms ≡ true)
in_all x [] ms h = inr h
in_all x (n ∷ ns) ms h = elim (in_with x n (with_numbers ns ms) h) [
  | inl same ↦ inl (subst (λ (y : ℕ). has_number y (n ∷ ns) ≡ true) same (here n ns))
  | inr rest ↦ elim (in_all x ns ms rest) [ inl first ↦ inl (later x n ns first) | inr second ↦ inr second ]
]

pub to_all : (x : ℕ) (ns ms : List ℕ) → (has_number x ns ≡ true) ⊎ (has_number x ms ≡ true) → has_number x (with_numbers ns ms) ≡ true
to_all x [] ms (inl first) = cc
to_all x [] ms (inr second) = second
to_all x (n ∷ ns) ms (inl first) = elim (in_cons x n ns first) [
  | inl same ↦ subst (λ (y : ℕ). has_number y (with_number n (with_numbers ns ms)) ≡ true) same (with_itself n (with_numbers ns ms))
  | inr rest ↦ with_others x n (with_numbers ns ms) (to_all x ns ms (inl rest))
]
to_all x (n ∷ ns) ms (inr second) = with_others x n (with_numbers ns ms) (to_all x ns ms (inr second))

pub all-rise : (ns ms : List ℕ) → numbers_rise ms ≡ true → numbers_rise (with_numbers ns ms) ≡ true
all-rise [] ms up = up
all-rise (n ∷ ns) ms up = with_number-rises n (with_numbers ns ms) (all-rise ns ms up)

-- ---- the leaves that are held

module _ (root : Root) (leaf : ℕ → Option Held) where
  pub held-rise : numbers_rise (held_in root leaf) ≡ true
  held-rise = filter-rises (λ n. is_some (leaf n)) (range_with_len 0 (leaves_in root.size)) (numbers-rise 0 (leaves_in root.size))

  pub in_held : (n : ℕ) → has_number n (held_in root leaf) ≡ true → (is_some (leaf n) ≡ true) × (n < leaves_in root.size)
  in_held n h =
      let two = in_filter (λ n. is_some (leaf n)) n (range_with_len 0 (leaves_in root.size)) h in
      let row = in_numbers n 0 (leaves_in root.size) two.1 in
      (two.0, omega arith)

  pub to_held : (n : ℕ) → is_some (leaf n) ≡ true → n < leaves_in root.size → has_number n (held_in root leaf) ≡ true
  to_held n is less = to_filter (λ n. is_some (leaf n)) n (range_with_len 0 (leaves_in root.size)) is (to_numbers n 0 (leaves_in root.size) (omega arith) (omega arith))

  -- they are the numbers that rise and have the same members
  pub held_are : (ns : List ℕ) → numbers_rise ns ≡ true
      → ((n : ℕ) → has_number n ns ≡ true → (is_some (leaf n) ≡ true) × (n < leaves_in root.size))
      → ((n : ℕ) → is_some (leaf n) ≡ true → n < leaves_in root.size → has_number n ns ≡ true) → ns ≡ held_in root leaf
  held_are ns up of to =
      same_numbers ns (held_in root leaf) up held-rise (λ n h. let two = of n h in to_held n two.0 two.1) (λ n h. let two = in_held n h in to n two.0 two.1)

  pub held_of : held_leaves (object_with root leaf) ≡ held_in root leaf
  unfolding object_with
  held_of = at root.kind
    where
      at : (kind : Kind) → held_leaves (object_with (record root { kind = kind }) leaf) ≡ held_in root leaf
      at kinds.Normal = refl
      at kinds.Special = refl
      at kinds.Index = refl

  pub held_each : (n : ℕ) → ((h : Held) → leaf n ≡ Some h → n < leaves_in root.size) → has_number n (held_in root leaf) ≡ is_some (leaf n)
  held_each n within = of (has_number n (held_in root leaf)) refl (leaf n) refl
    where
      of : (b : Bool) → has_number n (held_in root leaf) ≡ b → (o : Option Held) → leaf n ≡ o → b ≡ is_some o
      of true is o here = sym (in_held n is).0 ∙ ap is_some here
      of false is None here = refl
      of false is (Some h) here = sym is ∙ to_held n (ap is_some here) (within h here)

-- ---- those that bytes touch

pub in_touched : (offset count n : ℕ) → has_number n (touched offset count) ≡ true → (offset / 512 ≤ n) × (n < leaves_in (offset + count))
in_touched offset count n h =
    let two = in_numbers n (offset / 512) (leaves_in (offset + count) - offset / 512) h in
    (two.0, omega arith)

pub to_touched : (offset count n : ℕ) → offset / 512 ≤ n → n < leaves_in (offset + count) → has_number n (touched offset count) ≡ true
to_touched offset count n from below = to_numbers n (offset / 512) (leaves_in (offset + count) - offset / 512) from (omega arith)

pub first_to_last : (offset count : ℕ) → 0 < count → touched offset count ≡ range_with_len (offset / 512) ((offset + count - 1) / 512 + 1 - offset / 512)
first_to_last offset count some = ap (range_with_len (offset / 512)) (omega arith)
