-- How many blocks the objects take once an index has another slot filled, or emptied.
use Rattle.std.proofs.Common.{◌≡◌, inl, inr, ℕ, ◌+◌, ◌/◌, ◌≤◌, List, [], ◌∷◌, length, Bool, true, false, cond, Option, Some, None, ◌∙◌, ap, subst, arith, ◌==◌, map, nat_lt, sum_by}
use Rattle.cfs_core.proofs.Words.{blocks_of, filled, Graph, graph_blocks, has_number, ids_of, in_map, in_with, in_withs, Index, insert_entry-there, is_at, lookup, Object, object_at, parents, Puid, puid_cmp, rises, same_numbers, set_value, sorted_from_rises, sum_by-cons, to_map, to_withs, with_itself, with_number, with_number-rises, with_numbers-rise, with_object, with_others}
use Rattle.ufs_model.specs.Limits.{fan_out}
use Rattle.ufs_model.specs.declared.object.Object.TheVariants as objects

-- ---- a number more

parents_with : (n : ℕ) (ns : List ℕ) → parents (with_number n ns) ≡ with_number (n / fan_out) (parents ns)
parents_with n ns = same_numbers _ _ (with_numbers-rise (map half (with_number n ns))) (with_number-rises (n / fan_out) (parents ns) (with_numbers-rise (map half ns))) forth back
  where
    half : ℕ → ℕ
    half m = m / fan_out

    forth : (x : ℕ) → has_number x (parents (with_number n ns)) ≡ true → has_number x (with_number (n / fan_out) (parents ns)) ≡ true
    forth x h =
        let y = in_map half x (with_number n ns) (in_withs x (map half (with_number n ns)) h) in
        elim (in_with y.0 n ns y.1) [
          | inl same ↦ subst (λ (m : ℕ). has_number m (with_number (n / fan_out) (parents ns)) ≡ true) (ap half same ∙ y.2) (with_itself (n / fan_out) (parents ns))
          | inr old ↦ with_others x (n / fan_out) (parents ns) (subst (λ (m : ℕ). has_number m (parents ns) ≡ true) y.2 (to_withs (half y.0) (map half ns) (to_map half y.0 ns old)))
        ]

    back : (x : ℕ) → has_number x (with_number (n / fan_out) (parents ns)) ≡ true → has_number x (parents (with_number n ns)) ≡ true
    back x h = elim (in_with x (n / fan_out) (parents ns) h) [
      | inl same ↦ subst (λ (m : ℕ). has_number m (parents (with_number n ns)) ≡ true) same (to_withs (half n) (map half (with_number n ns)) (to_map half n (with_number n ns) (with_itself n ns)))
      | inr old ↦
          let y = in_map half x ns (in_withs x (map half ns) old) in
          subst (λ (m : ℕ). has_number m (parents (with_number n ns)) ≡ true) y.2 (to_withs (half y.0) (map half (with_number n ns)) (to_map half y.0 (with_number n ns) (with_others y.0 n ns y.1)))
    ]

one_more : (n : ℕ) (ns : List ℕ) → length (with_number n ns) ≤ length ns + 1
one_more n [] = omega arith
one_more n (m ∷ ms) = elim (n == m) as (λ b. length (cond b (m ∷ ms) (cond (nat_lt n m) (n ∷ m ∷ ms) (m ∷ with_number n ms))) ≤ length (m ∷ ms) + 1) [
  | true ↦ omega arith
  | false ↦ elim (nat_lt n m) as (λ b. length (cond b (n ∷ m ∷ ms) (m ∷ with_number n ms)) ≤ length (m ∷ ms) + 1) [ true ↦ omega arith | false ↦ omega (arith, one_more n ms) ]
]

-- ---- a slot filled or emptied

held_two : (held : List ℕ) → sum_by length (held ∷ parents held ∷ []) ≡ length held + length (parents held)
held_two held = omega (arith, sum_by-cons {X = List ℕ} length held (parents held ∷ []), sum_by-cons {X = List ℕ} length (parents held) [])

-- the blocks that a filled slot may add
abbrev pub added_by : Option Puid → ℕ
added_by None = 0
added_by (Some id) = 2

pub filled_blocks : (i : Index) (slot : ℕ) (what : Option Puid) → blocks_of (objects.Index (filled i slot what)) ≤ blocks_of (objects.Index i) + added_by what
filled_blocks i slot None = omega arith
filled_blocks i slot (Some id) =
    let n = slot / 64 in
    omega (arith, held_two (with_number n i.held), held_two i.held, one_more n i.held, one_more (n / fan_out) (parents i.held), ap (λ (ns : List ℕ). length ns) (parents_with n i.held))

-- ---- an object in the place of one

set_sum : (test : Puid → Bool) (es : List (Puid × Object)) (old new : Object) → lookup test es ≡ Some old → sum_by (λ e. blocks_of e.1) (set_value test es new) + blocks_of old ≡ sum_by (λ e. blocks_of e.1) es + blocks_of new
set_sum test [] old new found = cc
set_sum test (e ∷ es) old new found = elim (test e.0) as (λ b. cond b (Some e.1) (lookup test es) ≡ Some old
    → sum_by (λ e. blocks_of e.1) (cond b ((e.0, new) ∷ es) (e ∷ set_value test es new)) + blocks_of old ≡ sum_by (λ e. blocks_of e.1) (e ∷ es) + blocks_of new) [
      | true ↦ λ h. let same : e.1 ≡ old = some_same e.1 old h in
          omega (arith, sum_by-cons (λ (x : Puid × Object). blocks_of x.1) (e.0, new) es, sum_by-cons (λ (x : Puid × Object). blocks_of x.1) e es, ap blocks_of same)
      | false ↦ λ h.
          omega (arith, sum_by-cons (λ (x : Puid × Object). blocks_of x.1) e (set_value test es new), sum_by-cons (λ (x : Puid × Object). blocks_of x.1) e es, set_sum test es old new h)
    ] found
  where
    some_same : (x y : Object) → Some x ≡ Some y → x ≡ y
    some_same x y h = cc

pub replaced_blocks : (g : Graph) (id : Puid) (old new : Object) (n : ℕ) → rises (ids_of g) ≡ true → object_at g id ≡ Some old → blocks_of new ≤ blocks_of old + n → graph_blocks (with_object g id new) ≤ graph_blocks g + n
replaced_blocks g id old new n up found few =
    let same = ap (λ es. sum_by (λ e. blocks_of e.1) es) (insert_entry-there id g.objects old new (sorted_from_rises _ up) found) in
    omega (arith, few, same, set_sum (is_at (puid_cmp id)) g.objects old new found)
