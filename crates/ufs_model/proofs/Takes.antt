-- Objects that hold more take no fewer blocks.
use Rattle.std.proofs.Common.{◌≡◌, inl, inr, ℕ, zero, suc, ◌/◌, ◌≤◌, List, [], ◌∷◌, length, true, false, cond, Option, Some, None, refl, ◌∙◌, ap, sym, subst, arith, ◌==◌, map, sum_by}
use Rattle.std.proofs.lemmas.List.Sums.{sum_by-cons}
use Rattle.ufs_model.proofs.Words.{Equal, File, Graph, Greater, Index, Less, Object, Puid, blocks_of, filled, has_number, insert_entry, match_ordering, nat_lt, object_at, parents, puid_cmp, touched, with_number, with_numbers, with_object, written}
use Rattle.ufs_model.specs.Limits.{fan_out}
use Rattle.ufs_model.specs.Numbers.{branches}
use Rattle.ufs_model.specs.Object.{inner_levels}
use Rattle.ufs_model.specs.Room.{graph_blocks}
use Rattle.ufs_model.specs.declared.object.Object.TheVariants as objects
use Rattle.ufs_model.proofs.Graphs.{found}
use Rattle.ufs_model.proofs.Rising.{in_map, in_with, in_withs, same_numbers, to_map, to_withs, with_itself, with_number-rises, with_numbers-rise, with_others}

-- ---- a number more

pub parents_with : (n : ℕ) (ns : List ℕ) → parents (with_number n ns) ≡ with_number (n / fan_out) (parents ns)
parents_with n ns = same_numbers _ _ (with_numbers-rise (map half (with_number n ns))) (with_number-rises (n / fan_out) (parents ns) (with_numbers-rise (map half ns))) forth back
  where
    half : ℕ → ℕ
    half m = m / fan_out

    forth : (x : ℕ) → has_number x (parents (with_number n ns)) ≡ true → has_number x (with_number (n / fan_out) (parents ns)) ≡ true
    forth x h =
        let y = in_map half x (with_number n ns) (in_withs x (map half (with_number n ns)) h) in
        elim (in_with y.0 n ns y.1) [
          | inl same ↦ subst (λ (m : ℕ). has_number m (with_number (n / fan_out) (parents ns)) ≡ true) (ap half same ∙ y.2) (with_itself (n / fan_out) (parents ns))
          | inr old ↦ with_others x (n / fan_out) (parents ns) (subst (λ (m : ℕ). has_number m (parents ns) ≡ true) y.2 (to_withs (half y.0) (map half ns) (to_map half y.0 ns old)))
        ]

    back : (x : ℕ) → has_number x (with_number (n / fan_out) (parents ns)) ≡ true → has_number x (parents (with_number n ns)) ≡ true
    back x h = elim (in_with x (n / fan_out) (parents ns) h) [
      | inl same ↦ subst (λ (m : ℕ). has_number m (parents (with_number n ns)) ≡ true) same (to_withs (half n) (map half (with_number n ns)) (to_map half n (with_number n ns) (with_itself n ns)))
      | inr old ↦
          let y = in_map half x ns (in_withs x (map half ns) old) in
          subst (λ (m : ℕ). has_number m (parents (with_number n ns)) ≡ true) y.2 (to_withs (half y.0) (map half (with_number n ns)) (to_map half y.0 (with_number n ns) (with_others y.0 n ns y.1)))
    ]

with_length : (n : ℕ) (ms : List ℕ) → length ms ≤ length (with_number n ms)
with_length n [] = omega arith
with_length n (m ∷ ms) = elim (n == m) as (λ b. length (m ∷ ms) ≤ length (cond b (m ∷ ms) (cond (nat_lt n m) (n ∷ m ∷ ms) (m ∷ with_number n ms)))) [
  | true ↦ omega arith
  | false ↦ elim (nat_lt n m) as (λ b. length (m ∷ ms) ≤ length (cond b (n ∷ m ∷ ms) (m ∷ with_number n ms))) [ true ↦ omega arith | false ↦ omega (arith, with_length n ms) ]
]

-- ---- leaves more, with the blocks above them

pub branches_with : (levels n : ℕ) (ns : List ℕ) → sum_by length (branches levels ns) ≤ sum_by length (branches levels (with_number n ns))
branches_with zero n ns = omega (arith, with_length n ns, sum_by-cons {X = List ℕ} length ns [], sum_by-cons {X = List ℕ} length (with_number n ns) [])
branches_with (suc levels) n ns =
    let above = subst (λ (ps : List ℕ). sum_by length (branches levels (parents ns)) ≤ sum_by length (branches levels ps)) (sym (parents_with n ns)) (branches_with levels (n / fan_out) (parents ns)) in
    omega (
      arith,
      with_length n ns,
      above,
      sum_by-cons {X = List ℕ} length ns (branches levels (parents ns)),
      sum_by-cons {X = List ℕ} length (with_number n ns) (branches levels (parents (with_number n ns))),
    )

pub branches_withs : (levels : ℕ) (ns ms : List ℕ) → sum_by length (branches levels ms) ≤ sum_by length (branches levels (with_numbers ns ms))
branches_withs levels [] ms = omega arith
branches_withs levels (n ∷ ns) ms = omega (arith, branches_withs levels ns ms, branches_with levels n (with_numbers ns ms))

pub filled_takes : (i : Index) (slot : ℕ) (what : Option Puid) → blocks_of (objects.Index i) ≤ blocks_of (objects.Index (filled i slot what))
filled_takes i slot None = omega arith
filled_takes i slot (Some id) = omega (arith, branches_with (inner_levels (objects.Index i)) (slot / 64) i.held)

pub written_takes : (f : File) (offset : ℕ) (bytes : List ℕ) → blocks_of (objects.File f) ≤ blocks_of (objects.File (written f offset bytes))
written_takes f offset bytes = omega (arith, branches_withs (inner_levels (objects.File f)) (touched offset (length bytes)) f.held)

-- ---- an object in the place of one that takes no more, or where none was

pub no_fewer : (id : Puid) (new : Object) (es : List (Puid × Object)) → ((old : Object) → found id es ≡ Some old → blocks_of old ≤ blocks_of new)
    → sum_by (λ e. blocks_of e.1) es ≤ sum_by (λ e. blocks_of e.1) (insert_entry puid_cmp es id new)
no_fewer id new [] less = omega arith
no_fewer id new (e ∷ es) less =
    elim (puid_cmp id e.0) as (λ r. puid_cmp id e.0 ≡ r → sum_by (λ x. blocks_of x.1) (e ∷ es) ≤ sum_by (λ x. blocks_of x.1) (match_ordering r ((id, new) ∷ e ∷ es) ((e.0, new) ∷ es) (e ∷ insert_entry puid_cmp es id new))) [
      | Less ↦ λ is. omega (arith, sum_by-cons (λ (x : Puid × Object). blocks_of x.1) (id, new) (e ∷ es))
      | Equal ↦ λ is.
          let more : blocks_of e.1 ≤ blocks_of new = less e.1 (rw is refl) in
          omega (arith, more, sum_by-cons (λ (x : Puid × Object). blocks_of x.1) e es, sum_by-cons (λ (x : Puid × Object). blocks_of x.1) (e.0, new) es)
      | Greater ↦ λ is.
          let more = no_fewer id new es (λ old at. less old (rw is at)) in
          omega (arith, more, sum_by-cons (λ (x : Puid × Object). blocks_of x.1) e es, sum_by-cons (λ (x : Puid × Object). blocks_of x.1) e (insert_entry puid_cmp es id new))
    ] refl

pub takes_no_less : (g : Graph) (id : Puid) (new : Object) → ((old : Object) → object_at g id ≡ Some old → blocks_of old ≤ blocks_of new) → graph_blocks g ≤ graph_blocks (with_object g id new)
takes_no_less g id new less = no_fewer id new g.objects less
