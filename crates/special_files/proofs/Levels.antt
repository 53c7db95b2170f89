-- The fresh blocks of a draft, level by level, and the flags that tell them.
use Rattle.std.proofs.Common.{◌≡◌, ◌≢◌, ◌⊎◌, inl, inr, ℕ, zero, suc, ◌+◌, ◌-◌, ◌/◌, ◌%◌, ◌<◌, ◌≤◌, Bool, true, false, not, cond, List, [], ◌∷◌, length, get_or, replicate, set, refl, sym, ◌∙◌, ap, subst, get_or-set_other, get_or-set_same, arith}
use Rattle.special_files.proofs.Words.{Draft, Drafting, Drafts, IsOpen, Puid, SetsFresh, Tree, both_ways, cases_Bool, cases_lt, count_by, div-one, eqb-false, eqb-true, filter, fresh_of, fun_ext, get_or-replicate, get_or_past, has_number, in_filter, is_count_by, leaf_limit, leaf_pointers, length-replicate, levels_of, levels_standing, node_pointers, none_of, one_unless, passes, path_is, path_to, range_with_len, same_sums, set_in, standing_at, sum_by, sum_by-cons, to_filter, to_numbers, unset_in, ◌==◌}

-- ---- numbers that pass

pub filter_same : (P Q : ℕ → Bool) (a w : ℕ) → ((m : ℕ) → a ≤ m → m < a + w → Q m ≡ P m) → filter Q (range_with_len a w) ≡ filter P (range_with_len a w)
filter_same P Q a zero same = refl
filter_same P Q a (suc w) same =
    rw (same a (omega arith) (omega arith)) (ap (λ (ns : List ℕ). cond (P a) (a ∷ ns) ns) (filter_same P Q (a + 1) w (λ m low high. same m (omega (arith, low)) (omega (arith, high)))))

-- where the same numbers pass, each passes one test as the other
same_tests : (P Q : ℕ → Bool) (w : ℕ) → filter P (range_with_len 0 w) ≡ filter Q (range_with_len 0 w) → (n : ℕ) → n < w → P n ≡ Q n
same_tests P Q w same n below = by (cases_Bool (P n)) (cases_Bool (Q n))
  where
    passed : (R S : ℕ → Bool) → filter R (range_with_len 0 w) ≡ filter S (range_with_len 0 w) → R n ≡ true → S n ≡ true
    passed R S is here = (in_filter S n (range_with_len 0 w) (ap (has_number n) (sym is) ∙ to_filter R n (range_with_len 0 w) here (to_numbers n 0 w (omega arith) (omega (arith, below))))).0

    by : (P n ≡ true) ⊎ (P n ≡ false) → (Q n ≡ true) ⊎ (Q n ≡ false) → P n ≡ Q n
    by (inl p) q = p ∙ sym (passed P Q same p)
    by (inr p) (inl q) = absurd (both_ways _ p (passed Q P (sym same) q))
    by (inr p) (inr q) = p ∙ sym q

-- ---- the two levels of a tree

abbrev pub fresh_leaf : (ℕ → Bool) → Tree → ℕ → Bool
fresh_leaf test tree l = passes test (tree.below (l / leaf_pointers.count ∷ l % leaf_pointers.count ∷ []))

abbrev pub fresh_node : (ℕ → Bool) → Tree → ℕ → Bool
fresh_node test tree n = passes test (tree.below (n ∷ []))

pub leaf_level : (test : ℕ → Bool) (tree : Tree) → standing_at test tree 2 ≡ filter (fresh_leaf test tree) (range_with_len 0 leaf_limit)
unfolding levels_of
leaf_level test tree = ap (λ (P : ℕ → Bool). filter P (range_with_len 0 leaf_limit)) (fun_ext (λ l. ap (λ (p : List ℕ). passes test (tree.below p)) (path_is tree.root l)))

pub node_level : (test : ℕ → Bool) (tree : Tree) → standing_at test tree 1 ≡ filter (fresh_node test tree) (range_with_len 0 node_pointers.count)
unfolding levels_of path_to
node_level test tree = ap (λ (P : ℕ → Bool). filter P (range_with_len 0 node_pointers.count)) (fun_ext (λ n. ap (λ (m : ℕ). passes test (tree.below (m ∷ []))) (div-one n)))

-- the levels from the leaves up
pub levels_are : (test : ℕ → Bool) (tree : Tree) → levels_standing test tree (length (levels_of tree.root)) ≡ standing_at test tree 2 ∷ standing_at test tree 1 ∷ []
unfolding levels_of
levels_are test tree = refl

-- ---- flags

pub set_is : (flags : List Bool) (w : ℕ) → length flags ≡ w → set_in flags ≡ filter (λ n. get_or flags n false) (range_with_len 0 w)
unfolding set_in
set_is flags w long = ap (λ (k : ℕ). filter (λ n. get_or flags n false) (range_with_len 0 k)) long

none_set : (n k : ℕ) → get_or (replicate {A = Bool} n false) k false ≡ false
none_set n k = elim (cases_lt k n) [ inl below ↦ get_or-replicate n k false false below | inr past ↦ get_or_past (replicate n false) k false (omega (arith, past, length-replicate {A = Bool} n false)) ]

pub none_is : (count k : ℕ) → get_or (none_of count) k false ≡ false
unfolding none_of
none_is count k = none_set count k

pub length-none : (count : ℕ) → length (none_of count) ≡ count
unfolding none_of
length-none count = length-replicate {A = Bool} count false

pub none_in : (count : ℕ) → set_in (none_of count) ≡ []
none_in count = set_is (none_of count) count (length-none count) ∙ filter_same (λ n. false) (λ n. get_or (none_of count) n false) 0 count (λ m low high. none_is count m) ∙ nothing 0 count
  where
    nothing : (a w : ℕ) → filter (λ n. false) (range_with_len a w) ≡ []
    nothing a zero = refl
    nothing a (suc w) = nothing (a + 1) w

-- each flag tells whether its block is fresh
pub record Tell (test : ℕ → Bool) (tree : Tree) (leaves nodes : List Bool) : Type 0 where
  pub leaf : (l : ℕ) → l < leaf_limit → get_or leaves l false ≡ fresh_leaf test tree l
  pub node : (n : ℕ) → n < node_pointers.count → get_or nodes n false ≡ fresh_node test tree n

pub flags_tell : (test : ℕ → Bool) (tree : Tree) (drafting : Drafting) (fresh : List (List ℕ)) → length drafting.leaves ≡ leaf_limit → length drafting.nodes ≡ node_pointers.count
    → ((k : ℕ) → get_or fresh k [] ≡ get_or (levels_standing test tree (length (levels_of tree.root))) k []) → ((k : ℕ) → get_or fresh k [] ≡ get_or (fresh_of drafting) k []) → Tell test tree drafting.leaves drafting.nodes
flags_tell test tree drafting fresh leaves nodes one two =
    let both : (k : ℕ) → get_or (fresh_of drafting) k [] ≡ get_or (standing_at test tree 2 ∷ standing_at test tree 1 ∷ []) k [] = λ k. sym (two k) ∙ one k ∙ ap (λ (ns : List (List ℕ)). get_or ns k []) (levels_are test tree) in
    record {
      leaf = same_tests (λ l. get_or drafting.leaves l false) (fresh_leaf test tree) leaf_limit (sym (set_is drafting.leaves leaf_limit leaves) ∙ both 0 ∙ leaf_level test tree);
      node = same_tests (λ n. get_or drafting.nodes n false) (fresh_node test tree) node_pointers.count (sym (set_is drafting.nodes node_pointers.count nodes) ∙ both 1 ∙ node_level test tree);
    }

pub told_levels : (test : ℕ → Bool) (tree : Tree) (drafting : Drafting) → length drafting.leaves ≡ leaf_limit → length drafting.nodes ≡ node_pointers.count → Tell test tree drafting.leaves drafting.nodes
    → (k : ℕ) → get_or (fresh_of drafting) k [] ≡ get_or (levels_standing test tree (length (levels_of tree.root))) k []
told_levels test tree drafting leaves nodes tell k = by k ∙ ap (λ (ns : List (List ℕ)). get_or ns k []) (sym (levels_are test tree))
  where
    by : (k : ℕ) → get_or (fresh_of drafting) k [] ≡ get_or (standing_at test tree 2 ∷ standing_at test tree 1 ∷ []) k []
    by zero = set_is drafting.leaves leaf_limit leaves ∙ filter_same (fresh_leaf test tree) (λ l. get_or drafting.leaves l false) 0 leaf_limit (λ m low high. tell.leaf m (omega (arith, high))) ∙ sym (leaf_level test tree)
    by (suc zero) = set_is drafting.nodes node_pointers.count nodes ∙ filter_same (fresh_node test tree) (λ n. get_or drafting.nodes n false) 0 node_pointers.count (λ m low high. tell.node m (omega (arith, high))) ∙ sym (node_level test tree)
    by (suc (suc j)) = refl

-- one flag more
set_tells : (P Q : ℕ → Bool) (flags : List Bool) (w at : ℕ) → length flags ≡ w → ((m : ℕ) → m < w → get_or flags m false ≡ P m) → Q at ≡ true → ((m : ℕ) → m ≢ at → Q m ≡ P m) → (m : ℕ) → m < w → get_or (set flags at true) m false ≡ Q m
set_tells P Q flags w at long was here others m below = elim (cases_Bool (m == at)) [
  | inl is ↦
      let same = eqb-true m at is in
      let within : at < length flags = omega (arith, below, same, long) in
      subst (λ (j : ℕ). get_or (set flags at true) j false ≡ Q j) (sym same) (get_or-set_same flags at true false within ∙ sym here)
  | inr not ↦ let apart = eqb-false m at not in get_or-set_other flags at m true false apart ∙ was m below ∙ sym (others m apart)
]

pub tell_more : (test new : ℕ → Bool) (old tree : Tree) (l : ℕ) (was now : Drafting) → length was.leaves ≡ leaf_limit → length was.nodes ≡ node_pointers.count → Tell test old was.leaves was.nodes → SetsFresh l was now
    → fresh_leaf new tree l ≡ true → fresh_node new tree (l / leaf_pointers.count) ≡ true → ((m : ℕ) → m ≢ l → fresh_leaf new tree m ≡ fresh_leaf test old m) → ((m : ℕ) → m ≢ l / leaf_pointers.count → fresh_node new tree m ≡ fresh_node test old m)
    → Tell new tree now.leaves now.nodes
tell_more test new old tree l was now long_leaves long_nodes tell sets leaf node leaves nodes = record {
  leaf = λ m below. ap (λ (bs : List Bool). get_or bs m false) sets.leaves ∙ set_tells (fresh_leaf test old) (fresh_leaf new tree) was.leaves leaf_limit l long_leaves tell.leaf leaf leaves m below;
  node = λ m below. ap (λ (bs : List Bool). get_or bs m false) sets.nodes ∙ set_tells (fresh_node test old) (fresh_node new tree) was.nodes node_pointers.count (l / leaf_pointers.count) long_nodes tell.node node nodes m below;
}

pub none_made : (count : ℕ) → none_of count ≡ replicate count false
unfolding none_of
none_made count = refl

-- ---- how many are set

shifted : (P Q : ℕ → Bool) (a b w : ℕ) → ((k : ℕ) → P (a + k) ≡ Q (b + k)) → length (filter P (range_with_len a w)) ≡ length (filter Q (range_with_len b w))
shifted P Q a b zero same = refl
shifted P Q a b (suc w) same =
    let one : a ≡ a + 0 = omega arith in
    let two : b + 0 ≡ b = omega arith in
    let head : P a ≡ Q b = ap P one ∙ same 0 ∙ ap Q two in
    let rest = shifted P Q (a + 1) (b + 1) w (λ k.
    let left : a + 1 + k ≡ a + (k + 1) = omega arith in
    let right : b + (k + 1) ≡ b + 1 + k = omega arith in
    ap P left ∙ same (k + 1) ∙ ap Q right) in
    rw head (elim (Q b) as (λ c. length (cond c (a ∷ filter P (range_with_len (a + 1) w)) (filter P (range_with_len (a + 1) w))) ≡ length (cond c (b ∷ filter Q (range_with_len (b + 1) w)) (filter Q (range_with_len (b + 1) w)))) [
      | true ↦ ap suc rest
      | false ↦ rest
    ])

set_length : List Bool → ℕ
set_length flags = length (filter (λ n. get_or flags n false) (range_with_len 0 (length flags)))

set_step : (x : Bool) (xs : List Bool) → set_length (x ∷ xs) ≡ cond x (1 + set_length xs) (set_length xs)
unfolding set_length
set_step x xs =
    let rest = shifted (λ n. get_or (x ∷ xs) n false) (λ n. get_or xs n false) 1 0 (length xs) (λ k.
    let left : 1 + k ≡ suc k = omega arith in
    let right : k ≡ 0 + k = omega arith in
    ap (λ (n : ℕ). get_or (x ∷ xs) n false) left ∙ ap (λ (n : ℕ). get_or xs n false) right) in
    by x (filter (λ n. get_or (x ∷ xs) n false) (range_with_len 1 (length xs))) rest
  where
    by : (c : Bool) (ns : List ℕ) → length ns ≡ set_length xs → length (cond c (0 ∷ ns) ns) ≡ cond c (1 + set_length xs) (set_length xs)
    by true ns same = omega (arith, same)
    by false ns same = same

set_counted : (flags : List Bool) → length (set_in flags) ≡ count_by (λ b. b) flags
unfolding set_length
set_counted flags = ap (length {A = ℕ}) (set_is flags (length flags) refl) ∙ is_count_by set_length (λ b. b) refl set_step flags

-- where some are set one of them is
pub counted_some : (flags : List Bool) → 0 < count_by (λ b. b) flags → (n : ℕ) × (get_or flags n false ≡ true)
counted_some [] some = absurd (omega (arith, some))
counted_some (true ∷ flags) some = (0, refl)
counted_some (false ∷ flags) some = let more = counted_some flags some in (suc more.0, more.1)

pub fresh_counted : (ds : Drafts) (id : Puid) (was : Drafting) (d : Draft) → IsOpen ds id was d → sum_by length d.fresh ≡ count_by (λ b. b) was.leaves + count_by (λ b. b) was.nodes
fresh_counted ds id was d opened =
    omega (
      arith,
      same_sums d.fresh (fresh_of was) opened.fresh,
      sum_by-cons (length {A = ℕ}) (set_in was.leaves) (set_in was.nodes ∷ []),
      sum_by-cons (length {A = ℕ}) (set_in was.nodes) [],
      set_counted was.leaves,
      set_counted was.nodes,
    )

-- ---- flags that aren't set

pub none_unset : (flags : List Bool) (from : ℕ) → unset_in flags from from ≡ []
unfolding unset_in
none_unset flags from = let none : from - from ≡ 0 = omega arith in ap (λ (w : ℕ). filter (λ n. not (get_or flags n false)) (range_with_len from w)) none

-- the first of them, and the rest
pub unset_first : (flags : List Bool) (from to : ℕ) → from < to → length (unset_in flags from to) ≡ one_unless (get_or flags from false) + length (unset_in flags (from + 1) to)
unfolding unset_in
unset_first flags from to less =
    let wide : to - from ≡ suc (to - (from + 1)) = omega (arith, less) in
    ap (λ (w : ℕ). length (filter (λ n. not (get_or flags n false)) (range_with_len from w))) wide ∙ by (get_or flags from false) (filter (λ n. not (get_or flags n false)) (range_with_len (from + 1) (to - (from + 1))))
  where
    by : (b : Bool) (ns : List ℕ) → length (cond (not b) (from ∷ ns) ns) ≡ one_unless b + length ns
    by true ns = omega arith
    by false ns = omega arith

pub unset_last : (flags : List Bool) (from at : ℕ) → from ≤ at → length (unset_in flags from (at + 1)) ≡ length (unset_in flags from at) + one_unless (get_or flags at false)
unset_last flags from at order = by (at - from) from (omega (arith, order))
  where
    by : (w start : ℕ) → at ≡ start + w → length (unset_in flags start (at + 1)) ≡ length (unset_in flags start at) + one_unless (get_or flags at false)
    by zero start is =
        let same : at ≡ start = omega (arith, is) in
        let next : at + 1 ≡ start + 1 = omega (arith, is) in
        omega (
          arith,
          unset_first flags start (at + 1) (omega (arith, is)),
          ap (λ (n : ℕ). length (unset_in flags (start + 1) n)) next,
          ap (length {A = ℕ}) (none_unset flags (start + 1)),
          ap (λ (n : ℕ). length (unset_in flags start n)) same,
          ap (length {A = ℕ}) (none_unset flags start),
          ap (λ (n : ℕ). one_unless (get_or flags n false)) same,
        )
    by (suc w) start is = omega (arith, unset_first flags start (at + 1) (omega (arith, is)), unset_first flags start at (omega (arith, is)), by w (start + 1) (omega (arith, is)))

pub one_at_most : (b : Bool) → one_unless b ≤ 1
one_at_most true = omega arith
one_at_most false = omega arith
