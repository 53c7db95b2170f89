-- Flags that are set one after another, and what they make of the model's fresh blocks.
use Rattle.std.proofs.Common.{◌≡◌, ◌⊎◌, inl, inr, ℕ, zero, suc, ◌+◌, ◌/◌, ◌%◌, ◌<◌, ◌≤◌, Bool, true, false, List, [], ◌∷◌, length, get_or, set, Option, Some, None, refl, sym, ◌∙◌, ap, subst, get_or-set_other, get_or-set_same, arith}
use Rattle.special_files.proofs.Words.{Draft, Drafting, Drafts, HasDraft, Held, Image, IsOpen, Object, Overwrite, Puid, Tree, all-rise, blocks_counted, both_ways, cases_Bool, cases_lt, changed_object, div-one, eqb-false, eqb-true, filter-rises, first_level, fresh_after, fresh_of, get_or_past, has_number, held_at_depth, held_leaves, held_levels, held_nodes, in_all, in_filter, in_map, in_touched, in_withs, is_meant_for, is_some, leaf_limit, leaf_pointers, leaves_in, levels_held, levels_of, map, next_levels, node_pointers, numbers-rise, numbers_rise, opened_as, parents, passes, path_is, path_to, range_with_len, root_spelling, same_numbers, set_in, shared, to_all, to_filter, to_map, to_numbers, to_touched, to_withs, touched, tree_in, with_numbers, within, ◌==◌}
use Rattle.special_files.proofs.Levels.{Tell, set_is}
use Rattle.special_files.proofs.PutStore.{flags_of}

-- ---- flags

set_keeps : (flags : List Bool) (n m : ℕ) → n < length flags → get_or flags m false ≡ true → get_or (set flags n true) m false ≡ true
set_keeps flags n m below is = elim (cases_Bool (m == n)) [
  | inl same ↦ subst (λ (j : ℕ). get_or (set flags n true) j false ≡ true) (sym (eqb-true m n same)) (get_or-set_same flags n true false below)
  | inr not ↦ get_or-set_other flags n m true false (eqb-false m n not) ∙ is
]

set_only : (flags : List Bool) (n m : ℕ) → get_or (set flags n true) m false ≡ true → (m ≡ n) ⊎ (get_or flags m false ≡ true)
set_only flags n m is = elim (cases_Bool (m == n)) [
  | inl same ↦ inl (eqb-true m n same)
  | inr not ↦ inr (sym (get_or-set_other flags n m true false (eqb-false m n not)) ∙ is)
]

-- the flags of the places from one on and before another are set, and all others are as they were
pub record Marks (f : ℕ → ℕ) (from to : ℕ) (was is : List Bool) : Type 0 where
  pub old : (m : ℕ) → get_or was m false ≡ true → get_or is m false ≡ true
  pub new : (l : ℕ) → from ≤ l → l < to → get_or is (f l) false ≡ true
  pub only : (m : ℕ) → get_or is m false ≡ true → (get_or was m false ≡ true) ⊎ ((l : ℕ) × (from ≤ l) × (l < to) × (f l ≡ m))

pub marks_begin : (f : ℕ → ℕ) (from : ℕ) (was : List Bool) → Marks f from from was was
marks_begin f from was = record { old = λ m h. h; new = λ l low high. absurd (omega (arith, low, high)); only = λ m h. inl h }

pub marks_more : (f : ℕ → ℕ) (from to : ℕ) (was is next : List Bool) → Marks f from to was is → from ≤ to → f to < length is → next ≡ set is (f to) true → Marks f from (to + 1) was next
marks_more f from to was is next marks order below same = record {
  old = λ m h. ap (λ (bs : List Bool). get_or bs m false) same ∙ set_keeps is (f to) m below (marks.old m h);
  new = λ l low high. elim (cases_Bool (l == to)) [
    | inl here ↦ ap (λ (bs : List Bool). get_or bs (f l) false) same ∙ ap (λ (j : ℕ). get_or (set is (f to) true) (f j) false) (eqb-true l to here) ∙ get_or-set_same is (f to) true false below
    | inr not ↦ let apart = eqb-false l to not in ap (λ (bs : List Bool). get_or bs (f l) false) same ∙ set_keeps is (f to) (f l) below (marks.new l low (omega (arith, high, apart)))
  ];
  only = λ m h. elim (set_only is (f to) m (sym (ap (λ (bs : List Bool). get_or bs m false) same) ∙ h)) [
    | inl here ↦ inr (to, order, omega arith, sym here)
    | inr before ↦ elim (marks.only m before) [ inl was_set ↦ inl was_set | inr l ↦ inr (l.0, l.1, omega (arith, l.2), l.3) ]
  ];
}

-- ---- numbers of flags

pub in_set : (flags : List Bool) (x : ℕ) → has_number x (set_in flags) ≡ true → get_or flags x false ≡ true
in_set flags x h = (in_filter (λ n. get_or flags n false) x (range_with_len 0 (length flags)) (sym (ap (has_number x) (set_is flags (length flags) refl)) ∙ h)).0

pub to_set : (flags : List Bool) (x : ℕ) → get_or flags x false ≡ true → has_number x (set_in flags) ≡ true
to_set flags x is = ap (has_number x) (set_is flags (length flags) refl) ∙ to_filter (λ n. get_or flags n false) x (range_with_len 0 (length flags)) is (to_numbers x 0 (length flags) (omega arith) (elim (cases_lt x (length flags)) [
  | inl below ↦ omega (arith, below)
  | inr past ↦ absurd (both_ways _ (get_or_past flags x false past) is)
]))

pub set-rises : (flags : List Bool) → numbers_rise (set_in flags) ≡ true
set-rises flags = ap numbers_rise (set_is flags (length flags) refl) ∙ filter-rises (λ n. get_or flags n false) (range_with_len 0 (length flags)) (numbers-rise 0 (length flags))

-- ---- the model's levels

pub first_is : (levels : List (List ℕ)) → first_level levels ≡ get_or levels 0 []
first_is [] = refl
first_is (ns ∷ levels) = refl

pub next_is : (levels : List (List ℕ)) (k : ℕ) → get_or (next_levels levels) k [] ≡ get_or levels (suc k) []
next_is [] k = refl
next_is (ns ∷ levels) k = refl

pub none_shared : (ns : List ℕ) → shared ns [] ≡ []
none_shared [] = refl
none_shared (n ∷ ns) = none_shared ns

pub within_none : (levels : List (List ℕ)) (j : ℕ) → get_or (within levels []) j [] ≡ []
within_none [] j = refl
within_none (ns ∷ levels) zero = none_shared ns
within_none (ns ∷ levels) (suc j) = within_none levels j

some_passed : (test : ℕ → Bool) (o : Option Held) → passes test o ≡ true → is_some o ≡ true
some_passed test None h = cc
some_passed test (Some h) p = refl

-- a flag that is set is one of them
pub below_flags : (flags : List Bool) (w x : ℕ) → length flags ≡ w → get_or flags x false ≡ true → x < w
below_flags flags w x long is = elim (cases_lt x (length flags)) [ inl below ↦ omega (arith, below, long) | inr past ↦ absurd (both_ways _ (get_or_past flags x false past) is) ]

-- what is fresh is held
module _ (b : Image) (id : Puid) (es : Drafts) (is : Drafting) (e : Draft) (now : IsOpen es id is e) (draft : HasDraft b id (opened_as is e)) where
  abbrev tree : Tree
  tree = tree_in b (root_spelling is.root)

  tell : Tell (is_meant_for b id.block) tree is.leaves is.nodes
  tell = flags_of b es id is e now draft

  levels : held_levels e.object ≡ levels_held tree (length (levels_of (root_spelling is.root)))
  levels = sym (blocks_counted b (length b) id.block (root_spelling is.root) is.root e.object draft.tree)

  held_first : held_leaves e.object ≡ held_at_depth tree 2
  unfolding levels_of
  held_first = ap first_level levels

  held_second : held_nodes e.object ≡ held_at_depth tree 1
  unfolding levels_of
  held_second = ap (λ (ls : List (List ℕ)). first_level (next_levels ls)) levels

  pub leaf_held : (x : ℕ) → x < leaf_limit → get_or is.leaves x false ≡ true → has_number x (held_leaves e.object) ≡ true
  unfolding levels_of
  leaf_held x below flag = ap (has_number x) held_first ∙ to_filter (λ n. is_some (tree.below (path_to (levels_of (root_spelling is.root)) n))) x (range_with_len 0 leaf_limit)
      (ap (λ (p : List ℕ). is_some (tree.below p)) (path_is (root_spelling is.root) x) ∙ some_passed (is_meant_for b id.block) (tree.below (x / leaf_pointers.count ∷ x % leaf_pointers.count ∷ [])) (sym (tell.leaf x below) ∙ flag)) (to_numbers x 0 leaf_limit (omega arith) (omega (arith, below)))

  pub node_held : (x : ℕ) → x < node_pointers.count → get_or is.nodes x false ≡ true → has_number x (held_nodes e.object) ≡ true
  unfolding levels_of path_to
  node_held x below flag = ap (has_number x) held_second ∙ to_filter (λ n. is_some (tree.below (n / 1 ∷ []))) x (range_with_len 0 node_pointers.count)
      (ap (λ (m : ℕ). is_some (tree.below (m ∷ []))) (div-one x) ∙ some_passed (is_meant_for b id.block) (tree.below (x ∷ [])) (sym (tell.node x below) ∙ flag)) (to_numbers x 0 node_pointers.count (omega arith) (omega (arith, below)))

module _ (b : Image) (id : Puid) (ds es : Drafts) (was is : Drafting) (d e : Draft) (opened : IsOpen ds id was d) (now : IsOpen es id is e) (draft : HasDraft b id (opened_as is e))
    (offset : ℕ) (bytes : List ℕ) (leaves : Marks (λ l. l) (offset / 512) (leaves_in (offset + length bytes)) was.leaves is.leaves) (nodes : Marks (λ l. l / leaf_pointers.count) (offset / 512) (leaves_in (offset + length bytes)) was.nodes is.nodes)
    (object : changed_object (Overwrite offset bytes) d.object ≡ e.object) where
  abbrev T : List ℕ
  T = touched offset (length bytes)

  first : shared (with_numbers T (set_in was.leaves)) (held_leaves e.object) ≡ set_in is.leaves
  first = same_numbers _ _ (filter-rises (λ n. has_number n (held_leaves e.object)) (with_numbers T (set_in was.leaves)) (all-rise T (set_in was.leaves) (set-rises was.leaves))) (set-rises is.leaves)
      (λ x h. to_set is.leaves x (elim (in_all x T (set_in was.leaves) (in_filter (λ n. has_number n (held_leaves e.object)) x (with_numbers T (set_in was.leaves)) h).1) [
        | inl new ↦ let two = in_touched offset (length bytes) x new in leaves.new x two.0 two.1
        | inr old ↦ leaves.old x (in_set was.leaves x old)
      ]))
      (λ x h. let flag = in_set is.leaves x h in
      to_filter (λ n. has_number n (held_leaves e.object)) x (with_numbers T (set_in was.leaves)) (leaf_held b id es is e now draft x (below_flags is.leaves leaf_limit x now.leaf_flags flag) flag) (to_all x T (set_in was.leaves) (elim (leaves.only x flag) [
        | inl old ↦ inr (to_set was.leaves x old)
        | inr l ↦ inl (subst (λ (y : ℕ). has_number y T ≡ true) l.3 (to_touched offset (length bytes) l.0 l.1 l.2))
      ])))

  in_parents : (x : ℕ) → has_number x (parents T) ≡ true → get_or is.nodes x false ≡ true
  in_parents x h =
      let n = in_map (λ (y : ℕ). y / leaf_pointers.count) x T (in_withs x (map (λ (y : ℕ). y / leaf_pointers.count) T) h) in
      let two = in_touched offset (length bytes) n.0 n.1 in
      subst (λ (y : ℕ). get_or is.nodes y false ≡ true) n.2 (nodes.new n.0 two.0 two.1)

  to_parents : (l : ℕ) → offset / 512 ≤ l → l < leaves_in (offset + length bytes) → has_number (l / leaf_pointers.count) (parents T) ≡ true
  to_parents l low high = to_withs (l / leaf_pointers.count) (map (λ (y : ℕ). y / leaf_pointers.count) T) (to_map (λ (y : ℕ). y / leaf_pointers.count) l T (to_touched offset (length bytes) l low high))

  second : shared (with_numbers (parents T) (set_in was.nodes)) (held_nodes e.object) ≡ set_in is.nodes
  second = same_numbers _ _ (filter-rises (λ n. has_number n (held_nodes e.object)) (with_numbers (parents T) (set_in was.nodes)) (all-rise (parents T) (set_in was.nodes) (set-rises was.nodes))) (set-rises is.nodes)
      (λ x h. to_set is.nodes x (elim (in_all x (parents T) (set_in was.nodes) (in_filter (λ n. has_number n (held_nodes e.object)) x (with_numbers (parents T) (set_in was.nodes)) h).1) [
        | inl new ↦ in_parents x new
        | inr old ↦ nodes.old x (in_set was.nodes x old)
      ]))
      (λ x h. let flag = in_set is.nodes x h in
      to_filter (λ n. has_number n (held_nodes e.object)) x (with_numbers (parents T) (set_in was.nodes)) (node_held b id es is e now draft x (below_flags is.nodes node_pointers.count x now.node_flags flag) flag) (to_all x (parents T) (set_in was.nodes) (elim (nodes.only x flag) [
        | inl old ↦ inr (to_set was.nodes x old)
        | inr l ↦ inl (subst (λ (y : ℕ). has_number y (parents T) ≡ true) l.3 (to_parents l.0 l.1 l.2))
      ])))

  -- the fresh blocks are those that the model has after the write
  pub fresh_written : (k : ℕ) → get_or (fresh_after (Overwrite offset bytes) d.object d.fresh) k [] ≡ get_or (fresh_of is) k []
  fresh_written zero =
      ap (λ (o : Object). shared (with_numbers T (first_level d.fresh)) (held_leaves o)) object ∙ ap (λ (ns : List ℕ). shared (with_numbers T ns) (held_leaves e.object)) (first_is d.fresh ∙ opened.fresh 0) ∙ first
  fresh_written (suc zero) =
      ap (λ (o : Object). shared (with_numbers (parents T) (first_level (next_levels d.fresh))) (held_nodes o)) object
      ∙ ap (λ (ns : List ℕ). shared (with_numbers (parents T) ns) (held_nodes e.object)) (first_is (next_levels d.fresh) ∙ next_is d.fresh 0 ∙ opened.fresh 1) ∙ second
  fresh_written (suc (suc j)) = within_none (next_levels (next_levels d.fresh)) j
