-- One object of the graph is replaced by one of its kind, or an object is made, or what is open changes.
use Rattle.std.proofs.Common.{◌≡◌, ◌⊎◌, inl, inr, ℕ, zero, suc, ◌*◌, ◌≤◌, ◌==◌, List, [], ◌∷◌, take, drop, set, length, refl, sym, ◌∙◌, ap, subst, arith, true, false, cond, ◌||◌, Option, Some, None}
use Rattle.marking.proofs.Words.{Changes, Colours, Equal, Graph, Greater, Index, IsFoundBy, Kind, Less, Object, Puid, Rescue, State, Waits, at_place, cursor_of, draft_at, filled, filter_map, has_number, in_leaf, insert_entry, is_among, is_at, is_eq, is_found, is_index_there, is_remembered, joined_has, joined_has_new, joined_within, kind_at, kind_standing, leaf_of_slot, lookup, match_ordering, nat_lt, numbers_rise, object_at, object_at-with_object, open_ids, or_cases, or_left, or_right, own_part, puid_cmp, read_in, read_of, read_so_far, same_puid, same_puid_is, same_puid_itself, starts_now, sum_by, sum_by-cons, unread, with_number, with_object}
use Rattle.std.proofs.Common.{◌+◌, Bool}
use Rattle.ufs_model.specs.declared.object.Object.TheVariants as objects
use Rattle.marking.proofs.Places.{InDraft, InOwn, stands_at, at_own, at_draft}
use Rattle.marking.proofs.Sums.{within_sum, with_sum, count_all}

-- ---- a slot that is filled

abbrev ids_in : List (Option Puid) → List Puid
ids_in slots = filter_map (λ slot. slot) slots

-- among the identifiers of slots, one of which was set
set_adds : (x : Puid) (what : Option Puid) (slots : List (Option Puid)) (k : ℕ) → is_among x (ids_in (set slots k what)) ≡ true → (is_among x (ids_in slots) ≡ true) ⊎ (what ≡ Some x)
set_adds x what [] k h = inl h
set_adds x None (None ∷ slots) zero h = inl h
set_adds x None (Some z ∷ slots) zero h = inl (or_right (same_puid x z) (is_among x (ids_in slots)) h)
set_adds x (Some y) (s ∷ slots) zero h = elim (or_cases (same_puid x y) (is_among x (ids_in slots)) h) [ inl here ↦ inr (ap Some (sym (same_puid_is x y here))) | inr later ↦ inl (head s later) ]
  where
    head : (s : Option Puid) → is_among x (ids_in slots) ≡ true → is_among x (ids_in (s ∷ slots)) ≡ true
    head None later = later
    head (Some z) later = or_right (same_puid x z) (is_among x (ids_in slots)) later
set_adds x what (None ∷ slots) (suc k) h = set_adds x what slots k h
set_adds x what (Some z ∷ slots) (suc k) h = elim (or_cases (same_puid x z) (is_among x (ids_in (set slots k what))) h) [
  | inl here ↦ inl (or_left (same_puid x z) (is_among x (ids_in slots)) here)
  | inr later ↦ elim (set_adds x what slots k later) [ inl was ↦ inl (or_right (same_puid x z) (is_among x (ids_in slots)) was) | inr new ↦ inr new ]
]

-- a part of them is as it was, or one of it was set
drop_set : (n : ℕ) (slots : List (Option Puid)) (k : ℕ) (what : Option Puid) → (drop n (set slots k what) ≡ drop n slots) ⊎ ((j : ℕ) × (drop n (set slots k what) ≡ set (drop n slots) j what))
drop_set zero slots k what = inr (k, refl)
drop_set (suc n) [] k what = inl refl
drop_set (suc n) (s ∷ slots) zero what = inl refl
drop_set (suc n) (s ∷ slots) (suc k) what = drop_set n slots k what

take_set : (n : ℕ) (slots : List (Option Puid)) (k : ℕ) (what : Option Puid) → (take n (set slots k what) ≡ take n slots) ⊎ ((j : ℕ) × (take n (set slots k what) ≡ set (take n slots) j what))
take_set zero slots k what = inl refl
take_set (suc n) [] k what = inl refl
take_set (suc n) (s ∷ slots) zero what = inr (0, refl)
take_set (suc n) (s ∷ slots) (suc k) what = elim (take_set n slots k what) [ inl same ↦ inl (ap (λ (l : List (Option Puid)). s ∷ l) same) | inr (j, is) ↦ inr (suc j, ap (λ (l : List (Option Puid)). s ∷ l) is) ]

pub fill_adds : (i : Index) (slot : ℕ) (what : Option Puid) (x : Puid) (leaf : ℕ) → in_leaf (Some (objects.Index (filled i slot what))) leaf x ≡ true → (in_leaf (Some (objects.Index i)) leaf x ≡ true) ⊎ (what ≡ Some x)
fill_adds i slot what x leaf h = elim (drop_set (64 * leaf) i.slots slot what) [
  | inl same ↦ inl (subst (λ (l : List (Option Puid)). is_among x (ids_in (take 64 l)) ≡ true) same h)
  | inr (j, is) ↦ elim (take_set 64 (drop (64 * leaf) i.slots) j what) [
    | inl same ↦ inl (subst (λ (l : List (Option Puid)). is_among x (ids_in l) ≡ true) (ap (take 64) is ∙ same) h)
    | inr (k, at) ↦ set_adds x what (take 64 (drop (64 * leaf) i.slots)) k (subst (λ (l : List (Option Puid)). is_among x (ids_in l) ≡ true) (ap (take 64) is ∙ at) h)
  ]
]

with_length : (n : ℕ) (ms : List ℕ) → length ms ≤ length (with_number n ms)
with_length n [] = omega arith
with_length n (m ∷ ms) =
    elim (n == m) as (λ t. length (m ∷ ms) ≤ length (cond t (m ∷ ms) (cond (nat_lt n m) (n ∷ m ∷ ms) (m ∷ with_number n ms)))) [
      | true ↦ omega arith
      | false ↦ elim (nat_lt n m) as (λ t. length (m ∷ ms) ≤ length (cond t (n ∷ m ∷ ms) (m ∷ with_number n ms))) [
        | true ↦ omega arith
        | false ↦ let rest = with_length n ms in omega (arith, rest)
      ]
    ]

read_more : (k : Option ℕ) (slot : ℕ) (what : Option Puid) (i : Index) → read_of k i.held ≤ read_of k (filled i slot what).held
read_more k slot None i = omega arith
read_more None slot (Some x) i = let more = with_length (leaf_of_slot slot) i.held in omega (arith, more)
read_more (Some cursor) slot (Some x) i = with_sum (λ leaf. cond (nat_lt (own_part + leaf) cursor) 1 0) (leaf_of_slot slot) i.held

pub fill_reads : (c : Colours) (k : Puid) (i : Index) (slot : ℕ) (what : Option Puid) → read_in c (k, objects.Index i) ≤ read_in c (k, objects.Index (filled i slot what))
fill_reads c k i slot what =
    elim (c.marked k.block) as (λ t. cond t (read_of (cursor_of c.grey k) i.held) 0 ≤ cond t (read_of (cursor_of c.grey k) (filled i slot what).held) 0) [ true ↦ read_more (cursor_of c.grey k) slot what i | false ↦ omega arith ]

-- an index that holds more has no fewer leaves read
pub read_within : (c : Colours) (k : Puid) (i d : Index) → numbers_rise i.held ≡ true → numbers_rise d.held ≡ true → ((n : ℕ) → has_number n i.held ≡ true → has_number n d.held ≡ true)
    → read_in c (k, objects.Index i) ≤ read_in c (k, objects.Index d)
read_within c k i d up rise all =
    elim (c.marked k.block) as (λ t. cond t (read_of (cursor_of c.grey k) i.held) 0 ≤ cond t (read_of (cursor_of c.grey k) d.held) 0) [ true ↦ at (cursor_of c.grey k) | false ↦ omega arith ]
  where
    at : (o : Option ℕ) → read_of o i.held ≤ read_of o d.held
    at None = let few = within_sum (λ n. 1) i.held d.held up rise all in omega (arith, few, count_all i.held, count_all d.held)
    at (Some cursor) = within_sum (λ leaf. cond (nat_lt (own_part + leaf) cursor) 1 0) i.held d.held up rise all

-- ---- one entry of the graph more, or another

entry_reads : (f : Puid × Object → ℕ) (k : Puid) (o : Object) (es : List (Puid × Object)) → ((old : Object) → lookup (is_at (puid_cmp k)) es ≡ Some old → f (k, old) ≤ f (k, o))
    → sum_by f es ≤ sum_by f (insert_entry puid_cmp es k o)
entry_reads f k o [] le = omega arith
entry_reads f k o (e ∷ es) le =
    elim (puid_cmp k e.0) as (λ r. puid_cmp k e.0 ≡ r → sum_by f (e ∷ es) ≤ sum_by f (match_ordering r ((k, o) ∷ e ∷ es) ((e.0, o) ∷ es) (e ∷ insert_entry puid_cmp es k o))) [
      | Less ↦ λ is. omega (arith, sum_by-cons f (k, o) (e ∷ es))
      | Equal ↦ λ is.
          let same : k ≡ e.0 = same_puid_is k e.0 (ap is_eq is) in
          let more : f (e.0, e.1) ≤ f (e.0, o) = subst (λ (j : Puid). f (j, e.1) ≤ f (j, o)) same (le e.1 (rw is refl)) in
          omega (arith, more, sum_by-cons f e es, sum_by-cons f (e.0, o) es)
      | Greater ↦ λ is. omega (arith, sum_by-cons f e es, sum_by-cons f e (insert_entry puid_cmp es k o), entry_reads f k o es (λ old at. le old (rw is at)))
    ] refl

-- ---- what is open

starts_cases : (s : State) (x : Puid) → is_among x (starts_now s) ≡ true → (is_among x (open_ids s) ≡ true) ⊎ (x ≡ s.graph.root)
starts_cases s x h =
    elim (or_cases (is_among x (open_ids s)) (same_puid x s.graph.root) (joined_within (λ y. is_among y (open_ids s) || same_puid y s.graph.root) (open_ids s) (s.graph.root ∷ [])
    (λ y at. or_left (is_among y (open_ids s)) (same_puid y s.graph.root) at)
    (λ y at. elim (or_cases (same_puid y s.graph.root) false at) [ inl here ↦ or_right (is_among y (open_ids s)) (same_puid y s.graph.root) here | inr none ↦ cc ]) x h)) [
      | inl now ↦ inl now
      | inr root ↦ inr (same_puid_is x s.graph.root root)
    ]

-- where no more is open but what has its rescue, no more is among the starts
starts_change : (s t : State) (more : List Rescue) → t.graph.root ≡ s.graph.root → ((x : Puid) → is_among x (open_ids t) ≡ true → (is_among x (open_ids s) ≡ true) ⊎ Waits more None x)
    → (x : Puid) → is_among x (starts_now t) ≡ true → (is_among x (starts_now s) ≡ true) ⊎ Waits more None x
starts_change s t more root opened x h = elim (starts_cases t x h) [
  | inl now ↦ elim (opened x now) [ inl was ↦ inl (joined_has_new (open_ids s) (s.graph.root ∷ []) x was) | inr new ↦ inr new ]
  | inr is ↦ inl (joined_has (open_ids s) (s.graph.root ∷ []) x (or_left (same_puid x s.graph.root) false (subst (λ (y : Puid). same_puid x y ≡ true) (is ∙ root) (same_puid_itself x))))
]

-- ---- the changes

-- where it is found now it is found
pub now : (s : State) (from : Option Puid) (place : ℕ) (x : Puid) → is_found s from place x ≡ true → IsFoundBy s from place x
now s from place x h = record { before = place; earlier = omega arith; there = h }

module _ (s t : State) (more : List Rescue)
    (rescues : (index : Option Puid) (x : Puid) → Waits more index x → (is_remembered t.collection index x ≡ true) × (is_index_there t.graph index ≡ true))
    (memory : (index : Option Puid) (x : Puid) → is_remembered s.collection index x ≡ true → is_remembered t.collection index x ≡ true)
    (opened : (x : Puid) → is_among x (open_ids t) ≡ true → (is_among x (open_ids s) ≡ true) ⊎ Waits more None x) where
  -- the graph stays, and what a draft has now it had, or it has its rescue
  pub same_graph : ((c : Colours) → unread t c ≤ unread s c + length more) → t.graph ≡ s.graph
      → ((i : Puid) (leaf : ℕ) (x : Puid) → in_leaf (draft_at t.grants i) leaf x ≡ true → in_leaf (object_at s.graph i) leaf x ≡ false → (in_leaf (draft_at s.grants i) leaf x ≡ true) ⊎ Waits more (Some i) x)
      → Changes s t more
  same_graph left is drafts = record {
    root = ap (λ (g : Graph). g.root) is;
    kinds = λ x kind h. ap (λ (g : Graph). kind_at g x) is ∙ h;
    found = λ from place x h. found from place x h;
    rescues = rescues;
    memory = memory;
    leaves = λ c. subst (λ (g : Graph). read_so_far s.graph c ≤ read_so_far g c) (sym is) (omega arith);
    unread = left;
  }
    where
      found : (from : Option Puid) (place : ℕ) (x : Puid) → is_found t from place x ≡ true → IsFoundBy s from place x ⊎ Waits more from x
      found None place x h = elim (starts_change s t more (ap (λ (g : Graph). g.root) is) opened x h) [ inl was ↦ inl (now s None place x was) | inr new ↦ inr new ]
      found (Some i) place x h = elim (stands_at (draft_at t.grants i) (object_at t.graph i) place x h) [
        | InDraft less at none ↦
            let none' : in_leaf (object_at s.graph i) place x ≡ false = subst (λ (g : Graph). in_leaf (object_at g i) place x ≡ false) is none in
            elim (drafts i place x at none') [
              | inl was ↦ inl (now s (Some i) place x (at_draft (draft_at s.grants i) (object_at s.graph i) place x less was none'))
              | inr new ↦ inr new
            ]
        | InOwn leaf same at ↦ inl (now s (Some i) place x (subst (λ (p : ℕ). at_place (draft_at s.grants i) (object_at s.graph i) p x ≡ true) (sym same)
            (at_own (draft_at s.grants i) (object_at s.graph i) leaf x (subst (λ (g : Graph). in_leaf (object_at g i) leaf x ≡ true) is at))))
      ]

  -- An object becomes one of its kind, or is made; what it refers to now stood there or in its draft, or has its rescue. It
  -- has no draft of which more is found, and those of others stay.
  pub with_one : ((c : Colours) → unread t c ≤ unread s c + length more) → (k : Puid) (o : Object) → t.graph ≡ with_object s.graph k o
      → ((old : Object) → object_at s.graph k ≡ Some old → (kind_standing (Some o) ≡ kind_standing (Some old)) × ((c : Colours) → read_in c (k, old) ≤ read_in c (k, o)))
      → ((leaf : ℕ) (x : Puid) → in_leaf (Some o) leaf x ≡ true → IsFoundBy s (Some k) (own_part + leaf) x ⊎ Waits more (Some k) x)
      → ((i : Puid) (leaf : ℕ) (x : Puid) → in_leaf (draft_at t.grants i) leaf x ≡ true → in_leaf (cond (same_puid i k) (Some o) (object_at s.graph i)) leaf x ≡ false
      → (same_puid i k ≡ false) × (in_leaf (draft_at s.grants i) leaf x ≡ true))
      → Changes s t more
  with_one left k o is old_is adds drafts = record {
    root = ap (λ (g : Graph). g.root) is;
    kinds = λ x kind h. ap (λ (g : Graph). kind_at g x) is ∙ ap kind_standing (object_at-with_object s.graph k o x) ∙ elim (same_puid x k) as (λ b. same_puid x k ≡ b → kind_standing (cond b (Some o) (object_at s.graph x)) ≡ Some kind) [
      | true ↦ λ same. at_k (object_at s.graph k) refl kind (subst (λ (y : Puid). kind_at s.graph y ≡ Some kind) (same_puid_is x k same) h)
      | false ↦ λ other. h
    ] refl;
    found = λ from place x h. found from place x h;
    rescues = rescues;
    memory = memory;
    leaves = λ c. subst (λ (g : Graph). read_so_far s.graph c ≤ read_so_far g c) (sym is) (entry_reads (read_in c) k o s.graph.objects (λ old at. (old_is old at).1 c));
    unread = left;
  }
    where
      at_k : (here : Option Object) → object_at s.graph k ≡ here → (kind : Kind) → kind_standing here ≡ Some kind → kind_standing (Some o) ≡ Some kind
      at_k None here kind h = cc
      at_k (Some old) here kind h = (old_is old here).0 ∙ h

      now_there : (i : Puid) → object_at t.graph i ≡ cond (same_puid i k) (Some o) (object_at s.graph i)
      now_there i = ap (λ (g : Graph). object_at g i) is ∙ object_at-with_object s.graph k o i

      own : (i : Puid) (leaf : ℕ) (x : Puid) → in_leaf (cond (same_puid i k) (Some o) (object_at s.graph i)) leaf x ≡ true → IsFoundBy s (Some i) (own_part + leaf) x ⊎ Waits more (Some i) x
      own i leaf x h = elim (same_puid i k) as (λ b. same_puid i k ≡ b → in_leaf (cond b (Some o) (object_at s.graph i)) leaf x ≡ true → IsFoundBy s (Some i) (own_part + leaf) x ⊎ Waits more (Some i) x) [
        | true ↦ λ same at. subst (λ (j : Puid). IsFoundBy s (Some j) (own_part + leaf) x ⊎ Waits more (Some j) x) (sym (same_puid_is i k same)) (adds leaf x at)
        | false ↦ λ other at. inl (now s (Some i) (own_part + leaf) x (at_own (draft_at s.grants i) (object_at s.graph i) leaf x at))
      ] refl h

      found : (from : Option Puid) (place : ℕ) (x : Puid) → is_found t from place x ≡ true → IsFoundBy s from place x ⊎ Waits more from x
      found None place x h = elim (starts_change s t more (ap (λ (g : Graph). g.root) is) opened x h) [ inl was ↦ inl (now s None place x was) | inr new ↦ inr new ]
      found (Some i) place x h = elim (stands_at (draft_at t.grants i) (object_at t.graph i) place x h) [
        | InDraft less at none ↦
            let none' : in_leaf (cond (same_puid i k) (Some o) (object_at s.graph i)) place x ≡ false = ap (λ (here : Option Object). in_leaf here place x) (sym (now_there i)) ∙ none in
            let two = drafts i place x at none' in
            let none'' : in_leaf (object_at s.graph i) place x ≡ false = subst (λ (b : Bool). in_leaf (cond b (Some o) (object_at s.graph i)) place x ≡ false) two.0 none' in
            inl (now s (Some i) place x (at_draft (draft_at s.grants i) (object_at s.graph i) place x less two.1 none''))
        | InOwn leaf same at ↦ subst (λ (p : ℕ). IsFoundBy s (Some i) p x ⊎ Waits more (Some i) x) (sym same) (own i leaf x (ap (λ (here : Option Object). in_leaf here leaf x) (sym (now_there i)) ∙ at))
      ]
