-- How much is left to be read of a draft: a cursor that moves on leaves no more of it, and each step on it less.
use Rattle.std.proofs.Common.{◌≡◌, inl, inr, ℕ, ◌+◌, ◌<◌, ◌≤◌, List, count_by, refl, sym, arith, Bool, true, false, cond, Option, Some, None}
use Rattle.marking.proofs.Words.{Index, draft_step, has_number, if_held, is_some, nat_le, nat_lt, nat_tests, next_held, own_part, same_Some, unread_of}
use Rattle.std.proofs.lemmas.Bool.{lt-ltb, ltb-true, cases_Bool}
use Rattle.marking.proofs.Sums.{number_in, sum_more, sum_raised}
use Rattle.marking.proofs.Steps.{find_on}

-- it falls as a cursor moves on
pub unread_later : (a b : ℕ) → a ≤ b → (has : Bool) (held : List ℕ) → unread_of has (Some b) held ≤ unread_of has (Some a) held
unread_later a b le has held = elim (cases_Bool (nat_lt b own_part)) [
  | inl in_draft ↦ let less : nat_lt a own_part ≡ true = lt-ltb a own_part (let low = ltb-true b own_part in_draft in omega (arith, le, low)) in
      let few = sum_more (λ leaf. cond (nat_le b leaf) 1 0) (λ leaf. cond (nat_le a leaf) 1 0) (λ leaf. grind (arith, nat_tests)) held in
      rw (in_draft, less) (omega (arith, few))
  | inr past ↦ rw past (omega arith)
]

pub unread_end : (a : ℕ) (has : Bool) (held : List ℕ) → unread_of has None held ≤ unread_of has (Some a) held
unread_end a has held = omega arith

-- in an index's own part it is 0
pub unread_past : (a b : ℕ) → own_part ≤ b → (has : Bool) (held : List ℕ) → unread_of has (Some b) held ≤ unread_of has (Some a) held
unread_past a b le has held = let past : nat_lt b own_part ≡ false = grind (arith, nat_tests) in rw past (omega arith)

pub unread_if_held : (j : Index) (from a b : ℕ) → own_part ≤ b → (has : Bool) (held : List ℕ) → unread_of has (if_held j from b) held ≤ unread_of has (Some a) held
unread_if_held j from a b le has held = elim (next_held from j) as (λ o. unread_of has (cond (is_some o) (Some b) None) held ≤ unread_of has (Some a) held) [ None ↦ omega arith | Some n ↦ unread_past a b le has held ]

-- past a leaf that is held there is less
unread_passed : (cursor leaf b : ℕ) (held : List ℕ) → cursor < own_part → cursor ≤ leaf → leaf < b → has_number leaf held ≡ true → unread_of true (Some b) held + 1 ≤ unread_of true (Some cursor) held
unread_passed cursor leaf b held inside on less at = rw (lt-ltb cursor own_part inside) (elim (nat_lt b own_part) as (λ t. cond t (count_by (λ l. nat_le b l) held + 1) 0 + 1 ≤ count_by (λ l. nat_le cursor l) held + 1) [
  | true ↦
      let raised = sum_raised (λ l. cond (nat_le b l) 1 0) (λ l. cond (nat_le cursor l) 1 0) (λ l. grind (arith, nat_tests)) leaf (below_passed cursor leaf b on less) held (number_in leaf held at) in
      omega (arith, raised)
  | false ↦ omega arith
])
  where
    below_passed : (cursor leaf b : ℕ) → cursor ≤ leaf → leaf < b → cond (nat_le b leaf) 1 0 + 1 ≤ cond (nat_le cursor leaf) 1 0
    below_passed cursor leaf b on less = grind (arith, nat_tests)

unread_ends : (cursor : ℕ) (held : List ℕ) → cursor < own_part → (o : Option ℕ) → ((b : ℕ) → o ≡ Some b → own_part ≤ b) → unread_of true o held + 1 ≤ unread_of true (Some cursor) held
unread_ends cursor held inside None past = rw (lt-ltb cursor own_part inside) (omega arith)
unread_ends cursor held inside (Some b) past = let le = past b refl in let none : nat_lt b own_part ≡ false = grind (arith, nat_tests) in rw (lt-ltb cursor own_part inside, none) (omega arith)

if_held_is : (j : Index) (from to b : ℕ) → if_held j from to ≡ Some b → b ≡ to
if_held_is j from to b h = elim (next_held from j) as (λ o. cond (is_some o) (Some to) None ≡ Some b → b ≡ to) [ None ↦ λ no. cc | Some n ↦ λ is. sym (same_Some to b is) ] h

-- a step in the draft's part leaves less of it
pub draft_lowers : (d j : Index) (cursor : ℕ) → cursor < own_part → unread_of true (draft_step d j (next_held cursor d)).1 d.held + 1 ≤ unread_of true (Some cursor) d.held
draft_lowers d j cursor inside = elim (next_held cursor d) as (λ o. next_held cursor d ≡ o → unread_of true (draft_step d j o).1 d.held + 1 ≤ unread_of true (Some cursor) d.held) [
  | None ↦ λ none. unread_ends cursor d.held inside (if_held j 0 own_part) (λ b is. omega (arith, if_held_is j 0 own_part b is))
  | Some leaf ↦ λ next.
      let here = find_on cursor leaf d.held next in
      elim (next_held (leaf + 1) d) as (λ o. unread_of true (cond (is_some o) (Some (leaf + 1)) (if_held j 0 own_part)) d.held + 1 ≤ unread_of true (Some cursor) d.held) [
        | None ↦ unread_ends cursor d.held inside (if_held j 0 own_part) (λ b is. omega (arith, if_held_is j 0 own_part b is))
        | Some n ↦ unread_passed cursor leaf (leaf + 1) d.held inside here.0 (omega arith) here.1
      ]
] refl

-- and moves on
pub draft_moves : (d j : Index) (cursor : ℕ) → cursor < own_part → (P : Option ℕ → Type 0) → P None → ((b : ℕ) → cursor ≤ b → P (Some b)) → P (draft_step d j (next_held cursor d)).1
draft_moves d j cursor inside P none some = elim (next_held cursor d) as (λ o. next_held cursor d ≡ o → P (draft_step d j o).1) [
  | None ↦ λ is. own
  | Some leaf ↦ λ next.
      let here = find_on cursor leaf d.held next in
      elim (next_held (leaf + 1) d) as (λ o. P (cond (is_some o) (Some (leaf + 1)) (if_held j 0 own_part))) [ None ↦ own | Some n ↦ some (leaf + 1) (omega (arith, here.0)) ]
] refl
  where
    own : P (if_held j 0 own_part)
    own = elim (next_held 0 j) as (λ o. P (cond (is_some o) (Some own_part) None)) [ None ↦ none | Some n ↦ some own_part (omega (arith, inside)) ]

-- a place at the beginning leaves the most
pub unread_most : (has : Bool) (k : Option ℕ) (held : List ℕ) → unread_of has k held ≤ unread_of has (Some 0) held
unread_most has None held = omega arith
unread_most has (Some b) held = unread_later 0 b (omega arith) has held
