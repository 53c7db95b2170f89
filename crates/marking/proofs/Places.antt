-- What stands at a place of an index, and where what an index refers to stands.
use Rattle.marking.proofs.Words.{Object, Puid, and_from, and_parts, at_place, in_leaf, nat_lt, nat_tests, own_part}
use Rattle.std.proofs.Common.{◌≡◌, ◌⊎◌, inl, inr, ℕ, ◌+◌, ◌-◌, ◌<◌, refl, ap, arith, true, false, cond, not, ◌&&◌, Option}
use Rattle.std.proofs.lemmas.Bool.{cases_Bool, not-true, lt-ltb, ltb-true, ltb-false}

-- it stands in a leaf of the draft, and not in the same leaf of the index; or in a leaf of the index
pub data StandsAt (draft own : Option Object) (place : ℕ) (x : Puid) : Type 0 where
  InDraft : place < own_part → in_leaf draft place x ≡ true → in_leaf own place x ≡ false → StandsAt draft own place x
  InOwn : (leaf : ℕ) → place ≡ own_part + leaf → in_leaf own leaf x ≡ true → StandsAt draft own place x

pub stands_at : (draft own : Option Object) (place : ℕ) (x : Puid) → at_place draft own place x ≡ true → StandsAt draft own place x
stands_at draft own place x h = elim (nat_lt place own_part) as (λ b. nat_lt place own_part ≡ b → cond b (in_leaf draft place x && not (in_leaf own place x)) (in_leaf own (place - own_part) x) ≡ true → StandsAt draft own place x) [
  | true ↦ λ is at. let two = and_parts (in_leaf draft place x) (not (in_leaf own place x)) at in InDraft (ltb-true place own_part is) two.0 (not-true (in_leaf own place x) two.1)
  | false ↦ λ is at. let le = ltb-false place own_part is in InOwn (place - own_part) (omega arith) at
] refl h

pub at_own : (draft own : Option Object) (leaf : ℕ) (x : Puid) → in_leaf own leaf x ≡ true → at_place draft own (own_part + leaf) x ≡ true
at_own draft own leaf x h =
    let past : nat_lt (own_part + leaf) own_part ≡ false = grind (arith, nat_tests) in
    let back : own_part + leaf - own_part ≡ leaf = omega arith in
    rw (past, back) h

pub at_draft : (draft own : Option Object) (leaf : ℕ) (x : Puid) → leaf < own_part → in_leaf draft leaf x ≡ true → in_leaf own leaf x ≡ false → at_place draft own leaf x ≡ true
at_draft draft own leaf x less h none = rw (lt-ltb leaf own_part less) (and_from (in_leaf draft leaf x) (not (in_leaf own leaf x)) h (ap not none))

-- what stands in a leaf of the draft stands there or in the same leaf of the index
pub record Stands (draft own : Option Object) (leaf : ℕ) (x : Puid) : Type 0 where
  pub place : ℕ
  pub which : (place ≡ leaf) ⊎ (place ≡ own_part + leaf)
  pub there : at_place draft own place x ≡ true

pub draft_stands : (draft own : Option Object) (leaf : ℕ) (x : Puid) → leaf < own_part → in_leaf draft leaf x ≡ true → Stands draft own leaf x
draft_stands draft own leaf x less h = elim (cases_Bool (in_leaf own leaf x)) [
  | inl both ↦ record { place = own_part + leaf; which = inr refl; there = at_own draft own leaf x both }
  | inr none ↦ record { place = leaf; which = inl refl; there = at_draft draft own leaf x less h none }
]
