-- What a step in a tree of an index finds, and where the reading goes on.
use Rattle.std.proofs.Common.{◌≡◌, ◌⊎◌, inl, inr, ℕ, zero, suc, ◌+◌, ◌*◌, ◌<◌, ◌≤◌, List, arith, Bool, true, false}
use Rattle.std.proofs.Common.{is_some, cond, Option, Some, None, refl, sym, ap, ◌∙◌, subst}
use Rattle.collector_steps.proofs.Words.{Ghosts, HasNoDeadEnd, HeldStep, IfSome, Image, IsFalse, IsRootBlock, IsPlaced, IsStepped, IsSureStep, LeafStep, SomeHeld}
use Rattle.collector_steps.proofs.Words.{IsTrue, NoneHeld, OnlyReads, Root, block_at, cases_eq, leaf_block, leaf_limit}
use Rattle.collector_steps.proofs.Words.{root_spelling}
use Rattle.block_tree.specs.Step.{IsFoundOf, upto}
use Rattle.block_tree.specs.Tree.{leaf_count}
use Rattle.marking.specs.Leaves.{own_part}
use Rattle.collector_steps.specs.Scan.{HoldsAny, IsFoundIn, IsLeafStep, after_own, following, after_found, own_place}
use Rattle.block_tree.proofs.Steps.{stepped_on}

-- ---- where the reading goes on

abbrev IsInside : ℕ → Option HeldStep → Type 0
IsInside from found = IfSome found (λ s. (from ≤ s.held.leaf) × (s.held.leaf < leaf_limit))

after_on : (from : ℕ) (found : Option HeldStep) (next : Option ℕ) → IsInside from found
    → IfSome (after_found found next) (λ leaf. (from < leaf) × (leaf ≤ own_part))
after_on from None next is = tt
after_on from (Some s) None is = tt
after_on from (Some s) (Some n) is = (omega (arith, is.0), omega (arith, is.1))

pub own_on : (from : ℕ) (step : LeafStep) → IsInside from step.found
    → IfSome (after_own step) (λ next. (own_part + from < next) × (next ≤ 2 * own_part))
own_on from step is = by (following step) (after_on from step.found step.next is)
  where
    by : (leaf : Option ℕ) → IfSome leaf (λ n. (from < n) × (n ≤ own_part))
        → IfSome (own_place leaf) (λ next. (own_part + from < next) × (next ≤ 2 * own_part))
    by None t = tt
    by (Some leaf) on = (omega (arith, on.0), omega (arith, on.1))

pub following_on : (from : ℕ) (step : LeafStep) (next : ℕ) → IsInside from step.found → following step ≡ Some next
    → (from < next) × (next ≤ own_part)
following_on from step next is h =
    subst (λ o. IfSome o (λ leaf. (from < leaf) × (leaf ≤ own_part))) h (after_on from step.found step.next is)

pub last_on : (from : ℕ) (any : Bool) → from < own_part
    → IfSome (cond any (Some own_part) None) (λ next. (from < next) × (next ≤ own_part))
last_on from true less = (less, omega arith)
last_on from false less = tt

-- ---- a step that is made where one before it sends, which found none

pub held_more : (next : Option ℕ) (from : ℕ) (most : ℕ) → IfSome next (λ n. (from < n) × (n < most))
    → IfSome next (λ n. from ≤ n)
held_more None from most t = tt
held_more (Some n) from most on = omega (arith, on.0)

pub found_next : (image : Image) (R : List ℕ) (from : ℕ) (step : LeafStep) → IsStepped image R from step → (n : ℕ)
    → is_some step.found ≡ false → step.next ≡ Some n → from ≤ n → (then : LeafStep) → IsStepped image R n then
    → IsSureStep then → IfSome then.next (λ m. IsPlaced image R m × SomeHeld image R m) → IsLeafStep image R from then
found_next image R from step is n none sends on then stepped sure sought = record {
  stepped = stepped_on (leaf_block image R) (leaf_count R) from n then on
      (subst (λ o. NoneHeld image R from (upto (leaf_count R) o)) sends (by step.found none is.found)) stepped;
  sure = sure;
  more = more then.next sought;
}
  where
    by : (f : Option HeldStep) → is_some f ≡ false
        → IsFoundOf (leaf_block image R) from f (upto (leaf_count R) step.next)
        → NoneHeld image R from (upto (leaf_count R) step.next)
    by None none is = is
    by (Some s) none is = cc

    more : (next : Option ℕ) → IfSome next (λ m. IsPlaced image R m × SomeHeld image R m)
        → IfSome next (SomeHeld image R)
    more None t = tt
    more (Some m) two = two.1

-- ---- whether a tree holds a leaf

module _ (image : Image) (R : List ℕ) where
  some_or_none : (n : ℕ) → n ≤ leaf_count R → SomeHeld image R 0 ⊎ NoneHeld image R 0 n
  some_or_none zero le = inr (λ leaf on less. absurd (omega (arith, less)))
  some_or_none (suc n) le = elim (some_or_none n (omega (arith, le))) [
    | inl some ↦ inl some
    | inr none ↦ elim (cases_eq (leaf_block image R n) 0) [
      | inl gone ↦ inr (λ leaf on less. elim (cases_eq leaf n) [
        | inl here ↦ subst (λ (l : ℕ). leaf_block image R l ≡ 0) (sym here) gone
        | inr other ↦ none leaf on (omega (arith, less, other))
      ])
      | inr there ↦ inl (record { leaf = n; on = omega arith; inside = omega (arith, le); held = there })
    ]
  ]

  pub holds_any_or_none : (any : Bool) × HoldsAny image R any
  holds_any_or_none = elim (some_or_none (leaf_count R) (omega arith)) [
    | inl some ↦ (true, some)
    | inr none ↦ (false, none)
  ]

pub told_any : (image : Image) (root : Root) (any : Bool) → HasNoDeadEnd image (root_spelling root)
    → ((image : Image) → HasNoDeadEnd image (root_spelling root) → IsTrue any → SomeHeld image (root_spelling root) 0)
    → ((image : Image) → IsFalse any → NoneHeld image (root_spelling root) 0 (leaf_count (root_spelling root)))
    → HoldsAny image (root_spelling root) any
told_any image root true alive some none = some image alive refl
told_any image root false alive some none = none image refl

-- ---- what is found in the tree of a root that was read, before which the disk was read at most

module _ {D : Type 0} (g : Ghosts D) (old mid : D) (n block : ℕ) (root : Root) (reads : OnlyReads g n old mid)
    (is : IsRootBlock (block_at (g.content mid) block) root) where
  spelled_here : root_spelling root ≡ block_at (g.content old) block
  spelled_here = sym is.spelled ∙ ap (λ (image : Image). block_at image block) reads.content

  -- as the disk stood before
  pub alive_there : HasNoDeadEnd (g.content old) (block_at (g.content old) block)
      → HasNoDeadEnd (g.content mid) (root_spelling root)
  alive_there alive =
      subst (λ (image : Image). HasNoDeadEnd image (root_spelling root)) (sym reads.content)
      (subst (HasNoDeadEnd (g.content old)) (sym spelled_here) alive)

  pub own_found : (from : ℕ) (bytes : List ℕ) (step : LeafStep) (next : Option ℕ)
      → IsLeafStep (g.content mid) (root_spelling root) from step
      → IfSome step.found (λ s. bytes ≡ block_at (g.content mid) s.held.block) → next ≡ after_own step
      → IsFoundIn (g.content old) (block_at (g.content old) block) from bytes after_own
      (record { step = step; next = next })
  own_found from bytes step next stepped content goes_on = record {
    step = subst (λ (R : List ℕ). IsLeafStep (g.content old) R from step) spelled_here
        (subst (λ (image : Image). IsLeafStep image (root_spelling root) from step) reads.content stepped);
    content = subst (λ (image : Image). IfSome step.found (λ s. bytes ≡ block_at image s.held.block)) reads.content content;
    next = goes_on;
  }

  pub own_holds : (any : Bool) → HoldsAny (g.content mid) (root_spelling root) any
      → HoldsAny (g.content old) (block_at (g.content old) block) any
  own_holds any holds =
      subst (λ (R : List ℕ). HoldsAny (g.content old) R any) spelled_here
      (subst (λ (image : Image). HoldsAny image (root_spelling root) any) reads.content holds)
