-- What is noted of one block: its faults are marked, and the root blocks that it names are found.
use Rattle.std.proofs.Common.{◌≡◌, ◌≢◌, ◌⊎◌, inl, inr, ℕ, ◌+◌, ◌*◌, ◌<◌, ◌≤◌, Bool, true, false, ◌==◌, ◌||◌, List, [], ◌∷◌, ◌++◌, length, Some, refl, sym, ◌∙◌, ap, subst, arith, append_assoc, append-nil}
use Rattle.std.proofs.lemmas.Bool.{cases_lt, eq-eqb, eqb-true, or_cases, or_left, or_right}
use Rattle.cfs_base.specs.Disk.{Image}
use Rattle.cfs_base.specs.declared.identifier.Puid.{Puid}
use Rattle.ufs_model.specs.Numbers.{has_number}
use Rattle.vol_image.specs.Reading.{slot_in}
use Rattle.cfs_check.specs.Findings.{IsNamedBy, IsNamedInSlot, IsToldBy}
use Rattle.cfs_check.specs.Marks.{AddsMarks, IsToldOf}
use Rattle.cfs_check.specs.Roots.{AddsRoots, Found, with_root_block}
use Rattle.cfs_check.specs.Twigs.{Extent}
use Rattle.cfs_check.specs.declared.findings.Findings.{Findings}
use Rattle.cfs_check.proofs.Listed.{has_push}
use Rattle.cfs_check.proofs.Marked.{adds_as, adds_then}

-- ---- faults

pub retold : (P : ℕ → ℕ → Type 0) (told : Bool) (code block c n : ℕ) → IsToldOf told code block c n → P code block → P c n
retold P told code block c n is holds = subst (λ (m : ℕ). P c m) (sym is.block_is) (subst (λ (k : ℕ). P k block) (sym is.code_is) holds)

abbrev FiveTold : Findings → ℕ → ℕ → ℕ → Type 0
FiveTold f b c n = (((IsToldOf f.not_owned 5 b c n ⊎ IsToldOf f.names_nothing 6 b c n) ⊎ IsToldOf f.late_leaf 8 b c n) ⊎ IsToldOf f.late_byte 9 b c n) ⊎ IsToldOf f.dead_end 10 b c n

to_told : (f : Findings) (b c n : ℕ) → FiveTold f b c n → IsToldBy f b c n
to_told f b c n (inl (inl (inl (inl t)))) = retold (IsToldBy f b) _ 5 b c n t (IsToldBy.NotOwned t.is_told)
to_told f b c n (inl (inl (inl (inr t)))) = retold (IsToldBy f b) _ 6 b c n t (IsToldBy.BadName t.is_told)
to_told f b c n (inl (inl (inr t))) = retold (IsToldBy f b) _ 8 b c n t (IsToldBy.LateLeaf t.is_told)
to_told f b c n (inl (inr t)) = retold (IsToldBy f b) _ 9 b c n t (IsToldBy.LateByte t.is_told)
to_told f b c n (inr t) = retold (IsToldBy f b) _ 10 b c n t (IsToldBy.DeadEnd t.is_told)

one : (told : Bool) (code block : ℕ) → told ≡ true → IsToldOf told code block code block
one told code block is = record { is_told = is; code_is = refl; block_is = refl }

from_told : (f : Findings) (b c n : ℕ) → IsToldBy f b c n → FiveTold f b c n
from_told f b c n (IsToldBy.NotOwned t) = inl (inl (inl (inl (one f.not_owned 5 b t))))
from_told f b c n (IsToldBy.BadName t) = inl (inl (inl (inr (one f.names_nothing 6 b t))))
from_told f b c n (IsToldBy.LateLeaf t) = inl (inl (inr (one f.late_leaf 8 b t)))
from_told f b c n (IsToldBy.LateByte t) = inl (inr (one f.late_byte 9 b t))
from_told f b c n (IsToldBy.DeadEnd t) = inr (one f.dead_end 10 b t)

pub five_told : (f : Findings) (b : ℕ) (m0 m1 m2 m3 m4 m5 : List Bool) → AddsMarks (IsToldOf f.not_owned 5 b) m0 m1 → AddsMarks (IsToldOf f.names_nothing 6 b) m1 m2 → AddsMarks (IsToldOf f.late_leaf 8 b) m2 m3
    → AddsMarks (IsToldOf f.late_byte 9 b) m3 m4 → AddsMarks (IsToldOf f.dead_end 10 b) m4 m5 → AddsMarks (IsToldBy f b) m0 m5
five_told f b m0 m1 m2 m3 m4 m5 a1 a2 a3 a4 a5 =
    adds_as (FiveTold f b) (IsToldBy f b) m0 m5 (adds_then _ _ m0 m4 m5 (adds_then _ _ m0 m3 m4 (adds_then _ _ m0 m2 m3 (adds_then _ _ m0 m1 m2 a1 a2) a3) a4) a5) (to_told f b) (from_told f b)

-- ---- root blocks

pub has_more : (xs ys : List ℕ) (m : ℕ) → has_number m xs ≡ true → has_number m (xs ++ ys) ≡ true
has_more [] ys m none = cc
has_more (x ∷ xs) ys m has = elim (or_cases (x == m) (has_number m xs) has) [ inl here ↦ or_left (x == m) _ here | inr rest ↦ or_right (x == m) _ (has_more xs ys m rest) ]

pub roots_none : (P : ℕ → Type 0) (roots : Found) → ((n : ℕ) → P n → has_number n roots.blocks ≡ true) → AddsRoots P roots roots
roots_none P roots known = record { room = refl; more = []; is = sym (append-nil roots.blocks); added = known; only = λ n is. inl is }

pub roots_one : (P : ℕ → Type 0) (old new : Found) (b : ℕ) → new ≡ record old { blocks = with_root_block old.blocks b (has_number b old.blocks) } → P b → ((n : ℕ) → P n → n ≡ b) → AddsRoots P old new
roots_one P old new b is its only = subst (AddsRoots P old) (sym is) (at (has_number b old.blocks) refl)
  where
    at : (there : Bool) → has_number b old.blocks ≡ there → AddsRoots P old (record old { blocks = with_root_block old.blocks b there })
    at true has = roots_none P old (λ n p. ap (λ (m : ℕ). has_number m old.blocks) (only n p) ∙ has)
    at false has = record {
      room = refl;
      more = b ∷ [];
      is = refl;
      added = λ n p. ap (λ (m : ℕ). has_number m (old.blocks ++ b ∷ [])) (only n p) ∙ has_push old.blocks b b ∙ or_right (has_number b old.blocks) _ (or_left (b == b) false (eq-eqb b b refl));
      only = λ n is_in. elim (or_cases (has_number n old.blocks) _ (sym (has_push old.blocks b n) ∙ is_in)) [
        | inl was ↦ inl was
        | inr now ↦ elim (or_cases (b == n) false now) [ inl same ↦ inr (subst P (eqb-true b n same) its) | inr never ↦ cc ]
      ];
    }

pub roots_then : (P Q : ℕ → Type 0) (a b c : Found) → AddsRoots P a b → AddsRoots Q b c → AddsRoots (λ n. P n ⊎ Q n) a c
roots_then P Q a b c first second = record {
  room = second.room ∙ first.room;
  more = first.more ++ second.more;
  is = second.is ∙ ap (λ (ns : List ℕ). ns ++ second.more) first.is ∙ append_assoc a.blocks first.more second.more;
  added = λ n is. elim is [ inl p ↦ kept n (first.added n p) | inr q ↦ second.added n q ];
  only = λ n is. elim (second.only n is) [
    | inl before ↦ elim (first.only n before) [ inl was ↦ inl was | inr p ↦ inr (inl p) ]
    | inr q ↦ inr (inr q)
  ];
}
  where
    kept : (n : ℕ) → has_number n b.blocks ≡ true → has_number n c.blocks ≡ true
    kept n has = ap (has_number n) second.is ∙ has_more b.blocks second.more n has

pub roots_as : (P Q : ℕ → Type 0) (a b : Found) → AddsRoots P a b → ((n : ℕ) → P n → Q n) → ((n : ℕ) → Q n → P n) → AddsRoots Q a b
roots_as P Q a b adds to from = record { room = adds.room; more = adds.more; is = adds.is; added = λ n q. adds.added n (from n q); only = λ n is. elim (adds.only n is) [ inl was ↦ inl was | inr p ↦ inr (to n p) ] }

-- ---- those that the slots of a leaf name

module _ (image : Image) (extent : Extent) (leaf : ℕ) (content : List ℕ) where
  pub none_named : (n : ℕ) → ¬ IsNamedBy image extent leaf content 0 n
  none_named n is = omega (arith, is.before)

  module _ (s : ℕ) (old mid new : Found) (before : AddsRoots (IsNamedBy image extent leaf content s) old mid) where
    pub named_more : s < 64 → 512 * leaf + 8 * s < extent.size → AddsRoots (IsNamedInSlot image content s) mid new → AddsRoots (IsNamedBy image extent leaf content (s + 1)) old new
    named_more small within at = roots_as _ _ old new (roots_then _ _ old mid new before at)
        (λ n is. elim is [
          | inl was ↦ record { slot = was.slot; id = was.id; before = omega (arith, was.before); has = was.has; names = was.names; is = was.is }
          | inr now ↦ record { slot = s; id = now.id; before = omega arith; has = record { small = small; within = within; is = now.has }; names = now.names; is = now.is }
        ])
        (λ n is. elim (cases_lt is.slot s) [
          | inl less ↦ inl (record { slot = is.slot; id = is.id; before = less; has = is.has; names = is.names; is = is.is })
          | inr past ↦ inr (record { id = is.id; has = same_slot is.slot past is.before is.id is.has.is; names = is.names; is = is.is })
        ])
      where
        same_slot : (t : ℕ) → s ≤ t → t < s + 1 → (x : Puid) → slot_in content t ≡ Some x → slot_in content s ≡ Some x
        same_slot t from below x is = let same : s ≡ t = omega arith in ap (slot_in content) same ∙ is
