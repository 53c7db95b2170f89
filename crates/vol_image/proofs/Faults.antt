-- How an object is read where little is wrong: as in a sound image.
use Rattle.std.proofs.Common.{◌≡◌, ℕ, zero, suc, ◌≤◌, Bool, true, ◌&&◌, ◌==◌, if◌then◌else◌, List, [], ◌∷◌, length, Some, None, Option, refl, sym, ◌∙◌, ap, arith, inl, inr}
use Rattle.vol_image.proofs.Words.{BelongsTo, Image, Place, Puid, Root, filter, filter_map, first_or, has_number, is_among, is_committed, nat_tests, or_cases, or_left, or_right, part_at, range_with_len, same_Some, same_puid, shadows, slice_get, source, entry_in, stands_for}
use Rattle.vol_image.specs.Fault.{has_own_bit, one_or, reader, standing}
use Rattle.vol_image.specs.Part.{EntryPart}
use Rattle.vol_image.proofs.Reached.{same_puid_itself}
use Rattle.std.proofs.lemmas.Bool.{eq-eqb}

-- ---- slots

pub refers_at : (slots : List (Option Puid)) (s : ℕ) (x : Puid) → slice_get slots s ≡ Some (Some x) → is_among x (filter_map (λ slot. slot) slots) ≡ true
refers_at [] s x is = cc
refers_at (None ∷ slots) zero x is = cc
refers_at (Some y ∷ slots) zero x is =
    let same : y ≡ x = same_Some _ _ (same_Some _ _ is) in
    or_left (same_puid x y) (is_among x (filter_map (λ slot. slot) slots)) (ap (same_puid x) same ∙ same_puid_itself x)
refers_at (None ∷ slots) (suc s) x is = refers_at slots s x is
refers_at (Some y ∷ slots) (suc s) x is = or_right (same_puid x y) (is_among x (filter_map (λ slot. slot) slots)) (refers_at slots s x is)

-- ---- shadow roots

pub only_one : (ss : List ℕ) (s r : ℕ) → length ss ≤ 1 → has_number s ss ≡ true → first_or r ss ≡ s
only_one [] s r few has = cc
only_one (m ∷ []) s r few has = elim (or_cases (m == s) _ has) [ inl same ↦ grind (arith, nat_tests) | inr none ↦ cc ]
only_one (m ∷ k ∷ ss) s r few has = absurd (omega arith)

one_of_few : (ss : List ℕ) (r : ℕ) → length ss ≤ 1 → one_or r ss ≡ first_or r ss
one_of_few [] r few = refl
one_of_few (s ∷ []) r few = refl
one_of_few (s ∷ t ∷ ss) r few = absurd (omega arith)

and_true : (b : Bool) → (b && true) ≡ b
and_true true = refl
and_true _ = cc

module _ (image : Image) (r : ℕ) (is : BelongsTo r Root (part_at image r)) where
  pub bit_is : has_own_bit r (part_at image r) ≡ is_committed (part_at image r)
  bit_is =
      ap (has_own_bit r) is.here ∙ ap (λ (b : Bool). is.is.committed && b) (eq-eqb is.is.owner r is.owner_is) ∙ and_true is.is.committed ∙ sym (ap is_committed is.here)

  -- a root that is entered as one is read by the shadow roots that stand
  pub standing_is : standing image r ≡ shadows image r
  unfolding standing shadows
  standing_is = ap (λ (b : Bool). if b then filter (λ n. stands_for r (entry_in image n)) (range_with_len 0 (length image)) else []) bit_is

  pub reader_is : length (shadows image r) ≤ 1 → reader image r ≡ source image r
  reader_is few = ap (one_or r) standing_is ∙ one_of_few (shadows image r) r few
