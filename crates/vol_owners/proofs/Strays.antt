-- Blocks of objects that are gone.
use Rattle.std.proofs.Common.{◌≡◌, inl, inr, ℕ, ◌≤◌, length, Bool, true, false, not, ◌&&◌, Option, refl, ap, subst, arith}
use Rattle.vol_owners.proofs.Words.{ChangesOnly, Graph, Image, IsOfThese, IsSwept, MapEntry, and_from, and_parts, both_ways, entry_in, false_from_ne_true, has_block, is_made, is_placed, is_stray, is_taken, not-true, not_from_false, owner_of, stray_blocks}
use Rattle.vol_owners.proofs.Entries.{free_unplaced}
use Rattle.vol_owners.proofs.Sums.{ones_le}

abbrev stray_parts : Graph → Option MapEntry → Type 0
stray_parts g entry = (is_placed is_taken entry ≡ true) × (is_made entry ≡ false) × (has_block g.objects (owner_of entry) ≡ false)

parts_of : (g : Graph) (entry : Option MapEntry) → is_stray g entry ≡ true → stray_parts g entry
parts_of g entry stray =
    let one = and_parts (is_placed is_taken entry) (not (is_made entry) && not (has_block g.objects (owner_of entry))) stray in
    let two = and_parts (not (is_made entry)) (not (has_block g.objects (owner_of entry))) one.1 in
    (one.0, not-true _ two.0, not-true _ two.1)

-- A step in which what passes the test is made, or of an object that is there, adds no stray.
module _ (T : Option MapEntry → Bool) (a b : Image) (g h : Graph) (changes : ChangesOnly T a b) (these : IsOfThese T g h) where
  pub stray_was : (n : ℕ) → is_stray h (entry_in b n) ≡ true → (entry_in b n ≡ entry_in a n) × (is_stray g (entry_in a n) ≡ true)
  stray_was n stray =
      let p = parts_of h (entry_in b n) stray in
      elim (changes.entries n) [
        | inl same ↦ (
          same,
          subst (λ (e : Option MapEntry). is_stray g e ≡ true) same
              (and_from _ _ p.0 (and_from _ _ (not_from_false _ p.1) (not_from_false _ (false_from_ne_true _ (λ held. both_ways _ p.2 (these.more (owner_of (entry_in b n)) held)))))),
        )
        | inr both ↦ elim both.1 [
          | inl free ↦ absurd (both_ways _ (free_unplaced is_taken refl (entry_in b n) free) p.0)
          | inr two ↦ absurd (both_ways _ p.2 (these.there (entry_in b n) two.1 p.1))
        ]
      ]

  was_stray : (n : ℕ) → is_stray h (entry_in b n) ≡ true → is_stray g (entry_in a n) ≡ true
  was_stray n stray = (stray_was n stray).1

  pub strays_stay : stray_blocks b h (length b) ≤ stray_blocks a g (length a)
  strays_stay = omega (arith, ones_le (λ n. is_stray h (entry_in b n)) (λ n. is_stray g (entry_in a n)) 0 (length b) was_stray, ap (λ (n : ℕ). stray_blocks a g n) changes.size)

  pub stays_swept : IsSwept a g → IsSwept b h
  stays_swept swept = record { none = λ n. false_from_ne_true _ (λ stray. both_ways _ (swept.none n) (was_stray n stray)) }
