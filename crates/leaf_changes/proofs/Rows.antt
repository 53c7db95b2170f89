-- Lists made of numbers in a row, and lists of pieces of one length.
use Rattle.std.proofs.Common.{◌≡◌, ℕ, zero, suc, ◌+◌, ◌-◌, ◌*◌, ◌/◌, ◌%◌, ◌<◌, List, length, get_or, map, refl, sym, ◌∙◌, ap, arith, inl, inr}
use Rattle.leaf_changes.proofs.Words.{cases_lt, flat_map, get_or-append_right, get_or-map-range_with_len, get_or_append_left, length-append, length-map-range_with_len, range_with_len}

pub length-made : {A : Type 0} (f : ℕ → A) (n : ℕ) → length (map f (range_with_len 0 n)) ≡ n
length-made f n = length-map-range_with_len f 0 n

pub get_or-made : {A : Type 0} (f : ℕ → A) (n k : ℕ) (d : A) → k < n → get_or (map f (range_with_len 0 n)) k d ≡ f k
get_or-made f n k d below = get_or-map-range_with_len f 0 n k k d below (omega arith)

-- ---- pieces of 512 bytes

module _ (f : ℕ → List ℕ) (wide : (n : ℕ) → length (f n) ≡ 512) where
  length_from : (a n : ℕ) → length (flat_map f (range_with_len a n)) ≡ 512 * n
  length_from a zero = refl
  length_from a (suc n) = omega (arith, length-append (f a) (flat_map f (range_with_len (a + 1) n)), wide a, length_from (a + 1) n)

  byte_from : (a n k : ℕ) → k < 512 * n → get_or (flat_map f (range_with_len a n)) k 0 ≡ get_or (f (a + k / 512)) (k % 512) 0
  byte_from a zero k below = absurd (omega arith)
  byte_from a (suc n) k below = elim (cases_lt k 512) [
    | inl first ↦
        let here : a + k / 512 ≡ a = omega arith in
        let same : k % 512 ≡ k = omega arith in
        get_or_append_left (f a) (flat_map f (range_with_len (a + 1) n)) 0 k (omega (arith, wide a)) ∙ λ i. get_or (f (sym here i)) (sym same i) 0
    | inr later ↦
        let next : a + 1 + (k - 512) / 512 ≡ a + k / 512 = omega arith in
        let same : (k - 512) % 512 ≡ k % 512 = omega arith in
        get_or-append_right (f a) (flat_map f (range_with_len (a + 1) n)) 512 k 0 (wide a) later
        ∙ byte_from (a + 1) n (k - 512) (omega arith) ∙ λ i. get_or (f (next i)) (same i) 0
  ]

  pub length-pieces : (n : ℕ) → length (flat_map f (range_with_len 0 n)) ≡ 512 * n
  length-pieces n = length_from 0 n

  pub byte-pieces : (n k : ℕ) → k < 512 * n → get_or (flat_map f (range_with_len 0 n)) k 0 ≡ get_or (f (k / 512)) (k % 512) 0
  byte-pieces n k below = byte_from 0 n k below ∙ ap (λ (m : ℕ). get_or (f m) (k % 512) 0) (omega arith)
