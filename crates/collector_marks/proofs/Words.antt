-- Bits that stand in words.
use Rattle.std.proofs.Common.{◌≡◌, ℕ, ◌*◌, ◌/◌, ◌%◌, ◌^◌, ◌<◌, ◌≤◌, ◌==◌, true, false, List, get_or, length, set, inl, inr, sym, ◌∙◌, ap, arith, w64}
use Rattle.std.specs.Prelude.{bit_or, replicate}
use Rattle.std.specs.Int.{bit_at}
use Rattle.std.proofs.lemmas.Bool.{cases_eq, cases_lt}
use Rattle.std.proofs.lemmas.List.{ext_get_or, get_or_past, get_or-replicate, get_or-set_other, get_or-set_same, length-replicate, length-set}
use Rattle.std.proofs.lemmas.List.FromFn.{get_or-map-range_with_len, length-map-range_with_len}
use Rattle.std.proofs.lemmas.Nat.Bits.{bit_at-zero, bit_at_set_other, bit_at_set_same}
use Rattle.collector_marks.specs.Bits.{bit_in, bits_of}

pub length-bits : (count : ℕ) (words : List ℕ) → length (bits_of count words) ≡ count
length-bits count words = length-map-range_with_len (bit_in words) 0 count

pub bit_there : (count : ℕ) (words : List ℕ) (n : ℕ) → n < count → get_or (bits_of count words) n false ≡ bit_in words n
bit_there count words n below = get_or-map-range_with_len (bit_in words) 0 count n n false below (omega arith)

pub bit_past : (count : ℕ) (words : List ℕ) (n : ℕ) → count ≤ n → get_or (bits_of count words) n false ≡ false
bit_past count words n past = get_or_past (bits_of count words) n false (omega (arith, length-bits count words, past))

-- in words that are 0 no bit is set
pub none_set : (count : ℕ) (words : List ℕ) → ((k : ℕ) → get_or words k 0 ≡ 0) → bits_of count words ≡ replicate count false
none_set count words zero = ext_get_or false (bits_of count words) (replicate count false)
    (length-bits count words ∙ sym (length-replicate count false))
    (λ n less. let below : n < count = omega (arith, less, length-bits count words) in
    bit_there count words n below
    ∙ ap (λ (word : ℕ). bit_at word (n % 64) == 1) (zero (n / 64)) ∙ ap (λ (bit : ℕ). bit == 1) (bit_at-zero (n % 64))
    ∙ sym (get_or-replicate count n false false below))

-- a word with one more bit
abbrev pub with_bit : List ℕ → ℕ → List ℕ
with_bit words at = set words (at / 64) (bit_or (get_or words (at / 64) 0) (1 * 2 ^ (at % 64) % 2 ^ 64))

module _ (words : List ℕ) (at : ℕ) (there : at / 64 < length words) where
  set_bit : bit_in (with_bit words at) at ≡ true
  set_bit = ap (λ (word : ℕ). bit_at word (at % 64) == 1) (get_or-set_same words (at / 64) _ 0 there)
      ∙ ap (λ (bit : ℕ). bit == 1) (bit_at_set_same w64 (get_or words (at / 64) 0) (at % 64) (omega arith))

  other_bit : (n : ℕ) → ¬ (n ≡ at) → bit_in (with_bit words at) n ≡ bit_in words n
  other_bit n other = elim (cases_eq (n / 64) (at / 64)) [
    | inl same ↦ ap (λ (k : ℕ). bit_at (get_or (with_bit words at) k 0) (n % 64) == 1) same
        ∙ ap (λ (word : ℕ). bit_at word (n % 64) == 1) (get_or-set_same words (at / 64) _ 0 there)
        ∙ ap (λ (bit : ℕ). bit == 1) (bit_at_set_other w64 (get_or words (at / 64) 0) (at % 64) (omega arith) (n % 64) (λ is. other (omega (arith, same, is))))
        ∙ ap (λ (k : ℕ). bit_at (get_or words k 0) (n % 64) == 1) (sym same)
    | inr apart ↦ ap (λ (word : ℕ). bit_at word (n % 64) == 1) (get_or-set_other words (at / 64) (n / 64) _ 0 apart)
  ]

  -- one bit is set
  pub one_set : (count : ℕ) → at < count → bits_of count (with_bit words at) ≡ set (bits_of count words) at true
  one_set count below = ext_get_or false (bits_of count (with_bit words at)) (set (bits_of count words) at true)
      (length-bits count (with_bit words at) ∙ sym (length-bits count words) ∙ sym (length-set (bits_of count words) at true))
      (λ n less. let inside : n < count = omega (arith, less, length-bits count (with_bit words at)) in
      bit_there count (with_bit words at) n inside ∙ elim (cases_eq n at) [
        | inl same ↦ ap (bit_in (with_bit words at)) same ∙ set_bit
            ∙ sym (ap (λ (k : ℕ). get_or (set (bits_of count words) at true) k false) same ∙ get_or-set_same (bits_of count words) at true false (omega (arith, below, length-bits count words)))
        | inr other ↦ other_bit n other ∙ sym (bit_there count words n inside) ∙ sym (get_or-set_other (bits_of count words) at n true false other)
      ])

pub zeros : (count k : ℕ) → bits_of count (replicate k 0) ≡ replicate count false
zeros count k = none_set count (replicate k 0) (λ n. elim (cases_lt n k) [
  | inl below ↦ get_or-replicate k n 0 0 below
  | inr past ↦ get_or_past (replicate k 0) n 0 (omega (arith, length-replicate {A = ℕ} k 0, past))
])
