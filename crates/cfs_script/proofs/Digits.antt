-- Pairs of hexadecimal digits, read without a branch at any: the greatest value tells whether all were digits.
use Rattle.std.proofs.Common.{◌≡◌, inl, inr, ℕ, ◌+◌, ◌*◌, ◌<◌, ◌≤◌, max, List, length, take, drop, slice_index, slice_set, Option, Some, None, Result, Ok, Err, refl, sym, ap, ◌∙◌, arith}
use Rattle.std.specs.Prelude.{IsErr, ltb, unwrap_or}
use Rattle.std.specs.Bool.{MatchBool}
use Rattle.std.proofs.lemmas.Bool.{cases_lt, le-ltb, lt-ltb}
use Rattle.std.proofs.lemmas.Bool.Decides.{nat_tests}
use Rattle.hex.specs.Hex.{decode_of, decode_pairs, hex_digit_value, pair_value}
use Rattle.hex.specs.declared.error.FromHexError.{FromHexError}
use Rattle.hex.specs.declared.error.FromHexError.TheVariants.{InvalidHexCharacter}
use Rattle.hex.proofs.HexLemmas.{decode_of-even}
use Rattle.hex.proofs.Pairs.{decode_done, decode_err, decode_step, prepend}

-- So far the bytes of the pairs were read, or a byte that is no digit was met.
pub record AreRead (most : ℕ) (s out : List ℕ) (i : ℕ) : Type 0 where
  pub good : most < 16 → decode_pairs 0 s ≡ prepend (take i out) (decode_pairs (2 * i) (drop (2 * i) s))
  pub bad : 16 ≤ most → IsErr (decode_pairs 0 s)

-- ---- one pair

small : (c v : ℕ) → hex_digit_value c ≡ Some v → v < 16
small c v is = grind (arith, nat_tests)

is_digit : (o : Option ℕ) → unwrap_or o 16 < 16 → o ≡ Some (unwrap_or o 16)
is_digit None less = absurd (omega (arith, less))
is_digit (Some v) less = refl

pair_ok : (a b h l i : ℕ) → hex_digit_value a ≡ Some h → hex_digit_value b ≡ Some l → pair_value a b i ≡ Ok (h * 16 + l)
pair_ok a b h l i first second = rw (first, second) refl

pair_first : (a b i : ℕ) → hex_digit_value a ≡ None → pair_value a b i ≡ Err (InvalidHexCharacter a i)
pair_first a b i first = rw first refl

pair_second : (a b h i : ℕ) → hex_digit_value a ≡ Some h → hex_digit_value b ≡ None → pair_value a b i ≡ Err (InvalidHexCharacter b (i + 1))
pair_second a b h i first second = rw (first, second) refl

is_err : (r : Result (List ℕ) FromHexError) (e : FromHexError) → r ≡ Err e → IsErr r
is_err r e is = rw is refl

module _ (most h l v : ℕ) (s out : List ℕ) (i : ℕ) (fits : 2 * i + 1 < length s) (room : i < length out) (high : h ≡ unwrap_or (hex_digit_value (slice_index s (2 * i))) 16)
    (low : l ≡ unwrap_or (hex_digit_value (slice_index s (2 * i + 1))) 16) (byte : h < 16 → l < 16 → v ≡ h * 16 + l) (was : AreRead most s out i) where
  digit : (c x : ℕ) → x ≡ unwrap_or (hex_digit_value c) 16 → x < 16 → hex_digit_value c ≡ Some x
  digit c x is less = is_digit (hex_digit_value c) (rw is at less) ∙ ap Some (sym is)

  none : (c x : ℕ) → x ≡ unwrap_or (hex_digit_value c) 16 → 16 ≤ x → hex_digit_value c ≡ None
  none c x is more = by (hex_digit_value c) refl
    where
      by : (o : Option ℕ) → hex_digit_value c ≡ o → hex_digit_value c ≡ None
      by None same = same
      by (Some y) same = let here : x ≡ y = is ∙ ap (λ o. unwrap_or o 16) same in absurd (omega (arith, small c y same, here, more))

  abbrev first : ℕ
  first = slice_index s (2 * i)

  abbrev second : ℕ
  second = slice_index s (2 * i + 1)

  pub read_step : AreRead (max (max most h) l) s (slice_set out i v) (i + 1)
  read_step = record {
    good = λ less.
        let pair = pair_ok first second h l (2 * i) (digit first h high (omega (arith, less))) (digit second l low (omega (arith, less))) in
        decode_step s out i v fits room (pair ∙ ap Ok (sym (byte (omega (arith, less)) (omega (arith, less))))) (was.good (omega (arith, less)));
    bad = λ more. elim (cases_lt most 16) [
      | inr worse ↦ was.bad worse
      | inl fine ↦ elim (cases_lt h 16) [
        | inr over ↦ is_err (decode_pairs 0 s) (InvalidHexCharacter first (2 * i))
            (decode_err s out i (InvalidHexCharacter first (2 * i)) fits (pair_first first second (2 * i) (none first h high over)) (was.good fine))
        | inl right ↦ is_err (decode_pairs 0 s) (InvalidHexCharacter second (2 * i + 1))
            (decode_err s out i (InvalidHexCharacter second (2 * i + 1)) fits
            (pair_second first second h (2 * i) (digit first h high right) (none second l low (omega (arith, more, fine, right)))) (was.good fine))
      ]
    ];
  }

-- all pairs were read
pub read_all : (most : ℕ) (s out : List ℕ) (i : ℕ) → length s ≡ 2 * length out → length out ≤ i → AreRead most s out i
    → MatchBool (ltb most 16) (decode_of s ≡ Ok out) (IsErr (decode_of s))
read_all most s out i twice done was =
    let even : decode_of s ≡ decode_pairs 0 s = decode_of-even s (omega (arith, twice)) in
    elim (cases_lt most 16) [
      | inl less ↦ rw (lt-ltb most 16 less) (even ∙ decode_done s out i done (omega (arith, twice, done)) (was.good less))
      | inr more ↦ rw (le-ltb most 16 more, even) (was.bad more)
    ]
