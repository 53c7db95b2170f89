-- What single words say.
use Rattle.std.proofs.Common.{◌≡◌, ℕ, ◌<◌, ◌^◌, Bool, true, List, [], ◌∷◌, length, get_or, take, drop, refl, sym, ap, ◌∙◌, arith, Ok}
use Rattle.std.specs.Prelude.{◌&&◌}
use Rattle.std.proofs.lemmas.Bool.{le-ltb, and_right}
use Rattle.std.proofs.lemmas.List.{drop_all, drop_more}
use Rattle.std.proofs.lemmas.List.Sums.{list_all-from_AllPass}
use Rattle.std.proofs.lemmas.Str.Parse.{IsNumeralModel, numerals_by_value, tells_all_ascii_digits}
use Rattle.std.specs.List.{list_all}
use Rattle.std.specs.Char.{is_ascii_digit}
use Rattle.std.specs.Str.{all_ascii_digits}
use Rattle.std.specs.Str.Parse.{digits_value}
use Rattle.std.specs.Int.{w32, from_be_bytes}
use Rattle.hex.specs.Hex.{decode_sized, is_hex_digit}
use Rattle.hex.proofs.HexLemmas.{IsOk-decode_sized, decode_of-ok, decode_sized-twice}
use Rattle.ufs_model.specs.Spoken.{Is, Bad, number_in, byte_in, digits_in}

-- digits are the digits of `parse`
pub own : IsNumeralModel (λ ds. all_ascii_digits ds ≡ true) (digits_value 10)
own = numerals_by_value (λ ds. all_ascii_digits ds ≡ true) tells_all_ascii_digits

pub all_ascii_digits-list_all : (word : List ℕ) → list_all is_ascii_digit word ≡ true → all_ascii_digits word ≡ true
all_ascii_digits-list_all word h = same word ∙ h
  where
    same : (word : List ℕ) → all_ascii_digits word ≡ list_all is_ascii_digit word
    same [] = refl
    same (c ∷ cs) = ap (λ (b : Bool). is_ascii_digit c && b) (same cs)

-- a number that is too large is none
pub number_in-large : (word : List ℕ) → (digits_value 10 word < 2 ^ 64 → ⊥) → number_in word ≡ Bad
number_in-large word h = rw (and_right _ _ (le-ltb (digits_value 10 word) (2 ^ 64) (omega (arith, h)))) refl

-- a list of 8, item by item
pub eight : (bytes : List ℕ) → length bytes ≡ 8
    → bytes ≡ get_or bytes 0 0 ∷ get_or bytes 1 0 ∷ get_or bytes 2 0 ∷ get_or bytes 3 0 ∷ get_or bytes 4 0 ∷ get_or bytes 5 0 ∷ get_or bytes 6 0 ∷ get_or bytes 7 0 ∷ []
eight bytes h =
    let a = drop_more bytes 0 0 (omega arith) in
    let b = drop_more bytes 1 0 (omega arith) in
    let c = drop_more bytes 2 0 (omega arith) in
    let d = drop_more bytes 3 0 (omega arith) in
    let e = drop_more bytes 4 0 (omega arith) in
    let f = drop_more bytes 5 0 (omega arith) in
    let g = drop_more bytes 6 0 (omega arith) in
    let i = drop_more bytes 7 0 (omega arith) in
    let end = drop_all 8 bytes (omega arith) in
    cc

-- what decodes into 8 bytes is an identifier
pub digits_in-decoded : (word bytes : List ℕ) → decode_sized word 8 ≡ Ok bytes
    → digits_in word ≡ Is (record {
      block = from_be_bytes w32 (get_or bytes 0 0 ∷ get_or bytes 1 0 ∷ get_or bytes 2 0 ∷ get_or bytes 3 0 ∷ []);
      word = from_be_bytes w32 (get_or bytes 4 0 ∷ get_or bytes 5 0 ∷ get_or bytes 6 0 ∷ get_or bytes 7 0 ∷ []);
    })
digits_in-decoded word bytes h =
    let digits = (IsOk-decode_sized word 8).0 (rw h refl) in
    let all = list_all-from_AllPass is_hex_digit word digits.1 in
    let long : length word ≡ 16 = digits.0 in
    let half = (decode_of-ok word bytes (sym (decode_sized-twice word 8 long) ∙ h)).2 in
    let pairs = rw long at h in
    rw (long, all, pairs) (ap (λ (b : List ℕ). Is (record { block = from_be_bytes w32 (take 4 b); word = from_be_bytes w32 (drop 4 b) })) (eight bytes (omega arith)))

-- what decodes into one byte is that byte
pub byte_in-decoded : (word bytes : List ℕ) → decode_sized word 1 ≡ Ok bytes → byte_in word ≡ Is (get_or bytes 0 0)
byte_in-decoded word [] h =
    let long : length word ≡ 2 = ((IsOk-decode_sized word 1).0 (rw h refl)).0 in
    let half = (decode_of-ok word [] (sym (decode_sized-twice word 1 long) ∙ h)).2 in
    absurd (omega (arith, long, half))
byte_in-decoded word (b ∷ []) h =
    let long : length word ≡ 2 = ((IsOk-decode_sized word 1).0 (rw h refl)).0 in
    let pairs = rw long at h in
    rw (long, pairs) refl
byte_in-decoded word (b ∷ c ∷ bytes) h =
    let long : length word ≡ 2 = ((IsOk-decode_sized word 1).0 (rw h refl)).0 in
    let half = (decode_of-ok word (b ∷ c ∷ bytes) (sym (decode_sized-twice word 1 long) ∙ h)).2 in
    absurd (omega (arith, long, half))
