-- The bytes of a row, and its name.
use Rattle.std.proofs.Common.{◌≡◌, ◌≢◌, ℕ, zero, suc, ◌+◌, ◌-◌, ◌*◌, ◌<◌, ◌≤◌, Bool, true, false, Option, Some, None, List, [], ◌∷◌, ◌++◌, length, take, drop, replicate, get_or, refl, sym, ◌∙◌, ap, subst, inl, inr, arith, ◌&&◌, ◌==◌, length-append}
use Rattle.std.specs.Prelude.{MatchOption, nat_lt, nat_le}
use Rattle.std.specs.List.{list_all}
use Rattle.std.specs.Str.{bytes_eq}
use Rattle.std.proofs.lemmas.Bool.{and_parts, and_from, cases_lt, eqb-true}
use Rattle.std.proofs.lemmas.Bool.Decides.{nat_tests}
use Rattle.std.proofs.lemmas.List.{append_assoc, drop-drop, drop-take, drop_at, length-drop, length-replicate, length-take-le, take-append-drop, take_all, take_at}
use Rattle.std.proofs.lemmas.Slice.{between-put_mid, drop-put_mid, take-put_mid_below}
use Rattle.std.proofs.lemmas.Slice.Eq.{bytes_eq-Decides}
use borrow.Rule.Slice.PartMut.{put_mid}
use Rattle.ufs_model.specs.Object.{written}
use Rattle.ufs_model.specs.declared.object.File.{File}
use Rattle.name_dirs.specs.Directory.{row_at}
use Rattle.name_dirs.specs.Text.{is_name_byte, is_row, is_text, letters_in, longest_name, name_in, name_or_none, row_size, spelled}

-- a test that can't hold
pub unless : (b : Bool) → (b ≡ true → ⊥) → b ≡ false
unless true never = absurd (never refl)
unless false never = refl

-- a test that tells whether two lists are one
pub eq_is : (xs ys : List ℕ) (b : Bool) → (b ≡ true → xs ≡ ys) → (xs ≡ ys → b ≡ true) → bytes_eq xs ys ≡ b
eq_is xs ys true same back = (bytes_eq-Decides xs ys).1 (same refl)
eq_is xs ys false same back = off (bytes_eq xs ys) refl
  where
    off : (b : Bool) → bytes_eq xs ys ≡ b → b ≡ false
    off true is = sym (back ((bytes_eq-Decides xs ys).0 is))
    off false is = refl

pub differ : (xs ys : List ℕ) → xs ≢ ys → bytes_eq xs ys ≡ false
differ xs ys other = eq_is xs ys false (λ h. cc h) (λ same. absurd (other same))

-- ---- names

pub record TextParts (w : List ℕ) : Type 0 where
  pub some : 1 ≤ length w
  pub few : length w ≤ 63
  pub bytes : list_all is_name_byte w ≡ true

pub text_parts : (w : List ℕ) → is_text w ≡ true → TextParts w
text_parts w is =
    let last = and_parts (nat_lt 0 (length w) && nat_le (length w) longest_name) (list_all is_name_byte w) is in
    let first = and_parts (nat_lt 0 (length w)) (nat_le (length w) longest_name) last.0 in
    record { some = grind (arith, nat_tests, first.0); few = grind (arith, nat_tests, first.1); bytes = last.1 }

pub text_whole : (w : List ℕ) → TextParts w → is_text w ≡ true
text_whole w p =
    let some : nat_lt 0 (length w) ≡ true = let h = p.some in grind (arith, nat_tests) in
    let few : nat_le (length w) longest_name ≡ true = let h = p.few in grind (arith, nat_tests) in
    and_from _ _ (and_from _ _ some few) p.bytes

-- ---- the row of a name

pub letters_spelled : (w : List ℕ) → letters_in (spelled w) ≡ w
letters_spelled w = take_at w (replicate (longest_name - length w) 0) (length w) refl

pub length_spelled : (w : List ℕ) → length w ≤ 63 → length (spelled w) ≡ 64
length_spelled w few = omega (arith, few, length-append w (replicate (63 - length w) 0), length-replicate {A = ℕ} (63 - length w) 0)

pub name_spelled : (w : List ℕ) → 1 ≤ length w → name_in (spelled w) ≡ Some w
name_spelled [] some = absurd (omega (arith, some))
name_spelled (c ∷ w) some = ap name_or_none (letters_spelled (c ∷ w))

pub row_spelled : (w : List ℕ) → list_all is_name_byte w ≡ true → is_row (spelled w) ≡ true
row_spelled w bytes =
    and_from (bytes_eq (spelled w) (spelled (letters_in (spelled w)))) _ ((bytes_eq-Decides (spelled w) (spelled (letters_in (spelled w)))).1 (ap spelled (sym (letters_spelled w))))
    (ap (list_all is_name_byte) (letters_spelled w) ∙ bytes)

letters_of : (letters v : List ℕ) → name_or_none letters ≡ Some v → letters ≡ v
letters_of [] v is = cc is
letters_of (c ∷ letters) v is = cc is

no_letters : (letters : List ℕ) → name_or_none letters ≡ None → letters ≡ []
no_letters [] is = refl
no_letters (c ∷ letters) is = cc is

-- a row is the spelling of its letters
row_is : (row : List ℕ) → is_row row ≡ true → row ≡ spelled (letters_in row)
row_is row is = (bytes_eq-Decides row (spelled (letters_in row))).0 (and_parts (bytes_eq row (spelled (letters_in row))) _ is).0

-- so one with a name is its spelling, and one without has zeros
pub named_row : (row v : List ℕ) → is_row row ≡ true → name_in row ≡ Some v → row ≡ spelled v
named_row row v is named = row_is row is ∙ ap spelled (letters_of (letters_in row) v named)

pub nameless_row : (row : List ℕ) → is_row row ≡ true → name_in row ≡ None → row ≡ spelled []
nameless_row row is named = row_is row is ∙ ap spelled (no_letters (letters_in row) named)

-- its letters are a name, or none
letters_text : (row : List ℕ) → length row ≡ 64 → is_row row ≡ true → 1 ≤ length (letters_in row) → is_text (letters_in row) ≡ true
letters_text row size is some =
    let letters = letters_in row in
    let long : length (letters ++ replicate (63 - length letters) 0) ≡ 63 = omega (arith, size, ap (λ (l : List ℕ). length l) (row_is row is)) in
    text_whole letters (record {
      some = some;
      few = omega (arith, long, length-append letters (replicate (63 - length letters) 0), length-replicate {A = ℕ} (63 - length letters) 0);
      bytes = (and_parts (bytes_eq row (spelled letters)) _ is).1;
    })

-- so is the name of a row
pub text_named : (row v : List ℕ) → length row ≡ 64 → is_row row ≡ true → name_in row ≡ Some v → is_text v ≡ true
text_named row v size is named = subst (λ (l : List ℕ). is_text l ≡ true) (letters_of (letters_in row) v named) (letters_text row size is (some (letters_in row) named))
  where
    some : (letters : List ℕ) → name_or_none letters ≡ Some v → 1 ≤ length letters
    some [] none = cc none
    some (c ∷ letters) is = omega arith

-- a copy of them is the name
pub copied_name : (row : List ℕ) (text : Option (List ℕ)) → length row ≡ 64 → is_row row ≡ true → MatchOption text (is_text (letters_in row) ≡ false) (λ t. (is_text (letters_in row) ≡ true) × (t ≡ letters_in row)) → text ≡ name_in row
copied_name row text size is told = by text (letters_in row) (letters_text row size is) told
  where
    by : (text : Option (List ℕ)) (letters : List ℕ) → (1 ≤ length letters → is_text letters ≡ true) → MatchOption text (is_text letters ≡ false) (λ t. (is_text letters ≡ true) × (t ≡ letters)) → text ≡ name_or_none letters
    by None [] texts told = refl
    by None (c ∷ letters) texts told = let both : true ≡ false = sym (texts (omega arith)) ∙ told in cc both
    by (Some t) [] texts told = cc told.0
    by (Some t) (c ∷ letters) texts told = ap Some told.1

-- ---- the letters that are read

abbrev pub are_zero : List ℕ → Bool
are_zero bytes = list_all (λ byte. byte == 0) bytes

zeros_are : (n : ℕ) → are_zero (replicate n 0) ≡ true
zeros_are zero = refl
zeros_are (suc n) = zeros_are n

are_zeros : (bytes : List ℕ) → are_zero bytes ≡ true → bytes ≡ replicate (length bytes) 0
are_zeros [] all = refl
are_zeros (b ∷ bytes) all =
    let two = and_parts (b == 0) (are_zero bytes) all in
    ap (λ (x : ℕ). x ∷ bytes) (eqb-true b 0 two.0) ∙ ap (λ l. 0 ∷ l) (are_zeros bytes two.1)

module _ (n : ℕ) (bytes : List ℕ) (size : length bytes ≡ 63) where
  few_letters : n ≤ 63 → length (take n bytes) ≡ n
  few_letters few = length-take-le n bytes (omega arith)

  same : n ≤ 63 → are_zero (drop n bytes) ≡ true → n ∷ bytes ≡ spelled (take n bytes)
  same few all =
      let long = few_letters few in
      let left : length (drop n bytes) ≡ 63 - length (take n bytes) = omega (arith, long, length-drop n bytes) in
      ap (λ (l : List ℕ). n ∷ l) (sym (take-append-drop n bytes) ∙ ap (λ l. take n bytes ++ l) (are_zeros (drop n bytes) all ∙ ap (λ (m : ℕ). replicate m 0) left))
      ∙ ap (λ (m : ℕ). m ∷ take n bytes ++ replicate (63 - length (take n bytes)) 0) (sym long)

  back : n ≤ 63 → n ∷ bytes ≡ spelled (take n bytes) → are_zero (drop n bytes) ≡ true
  back few is =
      let rest : bytes ≡ take n bytes ++ replicate (63 - length (take n bytes)) 0 = cc is in
      ap are_zero (ap (drop n) rest ∙ drop_at (take n bytes) (replicate (63 - length (take n bytes)) 0) n (few_letters few)) ∙ zeros_are (63 - length (take n bytes))

  pub is_row_by : n ≤ 63 → is_row (n ∷ bytes) ≡ (are_zero (drop n bytes) && list_all is_name_byte (take n bytes))
  is_row_by few = ap (λ b. b && list_all is_name_byte (take n bytes)) (eq_is (n ∷ bytes) (spelled (take n bytes)) (are_zero (drop n bytes)) (same few) (back few))

  -- the length of a name is 63 at most
  pub no_row : 63 < n → is_row (n ∷ bytes) ≡ false
  no_row many = ap (λ b. b && list_all is_name_byte (take n bytes)) (differ (n ∷ bytes) (spelled (take n bytes)) (λ is.
      let long : n ≡ length (take n bytes) = cc is in
      let all = take_all n bytes (omega (arith, many, size)) in
      absurd (omega (arith, long, ap (λ (l : List ℕ). length l) all, many, size))))

-- the bytes past the first, cut where the first says
pub read_row : (row front rest : List ℕ) → length row ≡ 64 → get_or row 0 0 ≤ 63 → front ≡ take (get_or row 0 0) (take (length row - 1) (drop 1 row)) → rest ≡ drop (get_or row 0 0) (take (length row - 1) (drop 1 row))
    → (is_row row ≡ (are_zero rest && list_all is_name_byte front)) × (front ≡ letters_in row)
read_row [] front rest size few is_front is_rest = absurd (omega (arith, size))
read_row (n ∷ bytes) front rest size few is_front is_rest =
    let long : length bytes ≡ 63 = omega (arith, size) in
    let all : take (length (n ∷ bytes) - 1) bytes ≡ bytes = take_all (length (n ∷ bytes) - 1) bytes (omega arith) in
    let one : front ≡ take n bytes = is_front ∙ ap (take n) all in
    let other : rest ≡ drop n bytes = is_rest ∙ ap (drop n) all in
    (is_row_by n bytes long few ∙ ap (λ l. are_zero l && list_all is_name_byte (take n bytes)) (sym other) ∙ ap (λ l. are_zero rest && list_all is_name_byte l) (sym one), one)

-- ---- the rows of a table, of which one is written anew

module _ (b e : List ℕ) (o : ℕ) (size : length e ≡ 64) (within : o + 64 ≤ length b) where
  abbrev put : List ℕ
  put = take o b ++ e ++ drop (o + length e) b

  as_mid : put ≡ put_mid o 64 b e
  as_mid = append_assoc (take o b) e (drop (o + length e) b) ∙ ap (λ (n : ℕ). take o b ++ (e ++ drop (o + n) b)) size ∙ ap (λ (l : List ℕ). take o b ++ (e ++ l)) (sym (drop-drop 64 o b))

  below : (n : ℕ) → n + 64 ≤ o → take 64 (drop n put) ≡ take 64 (drop n b)
  below n before =
      sym (drop-take n 64 put) ∙ ap (λ l. drop n (take (n + 64) l)) as_mid
      ∙ ap (drop n) (take-put_mid_below o 64 b e (n + 64) before (omega (arith, within))) ∙ drop-take n 64 b

  above : (n : ℕ) → o + 64 ≤ n → take 64 (drop n put) ≡ take 64 (drop n b)
  above n after = ap (λ l. take 64 (drop n l)) as_mid ∙ ap (take 64) (drop-put_mid o 64 b e n after (omega (arith, within)) size)

  here : take 64 (drop o put) ≡ e
  here = ap (λ l. take 64 (drop o l)) as_mid
      ∙ (let n : 64 ≡ o + 64 - o = omega arith in ap (λ (m : ℕ). take m (drop o (put_mid o 64 b e))) n) ∙ between-put_mid o 64 b e (o + 64) (omega (arith, within)) (size ∙ omega arith)

module _ (f : File) (row : List ℕ) (k : ℕ) (size : length row ≡ 64) (within : row_size * k + row_size ≤ length f.bytes) where
  pub written_here : row_at (written f (row_size * k) row).bytes k ≡ row
  written_here = here f.bytes row (64 * k) size within

  pub written_other : (j : ℕ) → j ≢ k → row_at (written f (row_size * k) row).bytes j ≡ row_at f.bytes j
  written_other j other = elim (cases_lt j k) [
    | inl less ↦ below f.bytes row (64 * k) size within (64 * j) (omega (arith, less))
    | inr more ↦ above f.bytes row (64 * k) size within (64 * j) (let far : k < j = strictly more in omega (arith, far))
  ]
    where
      strictly : k ≤ j → k < j
      strictly le = elim (cases_lt k j) [ inl less ↦ less | inr more ↦ absurd (other (omega (arith, le, more))) ]

  pub written_length : length (written f (row_size * k) row).bytes ≡ length f.bytes
  written_length =
      length-append (take (64 * k) f.bytes ++ row) (drop (64 * k + length row) f.bytes)
      ∙ omega (arith, within, size, length-append (take (64 * k) f.bytes) row, length-take-le (64 * k) f.bytes (omega (arith, within)), length-drop (64 * k + length row) f.bytes)
