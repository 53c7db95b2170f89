-- The rows of a table, read one after the other.
use Rattle.std.proofs.Common.{◌≡◌, ℕ, suc, ◌+◌, ◌-◌, ◌*◌, ◌<◌, ◌≤◌, Bool, true, false, Option, Some, None, List, [], ◌∷◌, ◌++◌, length, map, get_or, refl, sym, ◌∙◌, ap, arith, ◌&&◌, ◌||◌, not, inl, inr}
use Rattle.std.specs.List.{list_all, list_any, range_with_len}
use Rattle.std.specs.Str.{bytes_eq}
use Rattle.std.proofs.lemmas.Bool.{and_from, and_parts, cases_lt, or_cases}
use Rattle.std.proofs.lemmas.List.{map-append}
use Rattle.std.proofs.lemmas.List.Folds.{list_all-append, list_any-append}
use Rattle.std.proofs.lemmas.Slice.Eq.{bytes_eq-Decides}
use Rattle.ufs_model.proofs.Rising.{numbers_more}
use Rattle.name_dirs.specs.Directory.{are_rows, row_at, row_names}
use Rattle.name_dirs.specs.Names.{is_called}
use Rattle.name_dirs.specs.Text.{AddsText, are_distinct, has_text, header, is_other, is_row, name_in}
use Rattle.name_dirs.proofs.Entries.{distinct_at, length_map, map_at}
use Rattle.name_dirs.proofs.Rows.{unless}
use Rattle.name_dirs.proofs.Tables.{table_parts, table_whole}

abbrev names_to : List ℕ → ℕ → List (Option (List ℕ))
names_to bytes n = map (λ s. name_in (row_at bytes s)) (range_with_len 1 n)

-- the rows below this place are rows whose names differ, and these are their names
pub record IsScanned (bytes : List ℕ) (names : List (List ℕ)) (place : ℕ) : Type 0 where
  pub rows : (s : ℕ) → 1 ≤ s → s < place → is_row (row_at bytes s) ≡ true
  pub distinct : are_distinct (names_to bytes (place - 1)) ≡ true
  pub has : (w : List ℕ) → has_text w names ≡ list_any (is_called w) (names_to bytes (place - 1))

pub scan_begin : (bytes : List ℕ) → IsScanned bytes [] 1
scan_begin bytes = record { rows = λ s from to. absurd (omega (arith, from, to)); distinct = refl; has = λ w. refl }

names_more : (bytes : List ℕ) (place : ℕ) → 1 ≤ place → names_to bytes (place + 1 - 1) ≡ names_to bytes (place - 1) ++ name_in (row_at bytes place) ∷ []
names_more bytes place some =
    let next : place + 1 - 1 ≡ suc (place - 1) = omega (arith, some) in
    ap (names_to bytes) next ∙ ap (map (λ s. name_in (row_at bytes s))) (numbers_more 1 (place - 1) place (omega (arith, some)))
    ∙ map-append (λ s. name_in (row_at bytes s)) (range_with_len 1 (place - 1)) (place ∷ [])

distinct_push : (names : List (Option (List ℕ))) (x : Option (List ℕ)) → are_distinct names ≡ true → list_all (λ n. is_other n x) names ≡ true → are_distinct (names ++ x ∷ []) ≡ true
distinct_push [] x distinct others = refl
distinct_push (n ∷ names) x distinct others =
    let two = and_parts (list_all (is_other n) names) (are_distinct names) distinct in
    let one = and_parts (is_other n x) (list_all (λ m. is_other m x) names) others in
    and_from _ _ (list_all-append (is_other n) names (x ∷ []) ∙ and_from _ _ two.0 (and_from (is_other n x) true one.0 refl)) (distinct_push names x two.1 one.1)

other_none : (names : List (Option (List ℕ))) → list_all (λ n. is_other n None) names ≡ true
other_none [] = refl
other_none (None ∷ names) = other_none names
other_none (Some v ∷ names) = other_none names

other_some : (names : List (Option (List ℕ))) (w : List ℕ) → list_any (is_called w) names ≡ false → list_all (λ n. is_other n (Some w)) names ≡ true
other_some [] w none = refl
other_some (None ∷ names) w none = other_some names w none
other_some (Some v ∷ names) w none = by (bytes_eq w v) refl none (other_some names w)
  where
    by : (b : Bool) → bytes_eq w v ≡ b → (b || list_any (is_called w) names) ≡ false → (list_any (is_called w) names ≡ false → list_all (λ n. is_other n (Some w)) names ≡ true) → (not (bytes_eq v w) && list_all (λ n. is_other n (Some w)) names) ≡ true
    by true is h rest = cc h
    by false is h rest = and_from _ _ (ap not (unless (bytes_eq v w) (λ same. let both : false ≡ true = sym is ∙ (bytes_eq-Decides w v).1 (sym ((bytes_eq-Decides v w).0 same)) in cc both))) (rest h)

any_called : (names : List (Option (List ℕ))) (w : List ℕ) → list_any (is_called w) names ≡ true → (m : ℕ) × (m < length names) × (get_or names m None ≡ Some w)
any_called [] w some = cc some
any_called (None ∷ names) w some = let rest = any_called names w some in (suc rest.0, omega (arith, rest.1), rest.2)
any_called (Some v ∷ names) w some = elim (or_cases (bytes_eq w v) (list_any (is_called w) names) some) [
  | inl here ↦ (0, omega arith, ap Some (sym ((bytes_eq-Decides w v).0 here)))
  | inr later ↦ let rest = any_called names w later in (suc rest.0, omega (arith, rest.1), rest.2)
]

module _ (bytes : List ℕ) (names : List (List ℕ)) (place : ℕ) (is : IsScanned bytes names place) (some : 1 ≤ place) where
  rows_more : is_row (row_at bytes place) ≡ true → (s : ℕ) → 1 ≤ s → s < place + 1 → is_row (row_at bytes s) ≡ true
  rows_more row s from to = elim (cases_lt s place) [
    | inl before ↦ is.rows s from before
    | inr past ↦ let here : s ≡ place = omega (arith, to, past) in ap (λ (m : ℕ). is_row (row_at bytes m)) here ∙ row
  ]

  has_more : (w : List ℕ) → list_any (is_called w) (names_to bytes (place + 1 - 1)) ≡ (list_any (is_called w) (names_to bytes (place - 1)) || is_called w (name_in (row_at bytes place)))
  has_more w =
      ap (list_any (is_called w)) (names_more bytes place some) ∙ list_any-append (is_called w) (names_to bytes (place - 1)) (name_in (row_at bytes place) ∷ [])
      ∙ ap (λ b. list_any (is_called w) (names_to bytes (place - 1)) || b) (or_false (is_called w (name_in (row_at bytes place))))
    where
      or_false : (b : Bool) → (b || false) ≡ b
      or_false true = refl
      or_false false = refl

  -- a row without a name
  pub scan_none : is_row (row_at bytes place) ≡ true → name_in (row_at bytes place) ≡ None → IsScanned bytes names (place + 1)
  scan_none row none = record {
    rows = rows_more row;
    distinct = ap are_distinct (names_more bytes place some) ∙ distinct_push (names_to bytes (place - 1)) (name_in (row_at bytes place)) is.distinct (rw none (other_none (names_to bytes (place - 1))));
    has = λ w. is.has w ∙ sym (has_more w ∙ ap (λ o. list_any (is_called w) (names_to bytes (place - 1)) || is_called w o) none ∙ or_false (list_any (is_called w) (names_to bytes (place - 1))));
  }
    where
      or_false : (b : Bool) → (b || false) ≡ b
      or_false true = refl
      or_false false = refl

  module _ (w : List ℕ) (row : is_row (row_at bytes place) ≡ true) (named : name_in (row_at bytes place) ≡ Some w) (new : List (List ℕ)) where
    -- a name that is new
    pub scan_more : AddsText names new w true → IsScanned bytes new (place + 1)
    scan_more adds = record {
      rows = rows_more row;
      distinct = ap are_distinct (names_more bytes place some) ∙ distinct_push (names_to bytes (place - 1)) (name_in (row_at bytes place)) is.distinct (rw named (other_some (names_to bytes (place - 1)) w (sym (is.has w) ∙ fresh (has_text w names) adds.told)));
      has = λ v. adds.has v ∙ turned (bytes_eq v w) (has_text v names) ∙ ap (λ b. b || bytes_eq v w) (is.has v) ∙ sym (has_more v ∙ ap (λ o. list_any (is_called v) (names_to bytes (place - 1)) || is_called v o) named);
    }
      where
        fresh : (b : Bool) → true ≡ not b → b ≡ false
        fresh true h = cc h
        fresh false h = refl

        turned : (a b : Bool) → (a || b) ≡ (b || a)
        turned true true = refl
        turned true false = refl
        turned false true = refl
        turned false false = refl

    -- and one that stood before
    pub scan_twice : (slots : ℕ) → place < slots → AddsText names new w false → are_rows bytes slots ≡ false
    scan_twice slots late adds = unless (are_rows bytes slots) (λ rows.
        let parts = table_parts bytes slots rows in
        let before = any_called (names_to bytes (place - 1)) w (sym (is.has w) ∙ old (has_text w names) adds.told) in
        let low : before.0 < place - 1 = omega (arith, before.1, long (place - 1)) in
        distinct_at (row_names bytes slots) before.0 (place - 1) w parts.distinct (λ e. absurd (omega (arith, e, low)))
        (map_at (λ s. name_in (row_at bytes s)) None 1 (slots - 1) before.0 (omega (arith, low, late)) ∙ sym (map_at (λ s. name_in (row_at bytes s)) None 1 (place - 1) before.0 low) ∙ before.2)
        (map_at (λ s. name_in (row_at bytes s)) None 1 (slots - 1) (place - 1) (omega (arith, late, some)) ∙ ap (λ (s : ℕ). name_in (row_at bytes s)) (omega (arith, some)) ∙ named))
      where
        old : (b : Bool) → false ≡ not b → b ≡ true
        old true h = refl
        old false h = cc h

        long : (n : ℕ) → length (names_to bytes n) ≡ n
        long n = length_map (λ s. name_in (row_at bytes s)) 1 n

-- what is no row is in no table
pub scan_bad : (bytes : List ℕ) (slots place : ℕ) → 1 ≤ place → place < slots → is_row (row_at bytes place) ≡ false → are_rows bytes slots ≡ false
scan_bad bytes slots place some late bad = unless (are_rows bytes slots) (λ rows. let good = (table_parts bytes slots rows).rows place some late in let both : false ≡ true = sym bad ∙ good in cc both)

pub scan_all : (bytes : List ℕ) (names : List (List ℕ)) (slots : ℕ) → IsScanned bytes names slots → length bytes ≡ 64 * slots → bytes_eq (row_at bytes 0) header ≡ true → are_rows bytes slots ≡ true
scan_all bytes names slots is size head = table_whole bytes slots (record { size = size; header = head; rows = is.rows; distinct = is.distinct })

-- nor are these a table's rows
pub scan_not : (bytes : List ℕ) (slots : ℕ) → (are_rows bytes slots ≡ true → ⊥) → are_rows bytes slots ≡ false
scan_not bytes slots never = unless (are_rows bytes slots) never
