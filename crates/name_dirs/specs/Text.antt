-- Names, and the rows of a table.
use Rattle.std.specs.Prelude.{◌≡◌, ℕ, ◌-◌, Bool, true, not, ◌&&◌, ◌||◌, ◌==◌, nat_lt, nat_le, List, [], ◌∷◌}
use Rattle.std.specs.Prelude.{◌++◌, length, take, replicate, codes, Option, Some, None}
use Rattle.std.specs.Cmp.Lexicographic.{slice_cmp}
use Rattle.std.specs.List.{list_all, list_any}
use Rattle.std.specs.Ordering.{is_lt, nat_cmp}
use Rattle.std.specs.Str.{byte, bytes_eq}

-- ---- names

-- the number of bytes of the longest name
abbrev pub longest_name : ℕ
longest_name = 63

-- a graphic byte that isn't `/`
abbrev pub is_name_byte : ℕ → Bool
is_name_byte c = nat_lt 32 c && nat_lt c 127 && not (c == byte "/")

-- 1 to 63 such bytes
abbrev pub is_text : List ℕ → Bool
is_text w = nat_lt 0 (length w) && nat_le (length w) longest_name && list_all is_name_byte w

-- ---- lists of names

-- the order of names is that of their bytes
abbrev pub is_below : List ℕ → List ℕ → Bool
is_below a b = is_lt (slice_cmp nat_cmp a b)

-- each name is below all that follow
abbrev pub names_rise : List (List ℕ) → Bool
names_rise [] = true
names_rise (w ∷ ws) = list_all (is_below w) ws && names_rise ws

abbrev pub has_text : List ℕ → List (List ℕ) → Bool
has_text w ws = list_any (bytes_eq w) ws

-- one more name, unless it was there
pub record AddsText (old new : List (List ℕ)) (name : List ℕ) (was_new : Bool) : Type 0 where
  pub told : was_new ≡ not (has_text name old)
  pub has : (w : List ℕ) → has_text w new ≡ (bytes_eq w name || has_text w old)

-- ---- rows

-- the number of bytes of a row
abbrev pub row_size : ℕ
row_size = 64

-- A row is spelled by the length of its name, the name, and zeros. So a row without a name has only zeros.
abbrev pub spelled : List ℕ → List ℕ
spelled name = length name ∷ name ++ replicate (longest_name - length name) 0

-- the letters of a row's name
abbrev pub letters_in : List ℕ → List ℕ
letters_in [] = []
letters_in (n ∷ bytes) = take n bytes

abbrev pub name_or_none : List ℕ → Option (List ℕ)
name_or_none [] = None
name_or_none (c ∷ letters) = Some (c ∷ letters)

-- the name of a row
abbrev pub name_in : List ℕ → Option (List ℕ)
name_in row = name_or_none (letters_in row)

-- these bytes are a valid row
abbrev pub is_row : List ℕ → Bool
is_row row = bytes_eq row (spelled (letters_in row)) && list_all is_name_byte (letters_in row)

-- the first row of a table, which names nothing
abbrev pub header : List ℕ
header = codes "CFSDIR01" ++ replicate 56 0

-- no name is there twice
abbrev pub is_other : Option (List ℕ) → Option (List ℕ) → Bool
is_other None other = true
is_other (Some name) None = true
is_other (Some name) (Some other) = not (bytes_eq name other)

abbrev pub are_distinct : List (Option (List ℕ)) → Bool
are_distinct [] = true
are_distinct (name ∷ names) = list_all (is_other name) names && are_distinct names
