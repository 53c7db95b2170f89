-- What a line asks.
use Rattle.std.specs.Prelude.{ℕ, ◌&&◌, ◌==◌, nat_lt, nat_le, List, [], ◌∷◌, length, codes, if◌then◌else◌}
use Rattle.std.specs.Prelude.{Option, Some, None}
use Rattle.std.specs.List.{list_all, slice_split}
use Rattle.std.specs.Option.{option_map}
use Rattle.std.specs.Str.{byte, bytes_eq}
use Rattle.ufs_model.specs.Script.{is_readable, words_of}
use Rattle.ufs_model.specs.Spoken.{Bad, Is, Reading, Unbound, digits_in, number_in}
use Rattle.name_dirs.specs.Making.{most_capacity}
use Rattle.name_dirs.specs.Text.{is_text}
use Rattle.name_lines.specs.declared.line.Line.{Line}
use Rattle.name_lines.specs.declared.line.Line.TheVariants as lines
use Rattle.name_lines.specs.declared.line.NameAt.{NameAt}

-- ---- paths

abbrev pub if_texts : List (List ℕ) → Option (List (List ℕ))
if_texts parts = if list_all is_text parts then Some parts else None

abbrev pub after_slash : List ℕ → Option (List (List ℕ))
after_slash rest = if length rest == 0 then Some [] else if_texts (slice_split (λ c. c == byte "/") rest)

-- `/`, or names with `/` before each
abbrev pub path_in : List ℕ → Option (List (List ℕ))
path_in [] = None
path_in (c ∷ rest) = if c == byte "/" then after_slash rest else None

abbrev pub with_above : List ℕ → NameAt → NameAt
with_above w place = record place { above = w ∷ place.above }

-- the last of these names, in the directory to which the others lead
abbrev pub last_of : List ℕ → List (List ℕ) → NameAt
last_of w [] = record { above = []; name = w }
last_of w (v ∷ path) = with_above w (last_of v path)

abbrev pub place_at : List (List ℕ) → Option NameAt
place_at [] = None
place_at (w ∷ path) = Some (last_of w path)

abbrev pub place_or_none : Option (List (List ℕ)) → Option NameAt
place_or_none None = None
place_or_none (Some path) = place_at path

-- a path, but not `/` itself
abbrev pub place_in : List ℕ → Option NameAt
place_in word = place_or_none (path_in word)

-- ---- numbers and identifiers

abbrev pub value_or_none : {A : Type 0} → Reading A → Option A
value_or_none (Is x) = Some x
value_or_none Unbound = None
value_or_none Bad = None

abbrev pub capacity_of : ℕ → Option ℕ
capacity_of n = if nat_lt 0 n && nat_le n most_capacity then Some n else None

abbrev pub capacity_or_none : Option ℕ → Option ℕ
capacity_or_none None = None
capacity_or_none (Some n) = capacity_of n

abbrev pub capacity_in : List ℕ → Option ℕ
capacity_in word = capacity_or_none (value_or_none (number_in word))

-- ---- lines

abbrev pub with_both : {A B C : Type 0} → (A → B → C) → Option A → Option B → Option C
with_both f None b = None
with_both f (Some a) b = option_map (f a) b

abbrev pub mkdir : List (List ℕ) → (capacity : ℕ) → Line
mkdir [] capacity = lines.MakeTop capacity
mkdir (w ∷ path) capacity = lines.MakeDir (last_of w path) capacity

abbrev pub one_word : (verb path : List ℕ) → Option Line
one_word verb path =
    if bytes_eq verb (codes "look") then option_map (λ place. lines.Look place) (place_in path)
    else if bytes_eq verb (codes "unbind") then option_map (λ place. lines.Unbind place) (place_in path)
    else if bytes_eq verb (codes "list") then option_map (λ names. lines.ListDir names) (path_in path) else None

abbrev pub two_words : (verb path word : List ℕ) → Option Line
two_words verb path word =
    if bytes_eq verb (codes "mkdir") then with_both mkdir (path_in path) (capacity_in word)
    else if bytes_eq verb (codes "bind")
    then with_both (λ place id. lines.Bind place id) (place_in path) (value_or_none (digits_in word)) else None

abbrev pub line_of_words : List (List ℕ) → Option Line
line_of_words (verb ∷ path ∷ []) = one_word verb path
line_of_words (verb ∷ path ∷ word ∷ []) = two_words verb path word
line_of_words words = None

-- what a line asks, or None if it has none of the forms
abbrev pub line_in : List ℕ → Option Line
line_in text = if is_readable text then line_of_words (words_of text) else None
