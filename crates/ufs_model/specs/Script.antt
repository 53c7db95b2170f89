-- The request lines of a script, and the words of a line. Bytes are numbers, as texts are in contracts.
use Rattle.std.specs.Prelude.{ℕ, Bool, false, not, ◌&&◌, ◌||◌, ◌==◌, nat_lt, nat_le, if◌then◌else◌, List, [], ◌∷◌}
use Rattle.std.specs.Prelude.{length, map, filter}
use Rattle.std.specs.List.{list_all, slice_split}
use Rattle.std.specs.Str.{byte}
use Rattle.ufs_model.specs.Limits.{most_line}

-- the byte that ends a line, and the one that may come before it
abbrev pub LF : ℕ
LF = 10

abbrev pub CR : ℕ
CR = 13

-- a space or a tab
abbrev pub is_blank : ℕ → Bool
is_blank c = (c == 32) || (c == 9)

-- a byte of a word
abbrev pub is_graphic : ℕ → Bool
is_graphic c = nat_lt 32 c && nat_lt c 127

-- a line without one CR at its end
abbrev pub without_cr : List ℕ → List ℕ
without_cr [] = []
without_cr (c ∷ []) = if c == CR then [] else c ∷ []
without_cr (c ∷ d ∷ cs) = c ∷ without_cr (d ∷ cs)

abbrev begins_comment : List ℕ → Bool
begins_comment [] = false
begins_comment (c ∷ cs) = c == byte "#"

-- a line that is not blank and doesn't begin with #
abbrev pub is_request_line : List ℕ → Bool
is_request_line line = not (list_all is_blank line) && not (begins_comment line)

-- the request lines of a script, without their ends
abbrev pub request_lines : List ℕ → List (List ℕ)
request_lines script = filter is_request_line (map without_cr (slice_split (λ c. c == LF) script))

-- at most 16,384 bytes, each a blank or one of a word
abbrev pub is_readable : List ℕ → Bool
is_readable line = nat_le (length line) most_line && list_all (λ c. is_blank c || is_graphic c) line

-- the words of a line, with blanks between them
abbrev pub words_of : List ℕ → List (List ℕ)
words_of line = filter (λ w. nat_lt 0 (length w)) (slice_split is_blank line)
