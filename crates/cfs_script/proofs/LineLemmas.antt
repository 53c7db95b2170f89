-- The first line of a text, and the request lines from there on.
use Rattle.std.proofs.Common.{◌≡◌, ◌≢◌, ℕ, ◌+◌, ◌<◌, ◌≤◌, Bool, ◌==◌, not, List, [], ◌∷◌, ◌++◌, length, get_or, take, drop, cond, if◌then◌else◌, refl, sym, ap, ◌∙◌, one-add, arith, inl, inr, Some, None, position, nat_lt}
use Rattle.std.proofs.lemmas.Bool.{cases_eq, cases_lt, cases_Bool, lt-ltb, le-ltb, not-true, false≢true}
use Rattle.std.proofs.lemmas.List.{drop_all, drop_more, length-take}
use Rattle.std.proofs.lemmas.List.Quantifiers.{position-Some}
use Rattle.std.proofs.lemmas.Grind.{common_steps}
use Rattle.std.proofs.lemmas.List.Splits.{slice_split_first}
use Rattle.std.specs.List.{slice_split, position_or_len}
use Rattle.ufs_model.specs.Script.{LF, is_blank, is_request_line, request_lines, without_cr, words_of}
use Rattle.cfs_script.specs.Read.{BeginsWord}

-- one CR is dropped
pub without_cr-push : (front : List ℕ) → without_cr (front ++ 13 ∷ []) ≡ front
without_cr-push [] = refl
without_cr-push (c ∷ []) = refl
without_cr-push (c ∷ d ∷ cs) = ap (λ (t : List ℕ). c ∷ t) (without_cr-push (d ∷ cs))

-- what ends otherwise stays
pub without_cr-other : (line : List ℕ) → ((front : List ℕ) → line ≢ front ++ 13 ∷ []) → without_cr line ≡ line
without_cr-other [] h = refl
without_cr-other (c ∷ []) h =
    elim (cases_eq c 13) [
      | inl e ↦ absurd (h [] (ap (λ (x : ℕ). x ∷ []) e))
      | inr e ↦ grind (arith, common_steps)
    ]
without_cr-other (c ∷ d ∷ cs) h =
    ap (λ (t : List ℕ). c ∷ t) (without_cr-other (d ∷ cs) (λ front e. h (c ∷ front) (ap (λ (t : List ℕ). c ∷ t) e)))

abbrev is_lf : ℕ → Bool
is_lf c = c == LF

-- the request lines of a text, where its first line is this and the rest has these
abbrev and_lines : List ℕ → List (List ℕ) → List (List ℕ)
and_lines line rest = if is_request_line line then line ∷ rest else rest

some_below : (n m k : ℕ) → cond (nat_lt n m) (Some n) None ≡ Some k → (n ≡ k) × (n < m)
some_below n m k h =
    elim (cases_lt n m) [
      | inl lt ↦ let e = rw (lt-ltb n m lt) at h in (cc e, lt)
      | inr ge ↦ let e = rw (le-ltb n m ge) at h in absurd (cc e)
    ]

none_above : (n m : ℕ) → cond (nat_lt n m) (Some n) None ≡ None → m ≤ n
none_above n m h =
    elim (cases_lt n m) [
      | inl lt ↦ let e = rw (lt-ltb n m lt) at h in absurd (cc e)
      | inr ge ↦ ge
    ]

-- where no element passes, the list is the one part
pub slice_split-whole : (p : ℕ → Bool) (text : List ℕ) → position p text ≡ None → slice_split p text ≡ text ∷ []
slice_split-whole p text h = go text (none_above (position_or_len p text) (length text) h)
  where
    go : (text : List ℕ) → length text ≤ position_or_len p text → slice_split p text ≡ text ∷ []
    go [] h = refl
    go (c ∷ cs) h =
        elim (cases_Bool (p c)) [
          | inl t ↦ absurd (let g = rw t at h in omega arith)
          | inr f ↦ let g = rw f at h in rw (f, go cs (omega arith)) refl
        ]

-- the first part ends at the first element that passes
pub slice_split-parts : (p : ℕ → Bool) (text : List ℕ) (k : ℕ) → position p text ≡ Some k
    → slice_split p text ≡ take k text ∷ slice_split p (drop (k + 1) text)
slice_split-parts p text k h =
    let found = some_below (position_or_len p text) (length text) k h in
    rw (← found.0) (slice_split_first p text 0 found.1)

-- the first line ends at the first LF
pub request_lines-first : (text : List ℕ) (k : ℕ) → position is_lf text ≡ Some k
    → request_lines text ≡ and_lines (without_cr (take k text)) (request_lines (drop (k + 1) text))
request_lines-first text k h =
    rw (slice_split-parts is_lf text k h) refl

-- the last line may lack it
pub request_lines-last : (text : List ℕ) → position is_lf text ≡ None
    → request_lines text ≡ and_lines (without_cr text) (request_lines (drop (length text) text))
request_lines-last text h =
    rw (slice_split-whole is_lf text h, drop_all (length text) text (omega arith)) refl

-- ---- words

abbrev no_blank : ℕ → Bool
no_blank c = not (is_blank c)

-- blanks before a word are dropped
pub words_of-drop : (text : List ℕ) → words_of (drop (position_or_len no_blank text) text) ≡ words_of text
words_of-drop [] = refl
words_of-drop (c ∷ cs) =
    elim (cases_Bool (is_blank c)) [
      | inl t ↦ rw (t, one-add) (words_of-drop cs)
      | inr f ↦ let here : position_or_len no_blank (c ∷ cs) ≡ 0 = rw f refl in rw here refl
    ]

-- a line of blanks has no words
pub words_of-blank : (text : List ℕ) → position no_blank text ≡ None → words_of text ≡ []
words_of-blank text h =
    let n = position_or_len no_blank text in
    let all = none_above n (length text) h in
    sym (words_of-drop text) ∙ ap words_of (drop_all n text all)

pub words_of-start : (text : List ℕ) (k : ℕ) → position no_blank text ≡ Some k → words_of (drop k text) ≡ words_of text
words_of-start text k h =
    let found = some_below (position_or_len no_blank text) (length text) k h in
    rw (← found.0) (words_of-drop text)

pub BeginsWord-start : (text : List ℕ) (k : ℕ) → position no_blank text ≡ Some k → BeginsWord (drop k text)
BeginsWord-start text k h =
    let found = position-Some no_blank text k 0 h in
    rw (drop_more text k 0 found.0) (not-true (is_blank (get_or text k 0)) found.1)

-- the word ends at a blank
pub words_of-word : (text : List ℕ) (e : ℕ) → BeginsWord text → position is_blank text ≡ Some e
    → words_of text ≡ take e text ∷ words_of (drop e text)
words_of-word [] e begins h = absurd begins
words_of-word (c ∷ cs) e begins h =
    let text : List ℕ = c ∷ cs in
    let found = position-Some is_blank text e 0 h in
    let some : 0 < e =
    elim (cases_eq e 0) [
      | inl z ↦ absurd (false≢true (sym begins ∙ (rw z at found.1)))
      | inr ne ↦ omega arith
    ] in
    let long = lt-ltb 0 (length (take e text)) (omega (arith, length-take e text)) in
    rw (slice_split-parts is_blank text e h, long, drop_more text e 0 found.0, found.1) refl

-- or where the text ends
pub words_of-last : (text : List ℕ) → BeginsWord text → position is_blank text ≡ None → words_of text ≡ text ∷ []
words_of-last [] begins h = absurd begins
words_of-last (c ∷ cs) begins h =
    rw (slice_split-whole is_blank (c ∷ cs) h, lt-ltb 0 (length (c ∷ cs)) (omega arith)) refl
