-- Texts that begin with lines.
use Rattle.std.proofs.Common.{◌≡◌, ◌≢◌, ℕ, List, [], ◌∷◌, ◌++◌, refl, ◌∙◌, true, not}
use Rattle.cfs_audit.proofs.Words.{IsBad, IsNoLine, IsNoneOf, IsUnopened, and_parts, append_assoc, ended, event_line, event_no_end, false≢true, has_no_end, in_8, opening_fits, opening_line, opening_no_end, status_line, status_no_end, ◌==◌}

-- a text has one first line
pub same_line : (a b x y : List ℕ) → has_no_end a ≡ true → has_no_end b ≡ true → a ++ 10 ∷ x ≡ b ++ 10 ∷ y → (a ≡ b) × (x ≡ y)
same_line [] [] x y h i e = (refl, cc)
same_line [] (d ∷ b) x y h i e = let same : d ≡ 10 = cc in absurd (false≢true (rw same at (and_parts (not (d == 10)) (has_no_end b) i).0))
same_line (c ∷ a) [] x y h i e = let same : c ≡ 10 = cc in absurd (false≢true (rw same at (and_parts (not (c == 10)) (has_no_end a) h).0))
same_line (c ∷ a) (d ∷ b) x y h i e =
    let head : c ≡ d = cc in
    let tail : a ++ 10 ∷ x ≡ b ++ 10 ∷ y = cc in
    let rest = same_line a b x y (and_parts (not (c == 10)) (has_no_end a) h).1 (and_parts (not (d == 10)) (has_no_end b) i).1 tail in
    (cc, rest.1)

-- what has no end has no line
no_line_in : (a x : List ℕ) → has_no_end (a ++ 10 ∷ x) ≢ true
no_line_in [] x h = false≢true h
no_line_in (c ∷ a) x h = no_line_in a x (and_parts (not (c == 10)) (has_no_end (a ++ 10 ∷ x)) h).1

pub behind : (line more : List ℕ) → ended line ++ more ≡ line ++ 10 ∷ more
behind line more = append_assoc line (10 ∷ []) more

module _ (text : List ℕ) (none : has_no_end text ≡ true) where
  no_line : (line more : List ℕ) → text ≢ line ++ 10 ∷ more
  no_line line more e = no_line_in line more (rw (← e) none)

  pub unended_bad : IsBad text
  unended_bad = record { no_event = λ event more h e. no_line (event_line event) more (e ∙ behind (event_line event) more); no_status = λ n h e. no_line (status_line n) [] e }

  pub unended_unopened : IsUnopened text
  unended_unopened o more h e = no_line (opening_line o) more (e ∙ behind (opening_line o) more)

module _ (line rest : List ℕ) (clear : has_no_end line ≡ true) where
  pub unopened : IsNoneOf opening_fits opening_line line → IsUnopened (line ++ 10 ∷ rest)
  unopened none o more h e = none o h (same_line line (opening_line o) rest more clear (opening_no_end o h) (e ∙ behind (opening_line o) more)).0

  pub bad : IsNoLine line → ((n : ℕ) → in_8 n ≡ true → line ≡ status_line n → rest ≢ []) → IsBad (line ++ 10 ∷ rest)
  bad no_event no_status = record {
    no_event = λ event more h e. no_event event h (same_line line (event_line event) rest more clear (event_no_end event h) (e ∙ behind (event_line event) more)).0;
    no_status = λ n h e. let two = same_line line (status_line n) rest [] clear (status_no_end n h) e in no_status n h two.0 two.1;
  }
