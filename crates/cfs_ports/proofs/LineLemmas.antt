-- Lines of a text: where they end, and the request lines among them.
use Rattle.std.proofs.Common.{◌≡◌, ℕ, ◌+◌, ◌<◌, Bool, true, false, not, ◌==◌, List, [], ◌∷◌, ◌++◌, length, get_or, take, drop, map, filter, refl, sym, ap, ◌∙◌, arith, inl, inr, Some, None, suc, zero}
use Rattle.std.specs.List.{list_all, position, position_or_len, slice_split, All}
use Rattle.std.proofs.lemmas.Bool.{and_parts, cases_Bool, cases_lt, eqb-true, lt-ltb, not-true}
use Rattle.std.proofs.lemmas.List.{append_assoc, take-append-drop, take_all, drop_more}
use Rattle.std.proofs.lemmas.List.Elements.{All-weaker}
use Rattle.std.proofs.lemmas.List.Quantifiers.{position-Some}
use Rattle.std.proofs.lemmas.List.Sums.{AllPass-from_list_all, fails_before_first}
use Rattle.std.proofs.lemmas.List.Splits.{slice_split_at, slice_split_none}
use Rattle.cfs_ports.specs.Lines.{asking_lines, is_within_line, joined_lines}
use Rattle.ufs_model.specs.Script.{LF, is_request_line, request_lines, without_cr}

abbrev pub is_lf : ℕ → Bool
is_lf c = c == LF

-- before the first that passes, none does
none_passes : (p : ℕ → Bool) (xs : List ℕ) (k : ℕ) → ((j : ℕ) → j < k → p (get_or xs j 0) ≡ false)
    → list_all (λ c. not (p c)) (take k xs) ≡ true
none_passes p xs zero h = refl
none_passes p [] (suc k) h = refl
none_passes p (x ∷ xs) (suc k) h =
    let here : p x ≡ false = h 0 (omega arith) in
    rw (here, none_passes p xs k (λ j l. h (suc j) (omega arith))) refl

-- where no LF stands, the bytes are within a line
pub no_end : (bytes : List ℕ) → position is_lf bytes ≡ None → is_within_line bytes ≡ true
no_end bytes h =
    let n = position_or_len is_lf bytes in
    elim (cases_lt n (length bytes)) [
      | inl lt ↦ let e = rw (lt-ltb n (length bytes) lt) at h in absurd (cc e)
      | inr ge ↦
          let all = none_passes is_lf bytes (length bytes) (λ j l. fails_before_first is_lf bytes j 0 (omega arith)) in
          rw (take_all (length bytes) bytes (omega arith)) at all
    ]

-- a text is its first line, the LF and the rest
pub first_end : (bytes : List ℕ) (k : ℕ) → position is_lf bytes ≡ Some k
    → (k < length bytes) × (is_within_line (take k bytes) ≡ true) × (bytes ≡ take k bytes ++ LF ∷ drop (k + 1) bytes)
first_end bytes k h =
    let found = position-Some is_lf bytes k 0 h in
    let here : get_or bytes k 0 ≡ LF = eqb-true _ _ found.1 in
    let rest : drop k bytes ≡ LF ∷ drop (k + 1) bytes = drop_more bytes k 0 found.0 ∙ ap (λ x. x ∷ drop (k + 1) bytes) here in (
      found.0,
      none_passes is_lf bytes k found.2,
      sym (take-append-drop k bytes) ∙ ap (λ xs. take k bytes ++ xs) rest,
    )

-- ---- the lines of a text

not_ends : (line : List ℕ) → is_within_line line ≡ true → All (λ c. is_lf c ≡ false) line
not_ends line h =
    All-weaker (λ c. not (is_lf c) ≡ true) (λ c. is_lf c ≡ false) (λ c. not-true (is_lf c)) line (AllPass-from_list_all (λ c. not (is_lf c)) line h)

-- a text of whole lines and a last one splits into them
pub split_joined : (lines : List (List ℕ)) (last : List ℕ) → list_all is_within_line lines ≡ true
    → is_within_line last ≡ true → slice_split is_lf (joined_lines lines ++ last) ≡ lines ++ last ∷ []
split_joined [] last all within = slice_split_none is_lf last (not_ends last within)
split_joined (line ∷ lines) last all within =
    let both = and_parts (is_within_line line) (list_all is_within_line lines) all in
    rw append_assoc (slice_split_at is_lf line LF (joined_lines lines ++ last) (not_ends line both.0) refl
    ∙ ap (λ rest. line ∷ rest) (split_joined lines last both.1 within))

-- the bytes of one line have one request line at the most
pub one_line : (bytes line : List ℕ) (rest : List (List ℕ)) → is_within_line bytes ≡ true
    → request_lines bytes ≡ line ∷ rest → rest ≡ []
one_line bytes line rest within h =
    let only : request_lines bytes ≡ asking_lines (bytes ∷ []) =
    ap (λ lines. filter is_request_line (map without_cr lines)) (split_joined [] bytes refl within) in
    let e : asking_lines (bytes ∷ []) ≡ line ∷ rest = sym only ∙ h in
    elim (cases_Bool (is_request_line (without_cr bytes))) [
      | inl asks ↦ let f = rw asks at e in sym (cc f)
      | inr other ↦ let f = rw other at e in absurd (cc f)
    ]
