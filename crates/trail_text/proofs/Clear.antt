-- No word of a line has a space or an end of a line, so the line is cut into its words, and ends nowhere within.
use Rattle.std.proofs.Common.{◌≡◌, ℕ, zero, suc, ◌/◌, ◌%◌, ◌<◌, ◌^◌, true, not, ◌==◌, List, [], ◌∷◌, ◌++◌, get_or, refl, ap, ◌∙◌, arith, false, map}
use Rattle.trail_text.proofs.Words.{All, AllPass-from_list_all, Direct, Row, Through, Token, all_ascii_digits, and_from, and_parts, are_within, decimal, digits_decimal, encode_lower, has_no_end, is_ascii_digit, is_clear, is_within, is_word_byte, join_with_byte, row_line, list_all, list_all-append, lower_digits, ltb-true, not-true, own, slice_index, slice_split_at, slice_split_none, spell, to_be_bytes, w32, words_in, row_words}
use Rattle.hex.specs.Hex.{encode_with}
use Rattle.cfs_base.specs.declared.kind.FileKind.TheVariants as kinds
use Rattle.cfs_base.specs.declared.kind.Mode.TheVariants as modes
use Rattle.ufs_model.specs.declared.asked.Unread.TheVariants as unread
use Rattle.trail_text.specs.EventLine as tokens

-- ---- words

not_space : (w : List ℕ) → is_clear w ≡ true → All (λ c. (c == 32) ≡ false) w
not_space w h k d less =
    let two = and_parts (not (get_or w k d == 32)) (not (get_or w k d == 10)) (AllPass-from_list_all is_word_byte w h k d less) in
    not-true (get_or w k d == 32) two.0

not_end : (w : List ℕ) → is_clear w ≡ true → has_no_end w ≡ true
not_end [] h = refl
not_end (c ∷ w) h =
    let two = and_parts (is_word_byte c) (is_clear w) h in
    and_from (not (c == 10)) (has_no_end w) (and_parts (not (c == 32)) (not (c == 10)) two.0).1 (not_end w two.1)

clear_digits : (ds : List ℕ) → all_ascii_digits ds ≡ true → is_clear ds ≡ true
clear_digits [] h = refl
clear_digits (c ∷ ds) h =
    let parts = and_parts (is_ascii_digit c) (all_ascii_digits ds) h in
    and_from (is_word_byte c) (is_clear ds) (digit c parts.0) (clear_digits ds parts.1)
  where
    digit : (c : ℕ) → is_ascii_digit c ≡ true → is_word_byte c ≡ true
    digit c is = grind (arith)

clear_number : (n : ℕ) → n < 2 ^ 64 → is_clear (decimal n) ≡ true
clear_number n small = clear_digits (decimal n) (digits_decimal own n small)

clear_at : (t : List ℕ) (d : ℕ) → is_clear t ≡ true → is_word_byte (slice_index t d) ≡ true
clear_at [] d h = refl
clear_at (c ∷ t) zero h = (and_parts (is_word_byte c) (is_clear t) h).0
clear_at (c ∷ t) (suc d) h = clear_at t d (and_parts (is_word_byte c) (is_clear t) h).1

clear_hex : (bytes : List ℕ) → is_clear (encode_lower bytes) ≡ true
unfolding encode_with
clear_hex [] = refl
clear_hex (b ∷ bytes) = rw (clear_at lower_digits (b / 16) refl, clear_at lower_digits (b % 16) refl) (clear_hex bytes)

clear_token : (t : Token) → is_within t ≡ true → is_clear (spell t) ≡ true
clear_token (tokens.Text text clear) h = clear
clear_token (tokens.Kind kinds.Normal) h = refl
clear_token (tokens.Kind kinds.Special) h = refl
clear_token (tokens.For modes.Reading) h = refl
clear_token (tokens.For modes.Writing) h = refl
clear_token (tokens.Commit true) h = refl
clear_token (tokens.Commit false) h = refl
clear_token (tokens.Why unread.Syntax) h = refl
clear_token (tokens.Why unread.NoName) h = refl
clear_token (tokens.Why unread.Memory) h = refl
clear_token (tokens.Number n) h = clear_number n (ltb-true n (2 ^ 64) h)
clear_token (tokens.Small n) h = let small = ltb-true n (2 ^ 32) h in clear_number n (omega (arith, small))
clear_token (tokens.Code n) h = let small = ltb-true n (2 ^ 8) h in clear_number n (omega (arith, small))
clear_token (tokens.To (Direct id)) h = clear_hex (to_be_bytes w32 id.block ++ to_be_bytes w32 id.word)
clear_token (tokens.To (Through t)) h = clear_hex (to_be_bytes w32 t.draw ++ to_be_bytes w32 t.word)
clear_token (tokens.Byte b) h = clear_hex (b ∷ [])
clear_token (tokens.Hex bytes) h = clear_hex bytes

clear_tokens : (ts : List Token) → are_within ts ≡ true → list_all is_clear (map spell ts) ≡ true
clear_tokens [] h = refl
clear_tokens (t ∷ ts) h =
    let two = and_parts (is_within t) (are_within ts) h in
    and_from (is_clear (spell t)) (list_all is_clear (map spell ts)) (clear_token t two.0) (clear_tokens ts two.1)

-- ---- lines

cut : (w : List ℕ) (ws : List (List ℕ)) → list_all is_clear (w ∷ ws) ≡ true → words_in (join_with_byte 32 (w ∷ ws)) ≡ w ∷ ws
cut w [] h = slice_split_none (λ c. c == 32) w (not_space w (and_parts (is_clear w) true h).0)
cut w (x ∷ ws) h =
    let parts = and_parts (is_clear w) (list_all is_clear (x ∷ ws)) h in
    slice_split_at (λ c. c == 32) w 32 (join_with_byte 32 (x ∷ ws)) (not_space w parts.0) refl
    ∙ ap (λ (rest : List (List ℕ)). w ∷ rest) (cut x ws parts.1)

no_end : (ws : List (List ℕ)) → list_all is_clear ws ≡ true → has_no_end (join_with_byte 32 ws) ≡ true
no_end [] h = refl
no_end (w ∷ []) h = not_end w (and_parts (is_clear w) true h).0
no_end (w ∷ x ∷ ws) h =
    let two = and_parts (is_clear w) (list_all is_clear (x ∷ ws)) h in
    list_all-append (λ c. not (c == 10)) w (32 ∷ join_with_byte 32 (x ∷ ws)) ∙ and_from (has_no_end w) (has_no_end (32 ∷ join_with_byte 32 (x ∷ ws))) (not_end w two.0) (no_end (x ∷ ws) two.1)

module _ (r : Row) (h : are_within r.words ≡ true) where
  clear : list_all is_clear (row_words r) ≡ true
  clear = and_from (is_clear r.verb) (list_all is_clear (map spell r.words)) r.clear (clear_tokens r.words h)

  pub line_cut : words_in (row_line r) ≡ row_words r
  line_cut = cut r.verb (map spell r.words) clear

  pub line_no_end : has_no_end (row_line r) ≡ true
  line_no_end = no_end (row_words r) clear
