-- A script has the line that makes the session's index and one for each word, and none is long.
use Rattle.std.proofs.Common.{◌≡◌, ℕ, zero, suc, ◌+◌, ◌*◌, ◌/◌, ◌%◌, ◌<◌, ◌≤◌, ◌^◌, ◌==◌, Bool, true, false, not, List, [], ◌∷◌, ◌++◌, length, map, get_or, set, refl, ap, ◌∙◌, arith}
use Rattle.std.proofs.Math.Nat.{mod-lt}
use Rattle.std.proofs.lemmas.Bool.{and_from, and_parts, not-true}
use Rattle.std.proofs.lemmas.Fmt.{decimal_by_steps, length-decimal-le}
use Rattle.std.proofs.lemmas.List.{append_assoc, length-append}
use Rattle.std.proofs.lemmas.List.Folds.{list_all-append}
use Rattle.std.proofs.lemmas.List.Splits.{slice_split_at}
use Rattle.std.proofs.lemmas.List.Sums.{AllPass-from_list_all}
use Rattle.std.specs.Prelude.{All, codes, filter, replicate}
use Rattle.std.specs.Fmt.{decimal}
use Rattle.std.specs.Int.{to_be_bytes, w32}
use Rattle.std.specs.List.{list_all, slice_split}
use Rattle.hex.proofs.HexLemmas.{length-encode_with}
use Rattle.hex.specs.Hex.{encode_lower, encode_with, lower_digits}
use Rattle.ufs_model.specs.Script.{LF, is_request_line, request_lines, without_cr}
use Rattle.cfs_workload.specs.declared.act.Left.{Left}
use Rattle.cfs_workload.specs.declared.act.Left.TheVariants.{Nothing}
use Rattle.cfs_workload.specs.declared.act.Act.{Act}
use Rattle.cfs_workload.specs.declared.act.Act.TheVariants as acts
use Rattle.cfs_workload.specs.Workload.{act_at, act_of, left_after, left_at, line_at, act_line, lines_from, script, size_in, slot_drawn, word_of}

-- ---- bytes that end no line

abbrev goes_on : ℕ → Bool
goes_on c = not (c == LF)

abbrev has_no_end : List ℕ → Bool
has_no_end text = list_all goes_on text

joined : (xs ys : List ℕ) → has_no_end xs ≡ true → has_no_end ys ≡ true → has_no_end (xs ++ ys) ≡ true
joined xs ys h k = list_all-append goes_on xs ys ∙ and_from (has_no_end xs) (has_no_end ys) h k

digit : (n : ℕ) → n < 10 → goes_on (48 + n) ≡ true
digit n few = grind (arith)

digits : (n : ℕ) → n < 2 ^ 64 → has_no_end (decimal n) ≡ true
digits n small =
    decimal_by_steps (λ m ds. has_no_end ds ≡ true) (λ m few. and_from (goes_on (48 + m)) true (digit m few) refl)
    (λ m ds more before. joined ds ((48 + m % 10) ∷ []) before (and_from (goes_on (48 + m % 10)) true (digit (m % 10) (mod-lt m (omega arith))) refl)) n small

at : (t : List ℕ) (d : ℕ) → has_no_end t ≡ true → goes_on (get_or t d 0) ≡ true
at [] d h = refl
at (c ∷ t) zero h = (and_parts (goes_on c) (has_no_end t) h).0
at (c ∷ t) (suc d) h = at t d (and_parts (goes_on c) (has_no_end t) h).1

hex : (bytes : List ℕ) → has_no_end (encode_lower bytes) ≡ true
unfolding encode_with
hex [] = refl
hex (b ∷ bytes) = rw (at lower_digits (b / 16) refl, at lower_digits (b % 16) refl) (hex bytes)

none_ends : (xs : List ℕ) → has_no_end xs ≡ true → All (λ c. (c == LF) ≡ false) xs
none_ends xs h k d below = not-true (get_or xs k d == LF) (AllPass-from_list_all goes_on xs h k d below)

-- ---- a line has no end in it, is short, and is a request line

record IsLine (line : List ℕ) : Type 0 where
  on : has_no_end line ≡ true
  short : length line ≤ 40
  asks : is_request_line (without_cr line) ≡ true

module _ (slot size word : ℕ) (within : slot < 64) (few : size < 4096) where
  small : slot < 2 ^ 64
  small = omega (arith, within)

  slot_two : length (decimal slot) ≤ 2
  slot_two = length-decimal-le 2 slot (omega arith) (omega (arith, within)) small

  size_four : length (decimal size) ≤ 4
  size_four = length-decimal-le 4 size (omega arith) (omega (arith, few)) (omega (arith, few))

  -- the slot, and what stands behind it
  made : (tail : List ℕ) → has_no_end tail ≡ true → length tail ≤ 18 → (has_no_end (decimal slot ++ tail) ≡ true) × (length (decimal slot ++ tail) ≤ 20)
  made tail on short = let more = length-append (decimal slot) tail in (joined (decimal slot) tail (digits slot small) on, omega (arith, more, short, slot_two))

  line : (act : Act) → IsLine (act_line act slot size word)
  line acts.CreateNormal = let all = made (codes " normal 00 top " ++ decimal slot) (digits slot small) (omega (arith, slot_two)) in record { on = all.0; short = omega (arith, all.1); asks = refl }
  line acts.CreateSpecial = let all = made (codes " special 2e top " ++ decimal slot) (digits slot small) (omega (arith, slot_two)) in record { on = all.0; short = omega (arith, all.1); asks = refl }
  line acts.CreateIndex = let all = made (codes " 64 top " ++ decimal slot) (digits slot small) (omega (arith, slot_two)) in record { on = all.0; short = omega (arith, all.1); asks = refl }
  line acts.Delete = record { on = digits slot small; short = omega (arith, slot_two); asks = refl }
  line acts.Resize = let all = made (codes " " ++ decimal size) (digits size (omega (arith, few))) (omega (arith, size_four)) in record { on = all.0; short = omega (arith, all.1); asks = refl }
  line acts.Write =
      let eight : length (encode_lower (to_be_bytes w32 word)) ≡ 8 = length-encode_with lower_digits (to_be_bytes w32 word) in
      let all = made (codes " 0 " ++ encode_lower (to_be_bytes w32 word)) (hex (to_be_bytes w32 word)) (omega (arith, eight)) in record { on = all.0; short = omega (arith, all.1); asks = refl }
  line acts.Read = let all = made (codes " 0 1") refl (omega arith) in record { on = all.0; short = omega (arith, all.1); asks = refl }
  line acts.Size = record { on = digits slot small; short = omega (arith, slot_two); asks = refl }

line_drawn : (seed session place : ℕ) (left : List Left) → IsLine (line_at seed session place left)
line_drawn seed session place left =
    let w = word_of seed session place in
    line (slot_drawn w) (size_in w) w (mod-lt (w / 8) (omega arith)) (mod-lt (w / 512) (omega arith)) (act_at seed session place left)

-- ---- lines one after the other

passed : (line : List ℕ) (lines : List (List ℕ)) → is_request_line line ≡ true → length (filter is_request_line (line ∷ lines)) ≡ suc (length (filter is_request_line lines))
passed line lines is = rw is refl

first_counts : (line rest : List ℕ) → has_no_end line ≡ true → is_request_line (without_cr line) ≡ true → length (request_lines (line ++ LF ∷ rest)) ≡ suc (length (request_lines rest))
first_counts line rest on asked =
    ap (λ (ls : List (List ℕ)). length (filter is_request_line (map without_cr ls))) (slice_split_at (λ c. c == LF) line LF rest (none_ends line on) refl)
    ∙ passed (without_cr line) (map without_cr (slice_split (λ c. c == LF) rest)) asked

line_count : (seed session place count : ℕ) (left : List Left) → length (request_lines (lines_from seed session place count left)) ≡ count
line_count seed session place zero left = refl
line_count seed session place (suc count) left =
    let one = line_drawn seed session place left in
    let after = left_at seed session place left in
    first_counts (line_at seed session place left) (lines_from seed session (place + 1) count after) one.on one.asks
    ∙ ap (λ n. suc n) (line_count seed session (place + 1) count after)

line_length : (seed session place count : ℕ) (left : List Left) → length (lines_from seed session place count left) ≤ 41 * count
line_length seed session place zero left = omega arith
line_length seed session place (suc count) left =
    let few = (line_drawn seed session place left).short in
    let after = left_at seed session place left in
    let more = length-append (line_at seed session place left) (LF ∷ lines_from seed session (place + 1) count after) in
    let before = line_length seed session (place + 1) count after in
    omega (arith, few, more, before)

-- one line more
pub one_more : (seed session place count : ℕ) (left after : List Left) (text line : List ℕ) (w slot : ℕ) (act : Act) → w ≡ word_of seed session place
    → slot ≡ slot_drawn w → act ≡ act_of (w % 8) (get_or left slot Nothing) → line ≡ act_line act slot (size_in w) w
    → after ≡ set left slot (left_after act (get_or left slot Nothing))
    → ((text ++ line) ++ LF ∷ []) ++ lines_from seed session (place + 1) count after ≡ text ++ lines_from seed session place (suc count) left
one_more seed session place count left after text line w slot act word there asked told then =
    let rest = lines_from seed session (place + 1) count after in
    append_assoc (text ++ line) (LF ∷ []) rest ∙ append_assoc text line (LF ∷ rest) ∙ ap (λ (t : List ℕ). text ++ t) (rw (told, then, asked, there, word) refl)

-- ---- a script

abbrev first_line : ℕ → List ℕ
first_line session = codes "create-index top 64 root " ++ decimal session

pub script_lines : (seed session count : ℕ) → session < 4 → length (request_lines (script seed session count)) ≡ count + 1
script_lines seed session count few =
    let one = first_counts (first_line session) (lines_from seed session 0 count (replicate 64 Nothing)) (digits session (omega (arith, few))) refl in
    let others = line_count seed session 0 count (replicate 64 Nothing) in
    one ∙ omega (arith, others)

pub script_short : (seed session count : ℕ) → session < 4 → length (script seed session count) ≤ 64 * (count + 1)
script_short seed session count few =
    let digit = length-decimal-le 1 session (omega arith) (omega (arith, few)) (omega (arith, few)) in
    let first = length-append (codes "create-index top 64 root ") (decimal session) in
    let all = length-append (first_line session) (LF ∷ lines_from seed session 0 count (replicate 64 Nothing)) in
    let others = line_length seed session 0 count (replicate 64 Nothing) in
    omega (arith, digit, first, all, others)
