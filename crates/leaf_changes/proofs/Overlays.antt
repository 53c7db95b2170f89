-- Bytes laid over others, byte by byte.
use Rattle.std.proofs.Common.{◌≡◌, inl, inr, ℕ, ◌+◌, ◌-◌, ◌<◌, ◌≤◌, List, ◌++◌, length, get_or, take, drop, slice_range, sym, ◌∙◌, ap, arith, if◌then◌else◌, ◌&&◌}
use Rattle.leaf_changes.proofs.Words.{cases_lt, ext_get_or, get_or-take, get_or_append_left, length-append, length-take, nat_le, nat_lt, nat_tests, overlaid, places, take_all}

-- the byte at a place, once bytes that stand from `from` on are laid over it
module _ (from : ℕ) (above : List ℕ) (place old : ℕ) where
  pub over : ℕ
  over = if nat_le from place && nat_lt place (from + length above) then get_or above (place - from) 0 else old

  pub over_early : place < from → over ≡ old
  unfolding over
  over_early early = grind (arith, nat_tests)

  pub over_within : from ≤ place → place < from + length above → over ≡ get_or above (place - from) 0
  unfolding over
  over_within start end = grind (arith, nat_tests)

  pub over_past : from + length above ≤ place → over ≡ old
  unfolding over
  over_past past = grind (arith, nat_tests)

module _ (at : ℕ) (below : List ℕ) (from : ℕ) (above : List ℕ) where
  pub length-overlaid : length (overlaid at below from above) ≡ length below
  unfolding overlaid
  length-overlaid = grind (arith, places)

  pub laid : (k : ℕ) → k < length below → from ≤ at + k → at + k < from + length above → get_or (overlaid at below from above) k 0 ≡ get_or above (at + k - from) 0
  unfolding overlaid
  laid k inside start end = grind (arith, places)

  pub before : (k : ℕ) → k < length below → at + k < from → get_or (overlaid at below from above) k 0 ≡ get_or below k 0
  unfolding overlaid
  before k inside start =
      let first = take (from - at) below in
      let middle = slice_range above (at - from) (at + length below - from) in
      let short = length-take (from - at) below in
      get_or_append_left (first ++ middle) (drop (from + length above - at) below) 0 k (omega (arith, length-append first middle))
      ∙ get_or_append_left first middle 0 k (omega arith) ∙ get_or-take (from - at) below k 0 (omega arith)

  after : (k : ℕ) → k < length below → from + length above ≤ at + k → get_or (overlaid at below from above) k 0 ≡ get_or below k 0
  unfolding overlaid
  after k inside end = grind (arith, places)

  pub over_byte : (k : ℕ) → k < length below → get_or (overlaid at below from above) k 0 ≡ over from above (at + k) (get_or below k 0)
  over_byte k inside = elim (cases_lt (at + k) from) [
    | inl early ↦ before k inside early ∙ sym (over_early from above (at + k) (get_or below k 0) early)
    | inr start ↦ elim (cases_lt (at + k) (from + length above)) [
      | inl end ↦ laid k inside start end ∙ sym (over_within from above (at + k) (get_or below k 0) start end)
      | inr late ↦ after k inside late ∙ sym (over_past from above (at + k) (get_or below k 0) late)
    ]
  ]

  -- bytes that meet none
  pub laid_outside : ((k : ℕ) → k < length below → over from above (at + k) (get_or below k 0) ≡ get_or below k 0) → overlaid at below from above ≡ below
  laid_outside apart =
      ext_get_or 0 (overlaid at below from above) below length-overlaid
      (λ k inside. let less : k < length below = omega (arith, length-overlaid) in over_byte k less ∙ apart k less)

  -- bytes that lie within others, from a start to an end
  pub laid_within : (start end : ℕ) → from ≡ at + start → from + length above ≡ at + end → end ≤ length below → overlaid at below from above ≡ take start below ++ above ++ drop end below
  unfolding overlaid
  laid_within start end starts ends fits =
      let first : from - at ≡ start = omega arith in
      let last : from + length above - at ≡ end = omega arith in
      let none : at - from ≡ 0 = omega arith in
      let all = ap (λ (n : ℕ). take (at + length below - from - n) (drop n above)) none ∙ take_all (at + length below - from - 0) above (omega arith) in
      λ i. take (first i) below ++ all i ++ drop (last i) below
