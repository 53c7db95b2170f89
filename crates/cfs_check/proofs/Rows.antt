-- The blocks of a tree, listed pointer by pointer.
use Rattle.std.proofs.Common.{◌≡◌, ◌≢◌, ℕ, zero, suc, ◌+◌, ◌-◌, ◌*◌, ◌<◌, ◌≤◌, List, [], ◌∷◌, ◌++◌, length, take, drop, get_or, refl, sym, ◌∙◌, ap, subst, arith, append_assoc}
use Rattle.std.proofs.Math.Seq.{drop-nil}
use Rattle.std.proofs.lemmas.List.{get_or_past}
use Rattle.std.proofs.lemmas.List.FromFn.{get_or-map-range_with_len, length-map-range_with_len}
use Rattle.std.proofs.lemmas.Bool.{cases_lt}
use Rattle.std.specs.Int.{from_be_bytes, w32}
use Rattle.std.proofs.Common.{inl, inr}
use Rattle.cfs_base.specs.Disk.{Image, block_at}
use Rattle.block_tree.specs.Pointers.{Level, leaf_pointers, levels_below, number_at}
unfoldable use Rattle.block_tree.specs.Pointers.{pointers_of}
use Rattle.cfs_check.specs.Twigs.{Stem, Twig, one_row, rows, twig}

append_none : (ts : List Twig) → ts ++ [] ≡ ts
append_none [] = refl
append_none (t ∷ ts) = ap (λ (xs : List Twig). t ∷ xs) (append_none ts)

module _ (image : Image) (stem : Stem) where
  -- ---- one pointer more

  shift : (levels : List Level) (holder first n : ℕ) (qs : List ℕ) → rows image stem levels holder (first + 1 + n) qs ≡ rows image stem levels holder (first + suc n) qs
  shift levels holder first n qs = ap (λ (k : ℕ). rows image stem levels holder k qs) (let e : first + 1 + n ≡ first + suc n = omega arith in e)

  none_before : (levels : List Level) (holder first : ℕ) (qs : List ℕ) → rows image stem levels holder first qs ≡ rows image stem levels holder (first + 0) qs
  none_before levels holder first qs = ap (λ (k : ℕ). rows image stem levels holder k qs) (let e : first ≡ first + 0 = omega arith in e)

  pub rows-append : (levels : List Level) (holder first : ℕ) (ps qs : List ℕ) → rows image stem levels holder first (ps ++ qs) ≡ rows image stem levels holder first ps ++ rows image stem levels holder (first + length ps) qs
  rows-append levels holder first [] qs = none_before levels holder first qs
  rows-append [] holder first (zero ∷ ps) qs = rows-append [] holder (first + 1) ps qs ∙ ap (λ (ts : List Twig). rows image stem [] holder (first + 1) ps ++ ts) (shift [] holder first (length ps) qs)
  rows-append (l ∷ ls) holder first (zero ∷ ps) qs = rows-append (l ∷ ls) holder (first + 1) ps qs ∙ ap (λ (ts : List Twig). rows image stem (l ∷ ls) holder (first + 1) ps ++ ts) (shift (l ∷ ls) holder first (length ps) qs)
  rows-append [] holder first (suc p ∷ ps) qs =
      ap (λ (ts : List Twig). twig stem [] holder first (suc p) ∷ ts) (rows-append [] holder (first + 1) ps qs ∙ ap (λ (ts : List Twig). rows image stem [] holder (first + 1) ps ++ ts) (shift [] holder first (length ps) qs))
  rows-append (l ∷ ls) holder first (suc p ∷ ps) qs =
      let below = rows image stem ls (suc p) (first * l.count) (pointers_of l (block_at image (suc p))) in
      ap (λ (ts : List Twig). twig stem (l ∷ ls) holder first (suc p) ∷ (below ++ ts)) (rows-append (l ∷ ls) holder (first + 1) ps qs ∙ ap (λ (ts : List Twig). rows image stem (l ∷ ls) holder (first + 1) ps ++ ts) (shift (l ∷ ls) holder first (length ps) qs))
      ∙ ap (λ (ts : List Twig). twig stem (l ∷ ls) holder first (suc p) ∷ ts) (sym (append_assoc below (rows image stem (l ∷ ls) holder (first + 1) ps) (rows image stem (l ∷ ls) holder (first + suc (length ps)) qs)))

  -- the first so many pointers, with one more
  pub rows_more : (levels : List Level) (holder first : ℕ) (ps : List ℕ) (k : ℕ) → k < length ps → rows image stem levels holder first (take (k + 1) ps) ≡ rows image stem levels holder first (take k ps) ++ one_row image stem levels holder (first + k) (get_or ps k 0)
  rows_more levels holder first ps k inside =
      ap (rows image stem levels holder first) (taken ps k inside) ∙ rows-append levels holder first (take k ps) (get_or ps k 0 ∷ [])
      ∙ ap (λ (n : ℕ). rows image stem levels holder first (take k ps) ++ rows image stem levels holder (first + n) (get_or ps k 0 ∷ [])) (long ps k inside)
    where
      taken : (xs : List ℕ) (n : ℕ) → n < length xs → take (n + 1) xs ≡ take n xs ++ get_or xs n 0 ∷ []
      taken [] n below = absurd (omega arith)
      taken (x ∷ xs) zero below = refl
      taken (x ∷ xs) (suc n) below = let e : suc n + 1 ≡ suc (n + 1) = omega arith in ap (λ (m : ℕ). take m (x ∷ xs)) e ∙ ap (λ (ys : List ℕ). x ∷ ys) (taken xs n (omega arith))

      long : (xs : List ℕ) (n : ℕ) → n < length xs → length (take n xs) ≡ n
      long [] n below = absurd (omega arith)
      long (x ∷ xs) zero below = refl
      long (x ∷ xs) (suc n) below = ap suc (long xs n (omega arith))

  -- ---- what one pointer leads to

  pub row_none : (levels : List Level) (holder number : ℕ) → one_row image stem levels holder number 0 ≡ []
  row_none [] holder number = refl
  row_none (l ∷ ls) holder number = refl

  pub row_leaf : (h holder number block : ℕ) → h ≡ 0 → block ≢ 0 → one_row image stem (levels_below h) holder number block ≡ twig stem (levels_below h) holder number block ∷ []
  row_leaf h holder number zero last some = absurd (some refl)
  row_leaf zero holder number (suc p) last some = refl
  row_leaf (suc h) holder number (suc p) last some = absurd (omega arith)

  pub row_node : (h holder number block : ℕ) → h ≢ 0 → block ≢ 0 → one_row image stem (levels_below h) holder number block
      ≡ twig stem (levels_below h) holder number block ∷ rows image stem (levels_below (h - 1)) block (number * leaf_pointers.count) (pointers_of leaf_pointers (block_at image block))
  row_node h holder number zero more some = absurd (some refl)
  row_node zero holder number (suc p) more some = absurd (more refl)
  row_node (suc h) holder number (suc p) more some =
      ap (λ (ts : List Twig). twig stem (levels_below (suc h)) holder number (suc p) ∷ ts) (append_none _
      ∙ ap (λ (m : ℕ). rows image stem (levels_below m) (suc p) (number * leaf_pointers.count) (pointers_of leaf_pointers (block_at image (suc p)))) (let e : h ≡ suc h - 1 = omega arith in e))

  -- pointers that lead nowhere
  rows_zero : (levels : List Level) (holder first : ℕ) (ps : List ℕ) → ((k : ℕ) → ◌≡◌ {A = ℕ} (get_or ps k 0) 0) → rows image stem levels holder first ps ≡ []
  rows_zero levels holder first [] none = refl
  rows_zero [] holder first (zero ∷ ps) none = rows_zero [] holder (first + 1) ps (λ k. none (suc k))
  rows_zero (l ∷ ls) holder first (zero ∷ ps) none = rows_zero (l ∷ ls) holder (first + 1) ps (λ k. none (suc k))
  rows_zero levels holder first (suc p ∷ ps) none = absurd (let no_way = none 0 in omega arith)

  -- nothing is listed below a block that isn't on the disk
  pub rows_past : (l : Level) (ls : List Level) (holder block number : ℕ) → length image ≤ block → rows image stem ls holder number (pointers_of l (block_at image block)) ≡ []
  unfolding pointers_of
  rows_past l ls holder block number past =
      ap (λ (content : List ℕ). rows image stem ls holder number (pointers_of l content)) (get_or_past image block [] past) ∙ rows_zero ls holder number (pointers_of l []) nowhere
    where
      zero_number : (k : ℕ) → number_at [] k ≡ 0
      zero_number k = ap (λ (bytes : List ℕ). from_be_bytes w32 (take 4 bytes)) (drop-nil (4 * k))

      nowhere : (k : ℕ) → ◌≡◌ {A = ℕ} (get_or (pointers_of l []) k 0) 0
      nowhere k = elim (cases_lt k l.count) [
        | inl less ↦ get_or-map-range_with_len (λ (j : ℕ). number_at [] (l.from + j)) 0 l.count k k 0 less (omega arith) ∙ zero_number (l.from + k)
        | inr far ↦ get_or_past (pointers_of l []) k 0 (omega (arith, far, length-map-range_with_len (λ (j : ℕ). number_at [] (l.from + j)) 0 l.count))
      ]

  pub row_past : (h holder number block : ℕ) → h ≢ 0 → block ≢ 0 → length image ≤ block → one_row image stem (levels_below h) holder number block ≡ twig stem (levels_below h) holder number block ∷ []
  row_past h holder number block more some past =
      row_node h holder number block more some
      ∙ ap (λ (ts : List Twig). twig stem (levels_below h) holder number block ∷ ts) (rows_past leaf_pointers (levels_below (h - 1)) block block (number * leaf_pointers.count) past)
