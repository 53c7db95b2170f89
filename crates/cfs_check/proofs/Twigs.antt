-- Each block of a tree is listed once for each path that leads to it.
use Rattle.std.proofs.Common.{◌≡◌, ◌≢◌, ◌⊎◌, inl, inr, ℕ, zero, suc, ◌+◌, ◌*◌, ◌<◌, ◌≤◌, List, [], ◌∷◌, ◌++◌, length, get_or, refl, sym, ◌∙◌, ap, subst, arith}
use Rattle.std.proofs.lemmas.Bool.{cases_lt}
use Rattle.std.proofs.lemmas.List.{get_or_past}
use Rattle.std.proofs.lemmas.List.Elements.{Contains-append_cases, Contains-append_left, Contains-append_right}
use Rattle.std.specs.List.{Contains}
use Rattle.cfs_base.specs.Disk.{Image, block_at}
use Rattle.block_tree.specs.Pointers.{Level, levels_below, pointers_of}
use Rattle.block_tree.specs.Tree.{end_of, pointer}
use Rattle.vol_image.specs.Seen.{place_above, place_from}
use Rattle.cfs_check.specs.Twigs.{Stem, Twig, rows, twig}
use Rattle.cfs_check.proofs.Rows.{rows_past}

-- ---- members

none_in : (t : Twig) → ¬ Contains [] t
none_in t has = omega (arith, has.1)

pub in_cons : (x : Twig) (xs : List Twig) (t : Twig) → Contains (x ∷ xs) t → (x ≡ t) ⊎ Contains xs t
in_cons x xs t has = elim (Contains-append_cases (x ∷ []) xs t has) [ inl one ↦ inl (first one) | inr rest ↦ inr rest ]
  where
    first : Contains (x ∷ []) t → x ≡ t
    first (zero, inside, is) = is
    first (suc k, inside, is) = absurd (omega (arith, inside))

in_head : (x : Twig) (xs : List Twig) → Contains (x ∷ xs) x
in_head x xs = (0, omega arith, refl)

in_tail : (x : Twig) (xs : List Twig) (t : Twig) → Contains xs t → Contains (x ∷ xs) t
in_tail x xs t has = Contains-append_right (x ∷ []) xs t has

-- ---- what stands at the end of a path is listed

-- the block with the last pointer of a path that begins at block n; `holder` has the pointer to n itself
abbrev pub holder_from : Image → List Level → (holder n : ℕ) → List ℕ → ℕ
holder_from image levels holder n [] = holder
holder_from image [] holder n (j ∷ path) = n
holder_from image (l ∷ levels) holder n (j ∷ path) = holder_from image levels n (pointer l (block_at image n) j) path

-- the twig is what the path leads to that begins at one of these pointers
pub record IsAt (image : Image) (stem : Stem) (levels : List Level) (holder first : ℕ) (pointers : List ℕ) (t : Twig) (k : ℕ) (path : List ℕ) : Type 0 where
  pub owner : t.spot.owner ≡ stem.owner
  pub extent : t.extent ≡ stem.extent
  pub block : t.spot.block ≡ end_of image levels (get_or pointers k 0) path
  pub place : t.spot.place ≡ place_from (first + k) levels path
  pub holder_is : t.spot.holder ≡ holder_from image levels holder (get_or pointers k 0) path

module _ (image : Image) (stem : Stem) where
  -- it is listed below one of the pointers after the first
  later : (levels : List Level) (holder first p : ℕ) (ps : List ℕ) (t : Twig) → Contains (rows image stem levels holder (first + 1) ps) t → Contains (rows image stem levels holder first (p ∷ ps)) t
  later [] holder first zero ps t has = has
  later (l ∷ ls) holder first zero ps t has = has
  later [] holder first (suc p) ps t has = in_tail _ _ t has
  later (l ∷ ls) holder first (suc p) ps t has =
      in_tail _ _ t (Contains-append_right (rows image stem ls (suc p) (first * l.count) (pointers_of l (block_at image (suc p)))) _ t has)

  itself : (levels : List Level) (holder first p : ℕ) (ps : List ℕ) → Contains (rows image stem levels holder first (suc p ∷ ps)) (twig stem levels holder first (suc p))
  itself [] holder first p ps = in_head _ _
  itself (l ∷ ls) holder first p ps = in_head _ _

  pub at_listed : (levels : List Level) (holder first : ℕ) (ps : List ℕ) (k : ℕ) (path : List ℕ) → end_of image levels (get_or ps k 0) path ≢ 0
      → (t : Twig) × Contains (rows image stem levels holder first ps) t × IsAt image stem levels holder first ps t k path
  at_listed levels holder first [] k [] some = absurd (some refl)
  at_listed levels holder first [] k (j ∷ path) some = absurd (some refl)
  at_listed levels holder first (p ∷ ps) (suc k) path some =
      let at = at_listed levels holder (first + 1) ps k path some in (
        at.0,
        later levels holder first p ps at.0 at.1,
        record {
          owner = at.2.owner;
          extent = at.2.extent;
          block = at.2.block;
          place = at.2.place ∙ ap (λ (n : ℕ). place_from n levels path) (let e : first + 1 + k ≡ first + suc k = omega arith in e);
          holder_is = at.2.holder_is;
        },
      )
  at_listed levels holder first (zero ∷ ps) zero [] some = absurd (some refl)
  at_listed levels holder first (zero ∷ ps) zero (j ∷ path) some = absurd (some refl)
  at_listed levels holder first (suc p ∷ ps) zero [] some = (
    twig stem levels holder first (suc p),
    itself levels holder first p ps,
    record {
      owner = refl;
      extent = refl;
      block = refl;
      place = ap (place_above levels) (let e : first ≡ first + 0 = omega arith in e);
      holder_is = refl;
    },
  )
  at_listed [] holder first (suc p ∷ ps) zero (j ∷ path) some = absurd (some refl)
  at_listed (l ∷ ls) holder first (suc p ∷ ps) zero (j ∷ path) some =
      let inner = at_listed ls (suc p) (first * l.count) (pointers_of l (block_at image (suc p))) j path some in (
        inner.0,
        in_tail _ _ inner.0 (Contains-append_left _ (rows image stem (l ∷ ls) holder (first + 1) ps) inner.0 inner.1),
        record {
          owner = inner.2.owner;
          extent = inner.2.extent;
          block = inner.2.block;
          place = inner.2.place ∙ ap (λ (n : ℕ). place_from n ls path) (let e : first * l.count + j ≡ (first + 0) * l.count + j = omega arith in e);
          holder_is = inner.2.holder_is;
        },
      )

  -- ---- the blocks that hold the pointers are on the disk

  pub rows_holders : (levels : List Level) (holder first : ℕ) (ps : List ℕ) → holder < length image → (t : Twig) → Contains (rows image stem levels holder first ps) t → t.spot.holder < length image
  rows_holders levels holder first [] on t has = absurd (none_in t has)
  rows_holders [] holder first (zero ∷ ps) on t has = rows_holders [] holder (first + 1) ps on t has
  rows_holders (l ∷ ls) holder first (zero ∷ ps) on t has = rows_holders (l ∷ ls) holder (first + 1) ps on t has
  rows_holders [] holder first (suc p ∷ ps) on t has = elim (in_cons _ _ t has) [
    | inl is ↦ subst (λ (u : Twig). u.spot.holder < length image) is on
    | inr rest ↦ rows_holders [] holder (first + 1) ps on t rest
  ]
  rows_holders (l ∷ ls) holder first (suc p ∷ ps) on t has = elim (in_cons _ _ t has) [
    | inl is ↦ subst (λ (u : Twig). u.spot.holder < length image) is on
    | inr rest ↦ elim (Contains-append_cases (rows image stem ls (suc p) (first * l.count) (pointers_of l (block_at image (suc p)))) _ t rest) [
      | inl below ↦ elim (cases_lt (suc p) (length image)) [
        | inl inside ↦ rows_holders ls (suc p) (first * l.count) (pointers_of l (block_at image (suc p))) inside t below
        | inr past ↦ absurd (none_in t (subst (λ (ts : List Twig). Contains ts t) (rows_past image stem l ls (suc p) (suc p) (first * l.count) past) below))
      ]
      | inr others ↦ rows_holders (l ∷ ls) holder (first + 1) ps on t others
    ]
  ]
