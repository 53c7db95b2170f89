-- What stands along the paths of a tree, level by level.
use Rattle.std.proofs.Common.{◌≡◌, ◌≢◌, inl, inr, ℕ, zero, suc, ◌+◌, ◌-◌, ◌*◌, ◌/◌, ◌%◌, ◌<◌, ◌≤◌, List, [], ◌∷◌, ◌++◌, length, refl, ◌∙◌, ap, arith}
use Rattle.cfs_recover.proofs.Words.{Image, Level, add-mul, block_at, cases_lt, div-add-mod', end_of, get_or_past, holder, leaf_pointers, length-map-range_with_len, levels_below, mod-lt, mul-le-mul_left, mul-le-mul_right, mul_assoc, number_at, path_to, place_above, place_from, pointer, pointers_of, reads_by_height, shown_root, tree_of, width}

pub length-pointers : (level : Level) (content : List ℕ) → length (pointers_of level content) ≡ level.count
unfolding pointers_of
length-pointers level content = length-map-range_with_len (λ (j : ℕ). number_at content (level.from + j)) 0 level.count

pub inside : (level : Level) (content : List ℕ) (k : ℕ) → pointer level content k ≢ 0 → k < level.count
inside level content k some = elim (cases_lt k level.count) [
  | inl less ↦ less
  | inr past ↦ absurd (some (get_or_past (pointers_of level content) k 0 (omega (arith, length-pointers level content))))
]

-- ---- one level down

pub less_one : (h : ℕ) → h ≡ suc h - 1
less_one h = omega arith

pub end_zero : (image : Image) (levels : List Level) (n : ℕ) (path : List ℕ) → n ≡ 0 → end_of image levels n path ≡ 0
end_zero image levels n [] none = none
end_zero image levels zero (k ∷ path) none = refl
end_zero image levels (suc n) (k ∷ path) none = absurd (omega arith)

pub down : (image : Image) (h block j : ℕ) (path : List ℕ) → h ≢ 0 → block ≢ 0
    → end_of image (levels_below h) block (j ∷ path) ≡ end_of image (levels_below (h - 1)) (pointer leaf_pointers (block_at image block) j) path
down image zero block j path more some = absurd (more refl)
down image (suc h) zero j path more some = absurd (some refl)
down image (suc h) (suc b) j path more some = ap (λ (m : ℕ). end_of image (levels_below m) (pointer leaf_pointers (block_at image (suc b)) j) path) (less_one h)

pub one_more : (h : ℕ) → h ≢ 0 → levels_below h ≡ leaf_pointers ∷ levels_below (h - 1)
one_more zero more = absurd (more refl)
one_more (suc h) more = ap (λ (m : ℕ). leaf_pointers ∷ levels_below m) (less_one h)

-- ---- numbers and places

some_width : (a b n : ℕ) → n < a * b → 0 < b
some_width a zero n below = absurd (omega arith)
some_width a (suc b) n below = omega arith

-- the place at the end of the path of a number
pub place_on : (above rest : List Level) (n m : ℕ) → n < width above → place_from m (above ++ rest) (path_to above n) ≡ place_above rest (m * width above + n)
unfolding path_to
place_on [] rest n m small = ap (place_above rest) (let e : m ≡ m * 1 + n = omega arith in e)
place_on (l ∷ above) rest n m small =
    let w = width above in
    let some : 0 < w = some_width l.count w n small in
    place_on above rest (n % w) (m * l.count + n / w) (mod-lt n {m = w} some)
    ∙ ap (place_above rest) (let e : (m * l.count + n / w) * w + n % w ≡ m * (l.count * w) + n = omega (arith, add-mul (m * l.count) (n / w) w, div-add-mod' n w, mul_assoc m l.count w) in e)

-- a path leads through the block at the end of all but its last pointer
pub holder_is : (image : Image) (r : ℕ) (path : List ℕ) (k : ℕ) → holder image r (path ++ k ∷ []) ≡ tree_of image (shown_root image r) (path ++ k ∷ [])
holder_is image r [] k = refl
holder_is image r (j ∷ path) k = refl

-- ---- how much lies below a block

some_below : (h : ℕ) → 1 ≤ width (levels_below h)
some_below zero = omega arith
some_below (suc h) = let rest = some_below h in omega (arith, rest)

pub width_of : (h : ℕ) → h ≢ 0 → width (levels_below h) ≡ leaf_pointers.count * width (levels_below (h - 1))
width_of h more = ap width (one_more h more)

pub reads_more : (h : ℕ) → h ≢ 0 → reads_by_height h ≡ 1 + leaf_pointers.count * reads_by_height (h - 1)
reads_more zero more = absurd (more refl)
reads_more (suc h) more = ap (λ (m : ℕ). 1 + leaf_pointers.count * reads_by_height m) (less_one h)

pub reads_some : (h : ℕ) → 1 ≤ reads_by_height h
reads_some zero = omega arith
reads_some (suc h) = omega arith

-- so many numbers fit, each with all below it, and so does each
pub fit_by : {most : ℕ} (n c h : ℕ) → (n + 1) * (c * width (levels_below h)) ≤ most → (n + 1) * c ≤ most
fit_by n c h fits =
    let w = width (levels_below h) in
    let more : (n + 1) * c * 1 ≤ (n + 1) * c * w = mul-le-mul_left ((n + 1) * c) (some_below h) in
    omega (arith, more, fits, mul_assoc (n + 1) c w)

pub one_fits : {most : ℕ} (n c k h : ℕ) → k < c → (n + 1) * (c * width (levels_below h)) ≤ most → (n * c + k + 1) * width (levels_below h) ≤ most
one_fits n c k h small fits =
    let w = width (levels_below h) in
    let up : n * c + k + 1 ≤ (n + 1) * c = omega (arith, small, add-mul n 1 c) in
    let more : (n * c + k + 1) * w ≤ (n + 1) * c * w = mul-le-mul_right w up in
    omega (arith, more, fits, mul_assoc (n + 1) c w)

pub its_number : {most : ℕ} (n h : ℕ) → (n + 1) * width (levels_below h) ≤ most → n < most
its_number n h fits =
    let more : (n + 1) * 1 ≤ (n + 1) * width (levels_below h) = mul-le-mul_left (n + 1) (some_below h) in
    omega (arith, more, fits)
