-- The path of a number with one level more, and what stands along a path.
use Rattle.std.proofs.Common.{◌≡◌, ◌≢◌, ℕ, zero, suc, ◌+◌, ◌*◌, ◌/◌, ◌%◌, ◌<◌, ◌≤◌, List, [], ◌∷◌, ◌++◌, length, true, Some, refl, sym, ◌∙◌, ap, arith}
use Rattle.vol_image.proofs.Words.{Image, Level, below, block_at, div-div-eq-div-mul, div-lt_iff_lt-mul, div-mul-add, div-one, end_of, held_at, is_some, mod-eq_of_lt, mod-lt, mod-mul, mod-mul-add, mul-le-mul_right, mul-pos, mul_assoc, mul_comm, path_to, pointer, width}
use Rattle.vol_image.proofs.Views.{held}
use Rattle.vol_image.proofs.Places.{IsPath}

-- ---- the path of a number, with one level more

pub positive : (a b n : ℕ) → n < a * b → 0 < b
positive a zero n below = absurd (omega arith)
positive a (suc b) n below = omega arith

pub width_more : (levels : List Level) (level : Level) → width (levels ++ level ∷ []) ≡ width levels * level.count
width_more [] level = omega arith
width_more (l ∷ levels) level = ap (λ (w : ℕ). l.count * w) (width_more levels level) ∙ sym (mul_assoc l.count (width levels) level.count)

-- a number's last digit, and what is above it
two_digits : (n w c : ℕ) → 0 < w → 0 < c → (n % (w * c) < w * c) × (n / (w * c) ≡ n / c / w) × (n % (w * c) / c ≡ n / c % w) × (n % (w * c) % c ≡ n % c)
two_digits n w c some more =
    let low = mod-mul n {m = w} {c = c} some more in
    let small = mod-lt n {m = c} more in (
      mod-lt n {m = w * c} (mul-pos some more),
      ap (λ (d : ℕ). n / d) (mul_comm w c) ∙ sym (div-div-eq-div-mul n c w),
      ap (λ (m : ℕ). m / c) low ∙ div-mul-add (n / c % w) c (n % c) small,
      ap (λ (m : ℕ). m % c) low ∙ mod-mul-add (n / c % w) c (n % c) small,
    )

pub path_more : (levels : List Level) (level : Level) (n : ℕ) → n < width levels * level.count → path_to (levels ++ level ∷ []) n ≡ path_to levels (n / level.count) ++ n % level.count ∷ []
unfolding path_to
path_more [] level n below =
    let first : n / 1 ≡ n = div-one n in
    let small : n % level.count ≡ n = mod-eq_of_lt (omega arith) in
    ap (λ (k : ℕ). k ∷ []) (first ∙ sym small)
path_more (l ∷ levels) level n below =
    let c = level.count in
    let w = width levels in
    let more : 0 < c = positive (l.count * w) c n below in
    let some : 0 < w = positive l.count w (n / c) ((div-lt_iff_lt-mul more).1 below) in
    let digits = two_digits n w c some more in
    ap (λ (v : ℕ). n / v ∷ path_to (levels ++ level ∷ []) (n % v)) (width_more levels level)
    ∙ ap (λ (p : List ℕ). n / (w * c) ∷ p) (path_more levels level (n % (w * c)) digits.0)
    ∙ λ i. digits.1 i ∷ (path_to levels (digits.2 i) ++ digits.3 i ∷ [])

pub digits_below : (x k w c : ℕ) → x < w → k < c → x * c + k < w * c
digits_below x k w c small other = let room : suc x * c ≤ w * c = mul-le-mul_right c small in omega arith

pub length-path_to : (levels : List Level) (n : ℕ) → length (path_to levels n) ≡ length levels
unfolding path_to
length-path_to [] n = refl
length-path_to (l ∷ levels) n = omega (arith, length-path_to levels (n % width levels))

-- a pointer after such a path is one of the next level's
pub last_in : (levels : List Level) (level : Level) (rest : List Level) (p : List ℕ) (k : ℕ) → length p ≡ length levels → IsPath (levels ++ level ∷ rest) (p ++ k ∷ []) → k < level.count
last_in [] level rest [] k same fits = fits.0
last_in [] level rest (j ∷ p) k same fits = absurd (omega arith)
last_in (l ∷ levels) level rest [] k same fits = absurd (omega arith)
last_in (l ∷ levels) level rest (j ∷ p) k same fits = last_in levels level rest p k (omega arith) fits.1

-- ---- what is held leads down, and is led to

end_before : (image : Image) (p : List ℕ) (levels : List Level) (n k : ℕ) → end_of image levels n (p ++ k ∷ []) ≢ 0 → end_of image levels n p ≢ 0
end_before image [] levels zero k some = λ none. some refl
end_before image [] levels (suc n) k some = λ none. cc
end_before image (j ∷ p) levels zero k some = absurd (some refl)
end_before image (j ∷ p) [] (suc n) k some = absurd (some refl)
end_before image (j ∷ p) (level ∷ levels) (suc n) k some = end_before image p levels (pointer level (block_at image (suc n)) j) k some

-- the block above one that is held is held
pub below_before : (image : Image) (levels : List Level) (content : List ℕ) (p : List ℕ) (k : ℕ) → 0 < length p → below image levels content (p ++ k ∷ []) ≢ 0 → below image levels content p ≢ 0
below_before image levels content [] k down some = absurd (omega arith)
below_before image [] content (j ∷ p) k down some = absurd (some refl)
below_before image (level ∷ levels) content (j ∷ p) k down some = end_before image p levels (pointer level content j) k some

pub held_some : (image : Image) (n : ℕ) → n ≢ 0 → is_some (held_at image n) ≡ true
held_some image zero some = absurd (some refl)
held_some image (suc n) some = refl

pub some_held : (image : Image) (n : ℕ) → is_some (held_at image n) ≡ true → n ≢ 0
some_held image zero h = cc
some_held image (suc n) h = λ none. cc

pub held_there : (image : Image) (n : ℕ) → n ≢ 0 → held_at image n ≡ Some (held image n)
held_there image zero some = absurd (some refl)
held_there image (suc n) some = refl
