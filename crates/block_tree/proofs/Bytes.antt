-- The bytes of a size, the highest first, and the number that its first bytes are.
use Rattle.std.proofs.Common.{◌≡◌, inl, inr, ℕ, zero, suc, ◌+◌, ◌-◌, ◌*◌, ◌/◌, ◌%◌, ◌^◌, ◌<◌, ◌≤◌, List, [], ◌∷◌, take, refl, sym, ◌∙◌, ap, subst, arith}
use Rattle.block_tree.proofs.Words.{IsFirstMisspelt, IsSize, Kind, SIZE_LIMIT, cases_lt, div-add-mod', div-div-eq-div-mul, div-eq_of_lt, div-one, div_below, le-div, mul-div_cancel, mul-le, mul-mod_left, one-le-pow, pow-suc, to_be_bytes, w64}

-- one byte more is cut off
pub cut_more : (n k : ℕ) → n / 256 ^ k / 256 ≡ n / 256 ^ (k + 1)
cut_more n k =
    let one : suc k ≡ k + 1 = omega arith in
    div-div-eq-div-mul n (256 ^ k) 256 ∙ ap (λ (m : ℕ). n / m) (sym (pow-suc 256 k)) ∙ ap (λ (j : ℕ). n / 256 ^ j) one

-- the last k bytes of a number, the highest first
low_bytes : ℕ → ℕ → List ℕ
low_bytes zero n = []
low_bytes (suc k) n = n / 256 ^ k % 256 ∷ low_bytes k n

all_bytes : (n : ℕ) → to_be_bytes w64 n ≡ low_bytes 8 n
unfolding low_bytes
all_bytes n = rw div-one refl

same_step : (n m k : ℕ) → n / 256 ^ suc k ≡ m / 256 ^ suc k → n / 256 ^ k % 256 ≡ m / 256 ^ k % 256 → n / 256 ^ k ≡ m / 256 ^ k
same_step n m k high low =
    let one : suc k ≡ k + 1 = omega arith in
    let n' = cut_more n k ∙ ap (λ (j : ℕ). n / 256 ^ j) (sym one) in
    let m' = cut_more m k ∙ ap (λ (j : ℕ). m / 256 ^ j) (sym one) in
    omega arith

-- a number of 256 or more has two bytes or more; without the last it has one fewer
pub one_fewer : (n after : ℕ) → n < 256 ^ (8 - after) → after ≤ 7 → 256 ≤ n → (n / 256 < 256 ^ (8 - (after + 1))) × (after + 1 ≤ 7)
one_fewer n after fits within large = (
  div_below n 256 (256 ^ (8 - (after + 1))) (omega arith) (subst (λ (x : ℕ). n < x) power fits),
  elim (cases_lt after 7) [
    | inl less ↦ omega arith
    | inr last ↦ absurd (omega (arith, subst (λ (k : ℕ). n < 256 ^ k) (one last) fits))
  ],
)
  where
    next : 8 - after ≡ suc (8 - (after + 1))
    next = omega arith

    power : 256 ^ (8 - after) ≡ 256 ^ (8 - (after + 1)) * 256
    power = ap (λ (k : ℕ). 256 ^ k) next ∙ pow-suc 256 (8 - (after + 1))

    one : 7 ≤ after → 8 - after ≡ 1
    one last = omega arith

-- the same quotient by more
higher : (n m d j k : ℕ) → k ≡ j + d → n / 256 ^ d ≡ m / 256 ^ d → n / 256 ^ k ≡ m / 256 ^ k
higher n m d zero k is e = subst (λ (x : ℕ). n / 256 ^ x ≡ m / 256 ^ x) (omega arith) e
higher n m d (suc j) k is e =
    let less : k ≡ j + d + 1 = omega arith in
    let one = higher n m d j (j + d) refl e in
    let more : n / 256 ^ (j + d + 1) ≡ m / 256 ^ (j + d + 1) = sym (cut_more n (j + d)) ∙ ap (λ (x : ℕ). x / 256) one ∙ cut_more m (j + d) in
    subst (λ (x : ℕ). n / 256 ^ x ≡ m / 256 ^ x) (sym less) more

-- numbers with the same first bytes, and quotients with the same first bytes: j of them, with d bytes after
same_front : (k j d n m : ℕ) → k ≡ j + d → n / 256 ^ k ≡ m / 256 ^ k → take j (low_bytes k n) ≡ take j (low_bytes k m) → n / 256 ^ d ≡ m / 256 ^ d
unfolding low_bytes
same_front k zero d n m is high e = subst (λ (x : ℕ). n / 256 ^ x ≡ m / 256 ^ x) (omega arith) high
same_front zero (suc j) d n m is high e = absurd (omega arith)
same_front (suc k) (suc j) d n m is high e =
    let first : n / 256 ^ k % 256 ≡ m / 256 ^ k % 256 = cc in
    let rest : take j (low_bytes k n) ≡ take j (low_bytes k m) = cc in
    same_front k j d n m (omega arith) (same_step n m k high first) rest

front_same : (k j d n m : ℕ) → k ≡ j + d → n / 256 ^ d ≡ m / 256 ^ d → take j (low_bytes k n) ≡ take j (low_bytes k m)
unfolding low_bytes
front_same k zero d n m is e = refl
front_same zero (suc j) d n m is e = absurd (omega arith)
front_same (suc k) (suc j) d n m is e =
    let same = higher n m d j k (omega arith) e in
    let rest = front_same k j d n m (omega arith) e in
    let first : n / 256 ^ k % 256 ≡ m / 256 ^ k % 256 = ap (λ (x : ℕ). x % 256) same in
    cc

-- ---- sizes

less_after : (a b k : ℕ) → 0 < k → a ≤ b → a / k ≤ b / k
less_after a b k some le = le-div (a / k) b k some (omega (arith, div-add-mod' a k))

power_pos : (k : ℕ) → 0 < 256 ^ k
power_pos k = one-le-pow k 256 (omega arith)

-- a size of this kind with the same first bytes as n, all but the last r + 1, where those are not above the limit's
some_size : (kind : Kind) (n r : ℕ) → n / 256 ^ (r + 1) ≤ SIZE_LIMIT / 256 ^ (r + 1) → (s : ℕ) × IsSize kind s × (s / 256 ^ (r + 1) ≡ n / 256 ^ (r + 1))
some_size kind n r low = made (n / 256 ^ (r + 1)) refl
  where
    d : ℕ
    d = 256 ^ (r + 1)

    large : d ≡ 256 ^ r * 256
    large = ap (λ (k : ℕ). 256 ^ k) (omega arith) ∙ pow-suc 256 r

    made : (p : ℕ) → n / d ≡ p → (s : ℕ) × IsSize kind s × (s / d ≡ n / d)
    made zero is = (8, record { limit = omega arith; slots = λ e. (omega arith, refl) }, div-eq_of_lt (omega (arith, power_pos r, large)) ∙ sym is)
    made (suc p) is =
        let whole : suc p * d / d ≡ suc p = mul-div_cancel (suc p) (power_pos (r + 1)) in
        let eight : suc p * d ≡ suc p * 256 ^ r * 32 * 8 = ap (λ (k : ℕ). suc p * k) large ∙ omega arith in
        let under : suc p * d ≤ SIZE_LIMIT = omega (arith, mul-le (suc p) d (SIZE_LIMIT / d) d (omega (arith, low, is)) (omega arith), div-add-mod' SIZE_LIMIT d) in
        let least : 256 ≤ suc p * d = omega (arith, mul-le 1 256 (suc p) d (omega arith) (omega (arith, power_pos r, large))) in
        (suc p * d, record { limit = under; slots = λ e. (omega arith, ap (λ (k : ℕ). k % 8) eight ∙ mul-mod_left (suc p * 256 ^ r * 32) 8) }, whole ∙ sym is)

first_bytes : (j d n m : ℕ) → 8 ≡ j + d → n / 256 ^ d ≡ m / 256 ^ d → take j (to_be_bytes w64 n) ≡ take j (to_be_bytes w64 m)
first_bytes j d n m is e = ap (take j) (all_bytes n) ∙ front_same 8 j d n m is e ∙ ap (take j) (sym (all_bytes m))

first_number : (j d n m : ℕ) → 8 ≡ j + d → n < 2 ^ 64 → m < 2 ^ 64 → take j (to_be_bytes w64 n) ≡ take j (to_be_bytes w64 m) → n / 256 ^ d ≡ m / 256 ^ d
first_number j d n m is fits fits' e =
    same_front 8 j d n m is (omega arith) (ap (take j) (sym (all_bytes n)) ∙ e ∙ ap (take j) (all_bytes m))

-- the first r + 1 bytes from the end are seen to be above the limit, and those before the last of them are not
pub size_above : (kind : Kind) (n r : ℕ) → n < 2 ^ 64 → r ≤ 7 → SIZE_LIMIT / 256 ^ r < n / 256 ^ r → n / 256 ^ (r + 1) ≤ SIZE_LIMIT / 256 ^ (r + 1)
    → IsFirstMisspelt (IsSize kind) (to_be_bytes w64) (to_be_bytes w64 n) (7 - r)
size_above kind n r fits within above not_yet =
    let s = some_size kind n r not_yet in
    record {
      before = (s.0, s.1, first_bytes (7 - r) (r + 1) s.0 n (omega arith) s.2);
      here = λ x good e. absurd (omega (arith, first_number (7 - r + 1) r x n (omega arith) (omega (arith, good.limit)) fits e, less_after x SIZE_LIMIT (256 ^ r) (power_pos r) good.limit, above));
    }

-- only the last byte shows that a size within the limit is none
pub size_uneven : (kind : Kind) (n : ℕ) → n ≤ SIZE_LIMIT → ¬ IsSize kind n → IsFirstMisspelt (IsSize kind) (to_be_bytes w64) (to_be_bytes w64 n) 7
size_uneven kind n within none =
    let s = some_size kind n 0 (less_after n SIZE_LIMIT (256 ^ (0 + 1)) (power_pos (0 + 1)) within) in
    record {
      before = (s.0, s.1, first_bytes 7 1 s.0 n refl s.2);
      here = λ x good e. none (subst (IsSize kind) (sym (div-one x) ∙ first_number 8 0 x n refl (omega (arith, good.limit)) (omega arith) e ∙ div-one n) good);
    }
