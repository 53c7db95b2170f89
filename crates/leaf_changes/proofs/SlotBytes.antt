-- The bytes of a slot.
use Rattle.std.proofs.Common.{◌≡◌, ℕ, ◌+◌, ◌*◌, ◌/◌, ◌%◌, ◌<◌, ◌^◌, List, ◌++◌, ◌-◌, get_or, take, drop, refl, sym, ◌∙◌, ap, arith, slice_range}
use Rattle.leaf_changes.proofs.Words.{drop-drop, drop-take, from_be_bytes, from_be_bytes-to_be_bytes_4, get_or-drop, get_or-take, number_at, slot_in, take-take, to_be_bytes, w32, w64}

-- a number of 8 bytes is spelled by its halves
pub halves : (high low : ℕ) → high < 2 ^ 32 → low < 2 ^ 32 → to_be_bytes w64 (high * 2 ^ 32 + low) ≡ to_be_bytes w32 high ++ to_be_bytes w32 low
halves high low fits fits' =
    let n = high * 2 ^ 32 + low in
    let e7 : n / 256 ^ 7 % 256 ≡ high / 256 ^ 3 % 256 = omega arith in
    let e6 : n / 256 ^ 6 % 256 ≡ high / 256 ^ 2 % 256 = omega arith in
    let e5 : n / 256 ^ 5 % 256 ≡ high / 256 % 256 = omega arith in
    let e4 : n / 256 ^ 4 % 256 ≡ high % 256 = omega arith in
    let e3 : n / 256 ^ 3 % 256 ≡ low / 256 ^ 3 % 256 = omega arith in
    let e2 : n / 256 ^ 2 % 256 ≡ low / 256 ^ 2 % 256 = omega arith in
    let e1 : n / 256 % 256 ≡ low / 256 % 256 = omega arith in
    let e0 : n % 256 ≡ low % 256 = omega arith in
    cc

-- so a slot's two numbers are the halves of the number in its 8 bytes
pub slot_halves : (bytes : List ℕ) (s n : ℕ) → n < 2 ^ 64 → to_be_bytes w64 n ≡ slice_range bytes (8 * s) (8 * s + 8)
    → (number_at bytes (2 * s) ≡ n / 2 ^ 32) × (number_at bytes (2 * s + 1) ≡ n % 2 ^ 32)
slot_halves bytes s n fits spelled = (
  ap (from_be_bytes w32) first ∙ from_be_bytes-to_be_bytes_4 (n / 2 ^ 32) small,
  ap (from_be_bytes w32) second ∙ from_be_bytes-to_be_bytes_4 (n % 2 ^ 32) (omega arith),
)
  where
    small : n / 2 ^ 32 < 2 ^ 32
    small = omega (arith, fits)

    eight : take 8 (drop (8 * s) bytes) ≡ to_be_bytes w32 (n / 2 ^ 32) ++ to_be_bytes w32 (n % 2 ^ 32)
    eight =
        let whole : n ≡ n / 2 ^ 32 * 2 ^ 32 + n % 2 ^ 32 = omega arith in
        let count : 8 ≡ 8 * s + 8 - 8 * s = omega arith in
        ap (λ (k : ℕ). take k (drop (8 * s) bytes)) count ∙ sym spelled ∙ ap (to_be_bytes w64) whole ∙ halves (n / 2 ^ 32) (n % 2 ^ 32) small (omega arith)

    first : take 4 (drop (4 * (2 * s)) bytes) ≡ to_be_bytes w32 (n / 2 ^ 32)
    first =
        let at : 4 * (2 * s) ≡ 8 * s = omega arith in
        ap (λ (k : ℕ). take 4 (drop k bytes)) at ∙ sym (take-take 4 8 (drop (8 * s) bytes) (omega arith)) ∙ ap (take 4) eight

    second : take 4 (drop (4 * (2 * s + 1)) bytes) ≡ to_be_bytes w32 (n % 2 ^ 32)
    second =
        let at : 4 * (2 * s + 1) ≡ 8 * s + 4 = omega arith in
        ap (λ (k : ℕ). take 4 (drop k bytes)) at ∙ ap (take 4) (sym (drop-drop 4 (8 * s) bytes)) ∙ sym (drop-take 4 4 (drop (8 * s) bytes)) ∙ ap (drop 4) eight

-- ---- a slot is read of its 8 bytes

same_number : (xs ys : List ℕ) (j k : ℕ) → ((i : ℕ) → i < 4 → get_or xs (4 * j + i) 0 ≡ get_or ys (4 * k + i) 0) → number_at xs j ≡ number_at ys k
same_number xs ys j k same =
    let e0 = byte 0 (omega arith) in
    let e1 = byte 1 (omega arith) in
    let e2 = byte 2 (omega arith) in
    let e3 = byte 3 (omega arith) in
    cc
  where
    byte : (i : ℕ) → i < 4 → get_or (take 4 (drop (4 * j) xs)) i 0 ≡ get_or (take 4 (drop (4 * k) ys)) i 0
    byte i small =
        get_or-take 4 (drop (4 * j) xs) i 0 small ∙ get_or-drop (4 * j) xs i 0 ∙ same i small
        ∙ sym (get_or-drop (4 * k) ys i 0) ∙ sym (get_or-take 4 (drop (4 * k) ys) i 0 small)

pub same_slot : (xs ys : List ℕ) (s t : ℕ) → ((i : ℕ) → i < 8 → get_or xs (8 * s + i) 0 ≡ get_or ys (8 * t + i) 0) → slot_in xs s ≡ slot_in ys t
same_slot xs ys s t same = rw (first, second) refl
  where
    byte : (i j k : ℕ) → j ≡ 8 * s + i → k ≡ 8 * t + i → i < 8 → get_or xs j 0 ≡ get_or ys k 0
    byte i j k at at' small = ap (λ (n : ℕ). get_or xs n 0) at ∙ same i small ∙ ap (λ (n : ℕ). get_or ys n 0) (sym at')

    first : number_at xs (2 * s) ≡ number_at ys (2 * t)
    first = same_number xs ys (2 * s) (2 * t) (λ i small. byte i (4 * (2 * s) + i) (4 * (2 * t) + i) (omega arith) (omega arith) (omega arith))

    second : number_at xs (2 * s + 1) ≡ number_at ys (2 * t + 1)
    second = same_number xs ys (2 * s + 1) (2 * t + 1) (λ i small. byte (4 + i) (4 * (2 * s + 1) + i) (4 * (2 * t + 1) + i) (omega arith) (omega arith) (omega arith))
