-- Numbers of 4 bytes, written one after another and read again.
use Rattle.std.proofs.Common.{◌≡◌, ℕ, zero, suc, ◌+◌, ◌*◌, ◌<◌, ◌≤◌, ◌^◌, List, [], ◌∷◌, ◌++◌, length, take, drop, get_or, map, refl, sym, ◌∙◌, ap, arith, zero-add, length-append, append_assoc, subst, inl, inr}
use Rattle.block_tree.proofs.Words.{All, All-get_or, be_bytes_4, cases_lt, drop-drop, drop_at, fill_by_all, flat_map-append, from_be_bytes, from_be_bytes-to_be_bytes_4, get_or-drop, get_or-take, get_or_past, length-take, map-range_with_len_more, number_at, numbers_from, numbers_spelling, range_with_len, take-add, take_at, take_more, to_be_bytes, w32}
use Rattle.std.proofs.lemmas.List.{length-drop}

pub length-numbers : (ns : List ℕ) → length (numbers_spelling ns) ≡ 4 * length ns
length-numbers [] = refl
length-numbers (n ∷ ns) = omega (arith, length-numbers ns)

-- ---- written

numbers_more : (ns : List ℕ) (i : ℕ) → i < length ns
    → numbers_spelling (take (i + 1) ns) ≡ numbers_spelling (take i ns) ++ to_be_bytes w32 (get_or ns i 0)
numbers_more ns i below = ap numbers_spelling (take_more ns i 0 below) ∙ flat_map-append (to_be_bytes w32) (take i ns) (get_or ns i 0 ∷ [])

-- one number more is put into a block
pub put_more : (init block : List ℕ) (from i : ℕ) (ns : List ℕ) → length init ≡ 512 → i < length ns → 4 * (from + length ns) ≤ 512
    → block ≡ take (4 * from) init ++ numbers_spelling (take i ns) ++ drop (4 * (from + i)) init
    → take (4 * (from + i)) block ++ to_be_bytes w32 (get_or ns i 0) ++ drop (4 * (from + i) + 4) block
    ≡ take (4 * from) init ++ numbers_spelling (take (i + 1) ns) ++ drop (4 * (from + (i + 1))) init
put_more init block from i ns long below room is =
    let front = take (4 * from) init ++ numbers_spelling (take i ns) in
    let at = 4 * (from + i) in
    let reach : length front ≡ at = omega (arith, length-append (take (4 * from) init) (numbers_spelling (take i ns)), length-take (4 * from) init, length-numbers (take i ns), length-take i ns) in
    let before : take at block ≡ front = ap (take at) is ∙ take_at front (drop at init) at reach in
    let after : drop at block ≡ drop at init = ap (drop at) is ∙ drop_at front (drop at init) at reach in
    let rest : drop (at + 4) block ≡ drop (4 * (from + (i + 1))) init =
    sym (drop-drop 4 at block) ∙ ap (drop 4) after ∙ drop-drop 4 at init ∙ ap (λ (n : ℕ). drop n init) (omega arith) in
    let more = numbers_more ns i below in
    let group = append_assoc (take (4 * from) init) (numbers_spelling (take i ns)) (to_be_bytes w32 (get_or ns i 0)) in
    cc

-- ---- read

-- the numbers from a place on are those of the rest
pub number_shift : (bytes : List ℕ) (from k : ℕ) → number_at (drop (4 * from) bytes) k ≡ number_at bytes (from + k)
number_shift bytes from k = ap (λ (l : List ℕ). from_be_bytes w32 (take 4 l)) (drop-drop (4 * k) (4 * from) bytes ∙ ap (λ (n : ℕ). drop n bytes) (omega arith))

number_in : (ns : List ℕ) (k : ℕ) → k < length ns → get_or ns k 0 < 2 ^ 32 → number_at (numbers_spelling ns) k ≡ get_or ns k 0
number_in [] k below fits = absurd (omega arith)
number_in (n ∷ ns) zero below fits = from_be_bytes-to_be_bytes_4 n fits
number_in (n ∷ ns) (suc k) below fits =
    let four : 4 * suc k ≡ suc (suc (suc (suc (4 * k)))) = omega arith in
    ap (λ (j : ℕ). from_be_bytes w32 (take 4 (drop j (numbers_spelling (n ∷ ns))))) four ∙ number_in ns k (omega arith) fits

-- a number that was put is read again
pub number_back : (front ns : List ℕ) (from k : ℕ) → length front ≡ 4 * from → k < length ns → get_or ns k 0 < 2 ^ 32
    → number_at (front ++ numbers_spelling ns) (from + k) ≡ get_or ns k 0
number_back front ns from k long below fits =
    let bytes = front ++ numbers_spelling ns in
    sym (number_shift bytes from k) ∙ ap (λ (l : List ℕ). number_at l k) (drop_at front (numbers_spelling ns) (4 * from) long) ∙ number_in ns k below fits

-- all that were put are read again
pub numbers_back : (front ns : List ℕ) (from count : ℕ) → length front ≡ 4 * from → length ns ≡ count → All (λ n. n < 2 ^ 32) ns
    → ns ≡ numbers_from (front ++ numbers_spelling ns) from count
numbers_back front ns from count long many fit =
    fill_by_all (λ k. number_at (front ++ numbers_spelling ns) (from + k)) ns count 0 many
    (λ k below. let here : k < length ns = omega arith in sym (number_back front ns from k long here (All-get_or (λ n. n < 2 ^ 32) ns k 0 here fit)))

-- a byte of a piece is a byte
byte_of : (bytes : List ℕ) (n m i : ℕ) → ((j : ℕ) → get_or bytes j 0 < 256) → get_or (take m (drop n bytes)) i 0 < 256
byte_of bytes n m i fit = elim (cases_lt i m) [
  | inl below ↦ subst (λ (x : ℕ). x < 256) (sym (get_or-take m (drop n bytes) i 0 below ∙ get_or-drop n bytes i 0)) (fit (n + i))
  | inr past ↦ subst (λ (x : ℕ). x < 256) (sym (get_or_past (take m (drop n bytes)) i 0 (omega (arith, length-take m (drop n bytes))))) (omega arith)
]

-- what was read is put again
pub numbers_again : (bytes : List ℕ) (n : ℕ) → ((i : ℕ) → get_or bytes i 0 < 256) → 4 * n ≤ length bytes
    → numbers_spelling (numbers_from bytes 0 n) ≡ take (4 * n) bytes
numbers_again bytes zero fit room = refl
numbers_again bytes (suc n) fit room =
    let f : ℕ → ℕ = λ k. number_at bytes (0 + k) in
    let one : suc n ≡ n + 1 = omega arith in
    let piece = take 4 (drop (4 * n) bytes) in
    let byte : (i : ℕ) → get_or piece i 0 < 256 = λ i. byte_of bytes (4 * n) 4 i fit in
    ap (λ (m : ℕ). numbers_spelling (map f (range_with_len 0 m))) one
    ∙ ap numbers_spelling (map-range_with_len_more f 0 n n (zero-add n))
    ∙ flat_map-append (to_be_bytes w32) (numbers_from bytes 0 n) (number_at bytes (0 + n) ∷ [])
    ∙ ap (λ (m : ℕ). numbers_spelling (numbers_from bytes 0 n) ++ to_be_bytes w32 (number_at bytes m)) (zero-add n)
    ∙ ap (λ (l : List ℕ). l ++ to_be_bytes w32 (number_at bytes n)) (numbers_again bytes n fit (omega arith))
    ∙ ap (λ (l : List ℕ). take (4 * n) bytes ++ l) (be_bytes_4 piece (number_at bytes n) (omega (arith, length-take 4 (drop (4 * n) bytes), length-drop (4 * n) bytes)) byte refl)
    ∙ sym (take-add (4 * n) 4 bytes)
    ∙ ap (λ (m : ℕ). take m bytes) (omega arith)
