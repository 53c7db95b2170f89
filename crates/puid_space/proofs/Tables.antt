-- A table as a whole: how many identifiers it counts, and what changes keep it.
use Rattle.std.proofs.Common.{◌≡◌, ◌≢◌, ℕ, zero, suc, ◌+◌, ◌-◌, ◌^◌, ◌<◌, ◌≤◌, List, [], ◌∷◌, ◌++◌, length, get_or, set, replicate, refl, sym, ap, ◌∙◌, arith, Option, Some, None, true, false, eqb, add-zero, length-append, append-nil, get_or-set_same, get_or-set_other}
use Rattle.puid_space.proofs.Words.{Cell, IsTable, length-replicate, length-set, listed, nat_tests}

-- ---- how many

abbrev pub count_here : Option Cell → ℕ
count_here None = 0
count_here (Some cell) = 1

pub length-listed : (b : ℕ) (cells : List (Option Cell)) → length (listed b cells) ≤ length cells
length-listed b [] = omega arith
length-listed b (None ∷ cells) = omega (arith, length-listed (b + 1) cells)
length-listed b (Some cell ∷ cells) = omega (arith, length-listed (b + 1) cells)

pub length-set_listed : (b : ℕ) (cells : List (Option Cell)) (i : ℕ) (x : Option Cell) → i < length cells
    → length (listed b (set cells i x)) + count_here (get_or cells i None) ≡ length (listed b cells) + count_here x
length-set_listed b [] i x h = absurd (omega arith)
length-set_listed b (None ∷ cells) zero None h = refl
length-set_listed b (None ∷ cells) zero (Some c) h = omega arith
length-set_listed b (Some d ∷ cells) zero None h = omega arith
length-set_listed b (Some d ∷ cells) zero (Some c) h = refl
length-set_listed b (None ∷ cells) (suc i) x h = length-set_listed (b + 1) cells i x (omega arith)
length-set_listed b (Some d ∷ cells) (suc i) x h = omega (arith, length-set_listed (b + 1) cells i x (omega arith))

-- ---- the table as a whole

words-set : (cells : List (Option Cell)) (i : ℕ) (x : Option Cell) → i < length cells
    → ((n : ℕ) (cell : Cell) → get_or cells n None ≡ Some cell → cell.word < 2 ^ 32) → ((cell : Cell) → x ≡ Some cell → cell.word < 2 ^ 32)
    → (n : ℕ) (cell : Cell) → get_or (set cells i x) n None ≡ Some cell → cell.word < 2 ^ 32
words-set cells i x inside fit here n cell is =
    elim (eqb n i) as (λ t. eqb n i ≡ t → cell.word < 2 ^ 32) [
      | true ↦ λ same. let at : n ≡ i = grind (arith, nat_tests) in here cell (sym (get_or-set_same cells i x None inside) ∙ (rw at at is))
      | false ↦ λ other. let off : n ≢ i = grind (arith, nat_tests) in fit n cell (sym (get_or-set_other cells i n x None off) ∙ is)
    ] refl

pub IsTable-filled : (cells : List (Option Cell)) (n i : ℕ) (cell : Cell) → IsTable cells n → i < length cells → get_or cells i None ≡ None → cell.word < 2 ^ 32
    → IsTable (set cells i (Some cell)) (n + 1)
IsTable-filled cells n i cell table inside free fits =
    let more = length-set_listed 0 cells i (Some cell) inside in
    let none = ap count_here free in
    let counted = table.counted in
    let small = table.room in
    record {
      counted = omega arith;
      room = rw length-set small;
      words = words-set cells i (Some cell) inside table.words (λ c is. let same : cell ≡ c = cc in rw (← same) fits);
    }

pub IsTable-emptied : (cells : List (Option Cell)) (n i : ℕ) (cell : Cell) → IsTable cells n → i < length cells → get_or cells i None ≡ Some cell
    → IsTable (set cells i None) (n - 1)
IsTable-emptied cells n i cell table inside there =
    let less = length-set_listed 0 cells i None inside in
    let one = ap count_here there in
    let counted = table.counted in
    let small = table.room in
    record {
      counted = omega arith;
      room = rw length-set small;
      words = words-set cells i None inside table.words (λ c is. cc);
    }

pub listed-empty : (b more : ℕ) → listed b (replicate more None) ≡ []
listed-empty b zero = refl
listed-empty b (suc more) = listed-empty (b + 1) more

pub listed-append : (b : ℕ) (xs ys : List (Option Cell)) → listed b (xs ++ ys) ≡ listed b xs ++ listed (b + length xs) ys
listed-append b [] ys = rw add-zero refl
listed-append b (None ∷ xs) ys =
    let n : b + 1 + length xs ≡ b + suc (length xs) = omega arith in
    listed-append (b + 1) xs ys ∙ ap (λ n. listed (b + 1) xs ++ listed n ys) n
listed-append b (Some cell ∷ xs) ys =
    let n : b + 1 + length xs ≡ b + suc (length xs) = omega arith in
    ap (λ rest. (record { block = b; word = cell.word }, cell.kind) ∷ rest) (listed-append (b + 1) xs ys ∙ ap (λ n. listed (b + 1) xs ++ listed n ys) n)

pub listed-grown : (cells : List (Option Cell)) (more : ℕ) → listed 0 (cells ++ replicate more None) ≡ listed 0 cells
listed-grown cells more = rw (listed-append 0 cells (replicate more None), listed-empty (0 + length cells) more) (append-nil (listed 0 cells))

get_or-more : (cells : List (Option Cell)) (more n : ℕ) → get_or (cells ++ replicate more None) n None ≡ get_or cells n None
get_or-more [] zero n = refl
get_or-more [] (suc more) zero = refl
get_or-more [] (suc more) (suc n) = get_or-more [] more n
get_or-more (cell ∷ cells) more zero = refl
get_or-more (cell ∷ cells) more (suc n) = get_or-more cells more n

pub IsTable-grown : (cells : List (Option Cell)) (n more : ℕ) → IsTable cells n → length cells + more < 2 ^ 32 → IsTable (cells ++ replicate more None) n
IsTable-grown cells n more table small = record {
  counted = table.counted ∙ ap length (sym (listed-grown cells more));
  room = simp (length-append, length-replicate) small;
  words = λ n cell is. table.words n cell (sym (get_or-more cells more n) ∙ is);
}
