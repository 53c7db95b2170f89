-- The first identifier from a number on.
use Rattle.std.proofs.Common.{◌≡◌, ◌⊎◌, ⊎_elim, ◌/◌, ◌%◌, ℕ, zero, suc, ◌+◌, ◌*◌, ◌^◌, ◌<◌, ◌≤◌, List, [], ◌∷◌, ◌++◌, get_or, drop, refl, ◌∙◌, arith, Option, Some, None, true, false, leb, add-one}
use Rattle.puid_space.proofs.Words.{Cell, Kind, Puid, first_in, listed, nat_tests, number_of}

-- ---- what is left from a block on

-- what a cell lists
abbrev pub listed_here : ℕ → Option Cell → List (Puid × Kind)
listed_here block None = []
listed_here block (Some cell) = (record { block = block; word = cell.word }, cell.kind) ∷ []

pub listed-drop : (b : ℕ) (cells : List (Option Cell)) (n : ℕ) → listed b (drop n cells) ≡ listed_here b (get_or cells n None) ++ listed (b + 1) (drop (n + 1) cells)
listed-drop b [] zero = refl
listed-drop b [] (suc n) = rw (add-one (suc n)) refl
listed-drop b (None ∷ cells) zero = refl
listed-drop b (Some cell ∷ cells) zero = refl
listed-drop b (cell ∷ cells) (suc n) = rw (add-one (suc n)) (rw (add-one n) at (listed-drop b cells n))

-- ---- the first from a number on

-- the numbers of a block's identifiers
number-past : (number : ℕ) (id : Puid) → number / 2 ^ 32 < id.block → leb number (number_of id) ≡ true
number-past number id h = let split : number ≡ number / 2 ^ 32 * 2 ^ 32 + number % 2 ^ 32 = omega arith in grind (arith, nat_tests)

number-here : (number : ℕ) (id : Puid) → id.block ≡ number / 2 ^ 32 → leb number (number_of id) ≡ leb (number % 2 ^ 32) id.word
number-here number id h = let split : number ≡ number / 2 ^ 32 * 2 ^ 32 + number % 2 ^ 32 = omega arith in grind (arith, nat_tests)

number-short : (number : ℕ) (id : Puid) → id.block < number / 2 ^ 32 → id.word < 2 ^ 32 → leb number (number_of id) ≡ false
number-short number id h fits = let split : number ≡ number / 2 ^ 32 * 2 ^ 32 + number % 2 ^ 32 = omega arith in grind (arith, nat_tests)

-- the identifiers of the blocks below are too small
pub first_in-later : (number b : ℕ) (cells : List (Option Cell)) (i n : ℕ) → n ≡ b + i → n ≤ number / 2 ^ 32
    → ((k : ℕ) (cell : Cell) → get_or cells k None ≡ Some cell → cell.word < 2 ^ 32)
    → first_in (listed b cells) number ≡ first_in (listed n (drop i cells)) number
first_in-later number b [] zero n is le fit = refl
first_in-later number b [] (suc i) n is le fit = refl
first_in-later number b (cell ∷ cells) zero n is le fit = let same : n ≡ b = omega arith in rw same refl
first_in-later number b (None ∷ cells) (suc i) n is le fit = first_in-later number (b + 1) cells i n (omega arith) le (λ k cell at. fit (suc k) cell at)
first_in-later number b (Some cell ∷ cells) (suc i) n is le fit =
    rw (number-short number (record { block = b; word = cell.word }) (omega arith) (fit zero cell refl))
    (first_in-later number (b + 1) cells i n (omega arith) le (λ k cell at. fit (suc k) cell at))

-- one block on
pub first_in-none : (number : ℕ) (cells : List (Option Cell)) (n : ℕ) → get_or cells n None ≡ None
    → first_in (listed n (drop n cells)) number ≡ first_in (listed (n + 1) (drop (n + 1) cells)) number
first_in-none number cells n none = rw (listed-drop n cells n, none) refl

pub first_in-found : (number : ℕ) (cells : List (Option Cell)) (n : ℕ) (cell : Cell) → get_or cells n None ≡ Some cell
    → (number / 2 ^ 32 < n) ⊎ ((n ≡ number / 2 ^ 32) × (number % 2 ^ 32 ≤ cell.word))
    → first_in (listed n (drop n cells)) number ≡ Some (record { block = n; word = cell.word })
first_in-found number cells n cell some large =
    let yes' : leb number (number_of (record { block = n; word = cell.word })) ≡ true =
    ⊎_elim (number-past number (record { block = n; word = cell.word }))
    (λ h. number-here number (record { block = n; word = cell.word }) h.0 ∙ grind (arith, nat_tests)) large in
    rw (listed-drop n cells n, some, yes') refl
