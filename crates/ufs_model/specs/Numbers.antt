-- Lists of numbers in increasing order, and lists of such lists, level by level.
use Rattle.std.specs.Prelude.{ℕ, zero, suc, ◌+◌, ◌/◌, Bool, true, not, ◌&&◌, ◌==◌, nat_lt, if◌then◌else◌, List, [], ◌∷◌}
use Rattle.std.specs.Prelude.{length, map, filter}
use Rattle.std.specs.List.{list_any, list_all}
use Rattle.ufs_model.specs.Limits.{fan_out}

abbrev pub has_number : ℕ → List ℕ → Bool
has_number n ns = list_any (λ m. m == n) ns

abbrev pub numbers_rise : List ℕ → Bool
numbers_rise [] = true
numbers_rise (n ∷ ns) = list_all (nat_lt n) ns && numbers_rise ns

-- the numbers with one more, at its place
abbrev pub with_number : ℕ → List ℕ → List ℕ
with_number n [] = n ∷ []
with_number n (m ∷ ms) = if n == m then m ∷ ms else (if nat_lt n m then n ∷ m ∷ ms else m ∷ with_number n ms)

-- the second list of numbers, with those of the first added
abbrev pub with_numbers : List ℕ → List ℕ → List ℕ
with_numbers [] ms = ms
with_numbers (n ∷ ns) ms = with_number n (with_numbers ns ms)

-- the numbers of the first list that are not in the second, and those that are
abbrev pub lacking : List ℕ → List ℕ → List ℕ
lacking ns ms = filter (λ n. not (has_number n ms)) ns

abbrev pub shared : List ℕ → List ℕ → List ℕ
shared ns ms = filter (λ n. has_number n ms) ns

-- the inner blocks that lead to these blocks
abbrev pub parents : List ℕ → List ℕ
parents ns = with_numbers (map (λ n. n / fan_out) ns) []

-- these leaves, and n levels of inner blocks above them
abbrev pub branches : ℕ → List ℕ → List (List ℕ)
branches zero leaves = leaves ∷ []
branches (suc n) leaves = leaves ∷ branches n (parents leaves)

-- ---- level by level, where a level that isn't there has no block

abbrev pub first_level : List (List ℕ) → List ℕ
first_level [] = []
first_level (ns ∷ levels) = ns

abbrev pub next_levels : List (List ℕ) → List (List ℕ)
next_levels [] = []
next_levels (ns ∷ levels) = levels

-- how many blocks of the first are not in the second
abbrev pub missing : List (List ℕ) → List (List ℕ) → ℕ
missing [] there = 0
missing (ns ∷ levels) there = length (lacking ns (first_level there)) + missing levels (next_levels there)

-- the second with the blocks of the first added
abbrev pub merged : List (List ℕ) → List (List ℕ) → List (List ℕ)
merged [] there = there
merged (ns ∷ levels) there = with_numbers ns (first_level there) ∷ merged levels (next_levels there)

-- those blocks of the first that are in the second
abbrev pub within : List (List ℕ) → List (List ℕ) → List (List ℕ)
within [] there = []
within (ns ∷ levels) there = shared ns (first_level there) ∷ within levels (next_levels there)
