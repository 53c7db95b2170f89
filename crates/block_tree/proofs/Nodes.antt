-- The pointers of nodes, and where they end.
use Rattle.std.proofs.Common.{◌≡◌, ◌≢◌, inl, inr, ℕ, zero, suc, ◌+◌, ◌<◌, List, [], ◌∷◌, length, get_or, replicate, refl, sym, arith}
use Rattle.std.proofs.lemmas.List.{length-replicate}
use Rattle.block_tree.proofs.Words.{Image, Level, block_at, cases_lt, end_of, get_or-replicate, get_or_past, leaf_pointers, leaves_at, length-map-range_with_len, levels_below, levels_of, node_levels, node_pointers, number_at, pointer, pointers_of, tree_of}

pub zeros : (n k : ℕ) → get_or (replicate {A = ℕ} n 0) k 0 ≡ 0
zeros n k = elim (cases_lt k n) [ inl below ↦ get_or-replicate n k 0 0 below | inr past ↦ get_or_past (replicate n 0) k 0 (omega (arith, past, length-replicate {A = ℕ} n 0)) ]

pub leaves_there : (image : Image) (block : ℕ) → block ≢ 0 → leaves_at image block ≡ pointers_of leaf_pointers (block_at image block)
leaves_there image zero some = absurd (some refl)
leaves_there image (suc n) some = refl

-- a node has so many pointers
pub length-leaves : (image : Image) (p : ℕ) → length (leaves_at image p) ≡ leaf_pointers.count
unfolding pointers_of
length-leaves image zero = length-replicate {A = ℕ} leaf_pointers.count 0
length-leaves image (suc p) = length-map-range_with_len (λ (j : ℕ). number_at (block_at image (suc p)) (0 + j)) 0 leaf_pointers.count

-- the leaf pointers of a node are those of the tree; an absent node has none
pub pointed : (image : Image) (p k : ℕ) → end_of image (leaf_pointers ∷ []) p (k ∷ []) ≡ get_or (leaves_at image p) k 0
pointed image zero k = sym (zeros leaf_pointers.count k)
pointed image (suc p) k = refl

-- ---- past the last level

past_end : (image : Image) (levels : List Level) (n : ℕ) (path : List ℕ) → length levels < length path → end_of image levels n path ≡ 0
past_end image levels n [] long = absurd (omega (arith, long))
past_end image levels zero (k ∷ path) long = refl
past_end image [] (suc n) (k ∷ path) long = refl
past_end image (level ∷ levels) (suc n) (k ∷ path) long = past_end image levels (pointer level (block_at image (suc n)) k) path (omega (arith, long))

pub nothing_below : (image : Image) (content : List ℕ) (m j i : ℕ) (q : List ℕ) → tree_of image content (m ∷ j ∷ i ∷ q) ≡ 0
unfolding levels_of
nothing_below image content m j i q = past_end image (levels_below node_levels) (pointer node_pointers content m) (j ∷ i ∷ q) (omega arith)

pub two_levels : (content : List ℕ) → length (levels_of content) ≡ 2
unfolding levels_of
two_levels content = refl
