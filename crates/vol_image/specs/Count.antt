-- How many blocks a tree holds.
use Rattle.std.specs.Prelude.{ℕ, zero, suc, ◌+◌, is_some, List, [], ◌∷◌, length, take, filter}
use Rattle.std.specs.List.{sum_by, range_with_len}
use Rattle.block_tree.specs.Pointers.{width}
use Rattle.block_tree.specs.Tree.{levels_of, path_to}
use Rattle.vol_image.specs.Seen.{Tree}

-- the numbers of the blocks that are held d levels below the root; at the depth of all levels these are the leaves
abbrev pub held_at_depth : Tree → ℕ → List ℕ
held_at_depth tree d =
    filter (λ n. is_some (tree.below (path_to (take d (levels_of tree.root)) n)))
    (range_with_len 0 (width (take d (levels_of tree.root))))

-- level by level, from this depth up to the first below the root
abbrev pub levels_held : Tree → ℕ → List (List ℕ)
levels_held tree zero = []
levels_held tree (suc d) = held_at_depth tree (suc d) ∷ levels_held tree d

-- the root's block, and all below it
abbrev pub blocks_held : Tree → ℕ
blocks_held tree = 1 + sum_by length (levels_held tree (length (levels_of tree.root)))
