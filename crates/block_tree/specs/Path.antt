-- The path of a leaf, and what is kept of the nodes along it.
use Rattle.std.specs.Prelude.{◌≡◌, ℕ, suc, ◌<◌, ◌≤◌, List, [], ◌∷◌, get_or}
use Rattle.block_tree.specs.Node.{IsNode}
use Rattle.block_tree.specs.Pointers.{leaf_pointers, levels_below, node_levels, node_pointers}
use Rattle.block_tree.specs.Tree.{path_to}
use Rattle.block_tree.specs.declared.node.Node.{Node}

-- the path of a leaf below any root
abbrev pub path_of : ℕ → List ℕ
path_of leaf = path_to (node_pointers ∷ levels_below node_levels) leaf

-- the place of a pointer of the root, and then one in each node
pub record IsPath (path : List ℕ) : Type 0 where
  pub top : get_or path 0 0 < node_pointers.count
  pub rest : (d : ℕ) → get_or path (suc d) 0 < leaf_pointers.count

-- the first n places of two paths are the same
abbrev pub SamePlaces : ℕ → List ℕ → List ℕ → Type 0
SamePlaces n p q = (d : ℕ) → d < n → get_or p d 0 ≡ get_or q d 0

-- a node without pointers
abbrev pub no_node : Node
no_node = record { leaves = [] }

-- a path, and the nodes along it, of which the first `read` were read
pub record IsGoodWay (path : List ℕ) (nodes : List Node) (read : ℕ) : Type 0 where
  pub places : IsPath path
  pub each : (d : ℕ) → d < node_levels → IsNode (get_or nodes d no_node)
  pub most : read ≤ node_levels
