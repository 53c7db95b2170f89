-- A node, and the block that spells it.
use Rattle.std.specs.Prelude.{◌≡◌, ℕ, ◌<◌, ◌^◌, List, length}
use Rattle.std.specs.List.{All}
use Rattle.block_tree.specs.declared.node.Node.{Node}
use Rattle.block_tree.specs.Pointers.{leaf_pointers, numbers_spelling}

-- as many numbers as a node has pointers, of 4 bytes each
pub record IsNode (node : Node) : Type 0 where
  pub count : length node.leaves ≡ leaf_pointers.count
  pub fit : All (λ n. n < 2 ^ 32) node.leaves

-- the bytes of its block
abbrev pub node_spelling : Node → List ℕ
node_spelling node = numbers_spelling node.leaves
