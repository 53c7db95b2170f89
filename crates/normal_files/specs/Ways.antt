-- A way to a leaf's node.
use Rattle.std.specs.Prelude.{◌≡◌, ℕ}
use Rattle.block_tree.specs.Path.{SamePlaces, path_of}
use Rattle.block_tree.specs.Pointers.{node_levels}
use Rattle.block_tree.specs.declared.along.Way.{Way}

-- all nodes on the way to a leaf's node were read: the way leads to that leaf, or to another of the same node
pub record IsToNode (leaf : ℕ) (way : Way) : Type 0 where
  pub path : SamePlaces node_levels way.path (path_of leaf)
  pub whole : way.read ≡ node_levels
