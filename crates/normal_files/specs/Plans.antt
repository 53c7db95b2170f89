-- A node as it is to be: with the leaves that a write takes.
use Rattle.std.specs.Prelude.{ℕ, Bool}
use Rattle.block_tree.specs.declared.node.Node.{Node}
use Rattle.normal_files.specs.Laid.{node_of}
use Rattle.block_tree.specs.Along.{way_node}
use Rattle.normal_files.specs.declared.next.Next.{Next}

pub record Plan : Type 0 where
  -- its block, or 0 if it has none yet
  pub block : ℕ
  pub node : Node
  -- whether a leaf was taken
  pub grown : Bool

-- the plan of the node with this number, by the root and the way to it as they are to be
abbrev pub plan_of : ℕ → Next → Plan
plan_of n next = record { block = node_of next.root n; node = way_node next.way; grown = next.grown }
