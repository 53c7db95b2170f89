use Rattle.std.proofs.Common.{◌≡◌, ◌<◌, ◌≤◌, ℕ, suc, length, get_or}
use Rattle.block_tree.proofs.Descents.{OneAt}
use Rattle.block_tree.proofs.Words.{IsNode, node_levels}
use Rattle.block_tree.specs.Path.{no_node}
use Rattle.block_tree.specs.Way.{with_leaf}
use Rattle.block_tree.proofs.along.Way.put.Given as goal

abbrev pub invariant-loop-depth : goal.invariant-loop-depth
invariant-loop-depth l = record {
  long : length l.nodes ≡ length l.self.nodes;
  one : (d : ℕ) → d < l.depth → OneAt l.self.nodes l.nodes l.self.path l.blocks d;
  put : (d : ℕ) → d < l.depth → get_or l.nodes d no_node ≡ with_leaf (get_or l.self.nodes d no_node) (get_or l.self.path (suc d) 0) (get_or l.blocks (suc d) 0);
  after : (d : ℕ) → l.depth ≤ d → get_or l.nodes d no_node ≡ get_or l.self.nodes d no_node;
  nodes : (d : ℕ) → d < node_levels → IsNode (get_or l.nodes d no_node);
}
