use Rattle.std.proofs.Common.{◌≡◌, ◌<◌, ◌≤◌, ℕ, suc, length, get_or}
use Rattle.block_tree.proofs.Words.{IsNode, node_levels}
use Rattle.block_tree.specs.Path.{no_node}
use Rattle.block_tree.specs.Way.{CutsPast}
use Rattle.block_tree.proofs.along.Way.cut.Given as goal

abbrev pub invariant-loop-depth : goal.invariant-loop-depth
invariant-loop-depth l = record {
  long : length l.nodes ≡ length l.self.nodes;
  past : (d : ℕ) → d < l.depth → CutsPast (λ j. get_or (get_or l.self.nodes d no_node).leaves j 0) (get_or l.self.path (suc d) 0) (get_or l.blocks (suc d) 0) (λ j. get_or (get_or l.nodes d no_node).leaves j 0);
  after : (d : ℕ) → l.depth ≤ d → get_or l.nodes d no_node ≡ get_or l.self.nodes d no_node;
  nodes : (d : ℕ) → d < node_levels → IsNode (get_or l.nodes d no_node);
}
