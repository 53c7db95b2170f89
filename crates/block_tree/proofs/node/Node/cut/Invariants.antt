use Rattle.std.proofs.Common.{◌≡◌, ℕ, ◌<◌, ◌≤◌}
use Rattle.std.specs.Prelude.{slice_index}
use Rattle.block_tree.specs.Node.{IsNode}
use Rattle.block_tree.proofs.node.Node.cut.Given as goal

abbrev pub invariant-loop-place : goal.invariant-loop-place
invariant-loop-place l = record {
  before : (k : ℕ) → k < l.from → slice_index l.kept.leaves k ≡ slice_index l.self.leaves k;
  past : (k : ℕ) → l.from ≤ k → k < l.place → slice_index l.kept.leaves k ≡ 0;
  good : IsNode l.self → IsNode l.kept;
}
