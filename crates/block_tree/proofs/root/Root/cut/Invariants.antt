use Rattle.std.proofs.Common.{◌≡◌, ℕ, ◌<◌, ◌≤◌}
use Rattle.std.specs.Prelude.{slice_index}
use Rattle.block_tree.specs.Root.{Fits}
use Rattle.block_tree.proofs.root.Root.cut.Given as goal

abbrev pub invariant-loop-number : goal.invariant-loop-number
invariant-loop-number l = record {
  kind : l.kept.kind ≡ l.self.kind;
  fill : l.kept.fill ≡ l.self.fill;
  word : l.kept.word ≡ l.self.word;
  size : l.kept.size ≡ l.self.size;
  before : (k : ℕ) → k < l.from → slice_index l.kept.nodes k ≡ slice_index l.self.nodes k;
  past : (k : ℕ) → l.from ≤ k → k < l.number → slice_index l.kept.nodes k ≡ 0;
  fits : Fits l.self → Fits l.kept;
}
