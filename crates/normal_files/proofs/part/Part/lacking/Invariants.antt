use Rattle.normal_files.proofs.Words.{◌≡◌, ◌-◌, ◌≤◌}
use Rattle.normal_files.specs.Parts.{lacking_to}
use Rattle.block_tree.specs.Along.{way_leaves}
use Rattle.normal_files.proofs.part.Part.lacking.Given as goal

abbrev pub invariant-loop-leaf : goal.invariant-loop-leaf
invariant-loop-leaf l = record {
  count : l.count ≡ lacking_to (way_leaves l.self.way) l.self.leaves.from l.leaf;
  most : l.count ≤ l.leaf - l.self.leaves.from;
}
