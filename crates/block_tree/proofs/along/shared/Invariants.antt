use Rattle.block_tree.specs.Path.{SamePlaces}
use Rattle.block_tree.proofs.along.shared.Given as goal

abbrev pub invariant-loop-depth : goal.invariant-loop-depth
invariant-loop-depth l = SamePlaces l.depth l.one l.other
