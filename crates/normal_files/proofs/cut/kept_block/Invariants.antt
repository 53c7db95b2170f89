use Rattle.normal_files.proofs.Words.{◌≡◌, ℕ, ◌<◌, get_or}
use Rattle.normal_files.proofs.cut.kept_block.Given as goal

abbrev pub invariant-loop-before : goal.invariant-loop-before
invariant-loop-before l = (k : ℕ) → k < l.before → get_or l.node.leaves k 0 ≡ 0
