use Rattle.std.proofs.Common.{◌≡◌}
use Rattle.cfs_check.specs.Uses.{first_uses}
use Rattle.cfs_check.proofs.uses.Uses.none.Given as goal

abbrev pub invariant-loop-block : goal.invariant-loop-block
invariant-loop-block l = l.of.items ≡ first_uses l.block
