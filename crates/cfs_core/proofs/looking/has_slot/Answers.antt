use Rattle.std.proofs.Common.{◌/◌, arith}
use Rattle.cfs_core.proofs.Looked.{below}
use Rattle.cfs_core.proofs.looking.has_slot.Goals as goal

pub returns-clause-has : goal.returns-clause-has
returns-clause-has c = λ is. omega (arith, below c.args.slot (c.args.root.now.size / 8) is)
