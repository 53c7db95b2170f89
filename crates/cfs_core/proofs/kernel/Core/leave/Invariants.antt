use Rattle.std.proofs.Common.{length}
use Rattle.cfs_core.proofs.Words.{grants_of}
use Rattle.cfs_core.specs.Kernel.{grants_in}
use Rattle.cfs_core.specs.Leaving.{Sheds}
use Rattle.cfs_core.proofs.kernel.Core.leave.Given as goal

abbrev pub invariant-loop-grant : goal.invariant-loop-grant
invariant-loop-grant g l = Sheds g.D.Disk l.who l.fn.self l.self

abbrev pub decreases-loop-grant : goal.decreases-loop-grant
decreases-loop-grant g l = length (grants_of (grants_in l.self.handles) l.who)
