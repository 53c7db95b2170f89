use Rattle.cfs_serve.proofs.SureDisks.{never_due, stays_sure}
use Rattle.cfs_serve.proofs.sure_disk.SureDiskDisk.read.Goals as goal

pub invariant_of-self : goal.invariant_of-self
invariant_of-self c = record { sure = stays_sure c.args.self.now.disk c.read.new.self c.read.ensures.plan c.args.self.now.sure }

pub unreachable-requires : goal.unreachable-requires
unreachable-requires c = never_due c.args.self.now.disk c.args.self.now.sure c.in-Err.ensures.failed.due
