use Rattle.std.proofs.Common.{inl, inr}
use Rattle.cfs_serve.proofs.SureDisks.{never_due, never_recording, stays_sure}
use Rattle.cfs_serve.proofs.sure_disk.SureDiskDisk.barrier.Goals as goal

pub invariant_of-self : goal.invariant_of-self
invariant_of-self c = record { sure = stays_sure c.args.self.now.disk c.barrier.new.self c.barrier.ensures.plan c.args.self.now.sure }

pub unreachable-requires : goal.unreachable-requires
unreachable-requires c = elim c.in-Err.ensures.failed [
  | inl due ↦ never_due c.args.self.now.disk c.args.self.now.sure due.due
  | inr starved ↦ never_recording c.args.self.now.disk c.args.self.now.sure starved.recording
]
