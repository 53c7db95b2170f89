use Rattle.cfs_check.specs.Repair.{AreHealed}
use Rattle.cfs_check.proofs.healed.check_healed.Given as goal

abbrev pub invariant-loop-fault : goal.invariant-loop-fault
invariant-loop-fault l = AreHealed l.uses l.faults l.fault-index
