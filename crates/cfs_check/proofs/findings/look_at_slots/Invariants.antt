use Rattle.cfs_check.specs.Findings.{IsLookAtSlots}
use Rattle.cfs_check.proofs.findings.look_at_slots.Given as goal

abbrev pub invariant-loop-slot : goal.invariant-loop-slot
invariant-loop-slot l = IsLookAtSlots l.image l.roots.blocks l.extent l.leaf l.content l.slot l.bad l.new
