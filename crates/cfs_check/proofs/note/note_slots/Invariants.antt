use Rattle.cfs_check.specs.Findings.{IsNamedBy}
use Rattle.cfs_check.specs.Roots.{AddsRoots}
use Rattle.cfs_check.proofs.note.note_slots.Given as goal

abbrev pub invariant-loop-slot : goal.invariant-loop-slot
invariant-loop-slot l = AddsRoots (IsNamedBy l.image l.extent l.leaf l.content l.slot) l.initial.roots l.roots
