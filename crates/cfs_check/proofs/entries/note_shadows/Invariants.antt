use Rattle.cfs_check.specs.Marks.{AddsMarks}
use Rattle.cfs_check.specs.Surveyed.{IsShadowFault}
use Rattle.cfs_check.proofs.entries.note_shadows.Given as goal

abbrev pub invariant-loop-block : goal.invariant-loop-block
invariant-loop-block l = AddsMarks (IsShadowFault l.image l.roots.blocks l.block) l.initial.marks l.marks
