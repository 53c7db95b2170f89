use Rattle.std.proofs.Common.{◌≡◌, length}
use Rattle.cfs_recover.specs.Entries.{AreStanding}
use Rattle.cfs_check.specs.Marks.{AddsMarks}
use Rattle.cfs_check.specs.Surveyed.{IsEntryFault}
use Rattle.cfs_check.proofs.entries.note_entries.Given as goal

abbrev pub invariant-loop-block : goal.invariant-loop-block
invariant-loop-block l = record {
  faults : AddsMarks (IsEntryFault l.image l.block) l.initial.marks l.marks;
  stand : AreStanding l.image 0 l.initial.standing → AreStanding l.image l.block l.standing;
  size : length l.standing ≡ length l.initial.standing;
}
