use Rattle.std.proofs.Common.{◌≡◌, ◌∙◌, ℕ, refl, length, subst, arith, List, Bool}
use Rattle.cfs_recover.specs.Entries.{AreStanding}
use Rattle.cfs_check.specs.Marks.{AddsMarks}
use Rattle.cfs_check.specs.Surveyed.{IsEntryFault}
use Rattle.cfs_check.proofs.Entered.{adds_nothing, entries_more, no_entry_fault}
use Rattle.cfs_check.proofs.entries.note_entries.Goals as goal

pub loop-block-init : goal.loop-block-init
loop-block-init c = record {
  faults = adds_nothing (IsEntryFault c.args.image.now 0) c.args.marks.now (no_entry_fault c.args.image.now);
  stand = λ are. are;
  size = refl;
}

pub loop-block-preserved : goal.loop-block-preserved
loop-block-preserved c = record {
  faults = entries_more c.args.image.now c.loop-block.block c.args.marks.now c.loop-block.marks c.note_entry.new.marks c.loop-block.invariant.faults c.note_entry.ensures.faults;
  stand = λ are. c.note_entry.ensures.stand (c.loop-block.invariant.stand are);
  size = c.note_entry.ensures.size ∙ c.loop-block.invariant.size;
}

pub note_entry-requires-clause-standing : goal.note_entry-requires-clause-standing
note_entry-requires-clause-standing c = c.loop-block.invariant.size ∙ c.requires.standing

pub note_entry-requires-clause-marks : goal.note_entry-requires-clause-marks
note_entry-requires-clause-marks c = c.loop-block.invariant.faults.size ∙ c.requires.marks

pub returns-clause-faults : goal.returns-clause-faults
returns-clause-faults c =
    let end : c.loop-block.block ≡ length c.args.image.now = omega (arith, c.loop-block-test.false, c.loop-block.auto.block-end, c.blocks-block-end.ensures.is) in
    subst (λ (n : ℕ). AddsMarks (IsEntryFault c.args.image.now n) c.args.marks.now c.loop-block.marks) end c.loop-block.invariant.faults

pub returns-clause-stand : goal.returns-clause-stand
returns-clause-stand c are =
    let end : c.loop-block.block ≡ length c.args.image.now = omega (arith, c.loop-block-test.false, c.loop-block.auto.block-end, c.blocks-block-end.ensures.is) in
    subst (λ (n : ℕ). AreStanding c.args.image.now n c.loop-block.standing) end (c.loop-block.invariant.stand are)
