use Rattle.normal_files.proofs.Words.{◌∙◌, Err, ap, sym, subst, arith, ◌+◌, ◌-◌, ◌*◌, refused_by, ◌||◌}
use Rattle.normal_files.specs.Ends.{Halts, is_damaged}
use Rattle.normal_files.specs.Parts.{part_need}
use Rattle.normal_files.specs.View.{way_of}
use Rattle.normal_files.specs.Writes.{WroteFile}
use Rattle.normal_files.proofs.Ending.{gone_come, gone_err, gone_then, gone_within, still_sound, stopped_sound, gone_last, same_disk}
use Rattle.normal_files.proofs.WriteParts.{begun, end_images, end_wrote, may, refused_wrote}
use Rattle.normal_files.proofs.writing.write_parts.Goals as goal

pub returns-in-Err-clause-writes : goal.returns-in-Err-clause-writes
returns-in-Err-clause-writes g c = λ v is.
    subst (WroteFile v c.args.offset c.args.bytes.now c.put_both.new.disk c.args.space.now) (ap Err (sym c.from.ensures))
    (refused_wrote is _ (c.in-Err.ensures.puts c.args.at.0 (way_of v) c.args.space.now (begun is) is.low_is is.high_is) (stopped_sound g.D.Disk c.args.disk.now c.put_both.new.disk c.in-Err.trouble c.in-Err.ensures.ends.refused))

pub returns-in-Err-clause-ends : goal.returns-in-Err-clause-ends
returns-in-Err-clause-ends g c =
    let parts = c.requires.parts in
    subst (Halts g.D.Disk (7 * (c.args.high.now.leaves.to - c.args.low.now.leaves.from) + 7) (4 * (c.args.high.now.leaves.to - c.args.low.now.leaves.from) + 7) (part_need c.args.root.now c.args.low.now + part_need c.args.root.now c.args.high.now) c.args.disk.now c.put_both.new.disk c.args.space.now c.args.space.now) (sym c.from.ensures)
    (gone_within (gone_come c.in-Err.ensures.ends c.args.space.now) (omega arith) (omega arith) (omega arith))

pub returns-in-Err-take_both-clause-writes : goal.returns-in-Err-take_both-clause-writes
returns-in-Err-take_both-clause-writes g c = λ v is.
    let put = c.in-Ok.ensures.puts c.args.at.0 (way_of v) c.args.space.now (begun is) is.low_is is.high_is in
    let two = c.in-Err-take_both.ensures.takes (way_of v) (may is put.0 put.1) in
    subst (WroteFile v c.args.offset c.args.bytes.now c.take_both.new.disk c.take_both.new.space) (ap Err (sym c.refused.ensures)) (refused_wrote is _ two.0 (still_sound c.in-Ok.tried c.in-Err-take_both.error two.1))

pub returns-in-Err-take_both-clause-ends : goal.returns-in-Err-take_both-clause-ends
returns-in-Err-take_both-clause-ends g c =
    let parts = c.requires.parts in
    subst (Halts g.D.Disk (7 * (c.args.high.now.leaves.to - c.args.low.now.leaves.from) + 7) (4 * (c.args.high.now.leaves.to - c.args.low.now.leaves.from) + 7) (part_need c.args.root.now c.args.low.now + part_need c.args.root.now c.args.high.now) c.args.disk.now c.take_both.new.disk c.args.space.now c.take_both.new.space) (sym c.refused.ensures)
    (gone_within (gone_err c.in-Ok.tried c.in-Err-take_both.error (gone_come c.in-Ok.ensures.ends c.args.space.now) c.in-Err-take_both.ensures.ends) (omega (arith, parts.next, parts.low_read.some, parts.high_read.some)) (omega (arith, parts.next, parts.low_read.some, parts.high_read.some)) (omega arith))

pub returns-in-Ok-end_write-clause-writes : goal.returns-in-Ok-end_write-clause-writes
returns-in-Ok-end_write-clause-writes g c = λ v is.
    let put = c.in-Ok.ensures.puts c.args.at.0 (way_of v) c.args.space.now (begun is) is.low_is is.high_is in
    let two = c.in-Ok-take_both.ensures.takes (way_of v) (may is put.0 put.1) in
    let done = c.in-Ok-end_write.ensures.done two.0.amid.tells in
    end_wrote is c.requires.parts put.1 two.0 two.1 (c.in-Ok-end_write.ensures.images two.0.amid.tells) done.0 done.1

pub returns-in-Ok-end_write-clause-ends : goal.returns-in-Ok-end_write-clause-ends
returns-in-Ok-end_write-clause-ends g c =
    let parts = c.requires.parts in
    gone_within (gone_last c.in-Ok.tried (c.in-Ok-take_both.both.low.grown || c.in-Ok-take_both.both.high.grown) (gone_come c.in-Ok.ensures.ends c.args.space.now) c.in-Ok-take_both.ensures.ends c.in-Ok-end_write.ensures.ends)
    (omega (arith, parts.next, parts.low_read.some, parts.high_read.some)) (omega (arith, parts.next, parts.low_read.some, parts.high_read.some)) (omega arith)

pub returns-in-Err-end_write-clause-writes : goal.returns-in-Err-end_write-clause-writes
returns-in-Err-end_write-clause-writes g c = λ v is.
    let put = c.in-Ok.ensures.puts c.args.at.0 (way_of v) c.args.space.now (begun is) is.low_is is.high_is in
    let two = c.in-Ok-take_both.ensures.takes (way_of v) (may is put.0 put.1) in
    record {
      file = record { done = tt; images = end_images is c.requires.parts put.1 two.0 two.1 (c.in-Err-end_write.ensures.images two.0.amid.tells) };
      settled = tt;
      order = tt;
      sound = ap is_damaged c.from-in-Err-end_write.ensures ∙ stopped_sound g.D.Disk c.take_both.new.disk c.end_write.new.disk c.in-Err-end_write.trouble c.in-Err-end_write.ensures.ends.refused;
    }

pub returns-in-Err-end_write-clause-ends : goal.returns-in-Err-end_write-clause-ends
returns-in-Err-end_write-clause-ends g c =
    let parts = c.requires.parts in
    let tried = c.in-Ok.tried || (c.in-Ok-take_both.both.low.grown || c.in-Ok-take_both.both.high.grown) in
    subst (Halts g.D.Disk (7 * (c.args.high.now.leaves.to - c.args.low.now.leaves.from) + 7) (4 * (c.args.high.now.leaves.to - c.args.low.now.leaves.from) + 7) (part_need c.args.root.now c.args.low.now + part_need c.args.root.now c.args.high.now) c.args.disk.now c.end_write.new.disk c.args.space.now c.take_both.new.space)
    (same_disk tried c.in-Err-end_write.ensures.failed ∙ sym c.from-in-Err-end_write.ensures)
    (gone_within (gone_err tried (refused_by c.in-Err-end_write.trouble) (gone_then c.in-Ok.tried _ (gone_come c.in-Ok.ensures.ends c.args.space.now) c.in-Ok-take_both.ensures.ends) (gone_come c.in-Err-end_write.ensures.ends c.take_both.new.space))
    (omega (arith, parts.next, parts.low_read.some, parts.high_read.some)) (omega (arith, parts.next, parts.low_read.some, parts.high_read.some)) (omega arith))
