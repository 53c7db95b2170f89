use Rattle.normal_files.proofs.Words.{Err, IsTrue, List, ℕ, Ok, sym, subst, arith, true, false}
use Rattle.normal_files.specs.Steps.{WritesBlock}
use Rattle.normal_files.proofs.Come.{come_err, come_then, come_wrote, come_none, write_stopped}
use Rattle.normal_files.proofs.Grown.{flushed_images, grown_entries, grown_stores, written_images}
use Rattle.cfs_base.proofs.Passed.{is_passed}
use Rattle.normal_files.proofs.grow.grow.Goals as goal

pub returns-in_err-write_block-clause-grown : goal.returns-in_err-write_block-clause-grown
returns-in_err-write_block-clause-grown g c = λ kept v more. rw (is_passed c.from_residual.result c.in_err-write_block.field-0.0 c.from_residual.ensures.1) ((
  record { done = tt; images = written_images v more c.requires.allowed (subst (λ (s : List ℕ). WritesBlock g.D.Disk 1 c.args.at.0 s c.args.disk.now c.write_block.new.disk (Err c.in_err-write_block.field-0.0)) c.encode.ensures.spelled c.in_err-write_block.ensures.writes) },
  tt,
))

pub returns-clause-grown : goal.returns-clause-grown
returns-clause-grown g c = λ kept v more.
    let wrote = subst (λ (s : List ℕ). WritesBlock g.D.Disk 1 c.args.at.0 s c.args.disk.now c.write_block.new.disk (Ok tt)) c.encode.ensures.spelled c.in_ok-write_block.ensures.writes in
    let settled = c.in_ok-flush.ensures.settled (subst IsTrue (sym c.in_ok-write_block.ensures.writes.calls.same.honesty) v.store.carries.tells.honest) in (
      record { done = grown_stores v more c.requires.allowed wrote c.flush.ensures.content settled; images = flushed_images v more c.requires.allowed wrote c.flush.ensures.images },
      (settled, grown_entries v more c.requires.allowed wrote c.flush.ensures.content settled),
    )

pub returns-in_err-flush-clause-grown : goal.returns-in_err-flush-clause-grown
returns-in_err-flush-clause-grown g c = λ kept v more. rw (is_passed c.from_residual-in_err-flush.result c.in_err-flush.field-0.0 c.from_residual-in_err-flush.ensures.1) ((
  record { done = tt; images = flushed_images v more c.requires.allowed (subst (λ (s : List ℕ). WritesBlock g.D.Disk 1 c.args.at.0 s c.args.disk.now c.write_block.new.disk (Ok tt)) c.encode.ensures.spelled c.in_ok-write_block.ensures.writes) c.flush.ensures.images },
  tt,
))

pub returns-clause-ends : goal.returns-clause-ends
returns-clause-ends g c = come_then true true (come_wrote c.in_ok-write_block.ensures.writes) c.in_ok-flush.ensures.ends

pub returns-in_err-flush-clause-ends : goal.returns-in_err-flush-clause-ends
returns-in_err-flush-clause-ends g c = rw (is_passed c.from_residual-in_err-flush.result c.in_err-flush.field-0.0 c.from_residual-in_err-flush.ensures.1) ((rw c.in_err-flush.ensures.failed (rw c.in_err-flush.ensures.failed at (come_err {k = 2} {r = 2} true (come_wrote c.in_ok-write_block.ensures.writes) c.in_err-flush.ensures.ends (omega arith) (omega arith)))))

pub returns-in_err-write_block-clause-ends : goal.returns-in_err-write_block-clause-ends
returns-in_err-write_block-clause-ends g c = rw (is_passed c.from_residual.result c.in_err-write_block.field-0.0 c.from_residual.ensures.1) (come_err false (come_none g.D.Disk c.args.disk.now 0 0) (write_stopped c.in_err-write_block.ensures.writes c.in_err-write_block.ensures.failed) (omega arith) (omega arith))
