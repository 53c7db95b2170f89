use Rattle.normal_files.proofs.Words.{◌∙◌, IsTrue, true, false, sym, subst, arith}
use Rattle.normal_files.specs.Steps.{Stops}
use Rattle.normal_files.proofs.Come.{come_err, come_none, come_then, come_wrote, write_stopped}
use Rattle.normal_files.proofs.Linking.{through_images, through_wrote}
use Rattle.normal_files.proofs.link.write_through.Goals as goal

pub returns-in-Err-clause-images : goal.returns-in-Err-clause-images
returns-in-Err-clause-images g c = λ settled. through_wrote g.D.Disk c.args.disk.now c.write_block.new.disk c.args.block c.args.content.now _ c.in-Err.ensures.writes settled

pub returns-in-Ok-flush-clause-done : goal.returns-in-Ok-flush-clause-done
returns-in-Ok-flush-clause-done g c = λ settled. (c.flush.ensures.content ∙ c.in-Ok.ensures.writes.written, c.in-Ok-flush.ensures.settled (subst IsTrue (sym c.in-Ok.ensures.writes.calls.same.honesty) settled.tells.honest))

pub returns-in-Ok-flush-clause-images : goal.returns-in-Ok-flush-clause-images
returns-in-Ok-flush-clause-images g c = λ settled. through_images g.D.Disk c.args.disk.now c.write_block.new.disk c.args.block c.args.content.now _ c.in-Ok.ensures.writes settled c.flush.new.disk c.flush.ensures.images

pub returns-in-Err-flush-clause-images : goal.returns-in-Err-flush-clause-images
returns-in-Err-flush-clause-images g c = λ settled. through_images g.D.Disk c.args.disk.now c.write_block.new.disk c.args.block c.args.content.now _ c.in-Ok.ensures.writes settled c.flush.new.disk c.flush.ensures.images

pub returns-in-Err-clause-ends : goal.returns-in-Err-clause-ends
returns-in-Err-clause-ends g c = come_err false (come_none g.D.Disk c.args.disk.now 0 0) (write_stopped c.in-Err.ensures.writes c.in-Err.ensures.failed) (omega arith) (omega arith)

pub returns-in-Ok-flush-clause-ends : goal.returns-in-Ok-flush-clause-ends
returns-in-Ok-flush-clause-ends g c = come_then true true (come_wrote c.in-Ok.ensures.writes) c.in-Ok-flush.ensures.ends

pub returns-in-Err-flush-clause-ends : goal.returns-in-Err-flush-clause-ends
returns-in-Err-flush-clause-ends g c =
    subst (Stops g.D.Disk 2 2 c.args.disk.now c.flush.new.disk) (sym c.after.ensures) (come_err true (come_wrote c.in-Ok.ensures.writes) c.in-Err-flush.ensures.ends (omega arith) (omega arith))
