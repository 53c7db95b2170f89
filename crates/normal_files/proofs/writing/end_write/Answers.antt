use Rattle.normal_files.proofs.Words.{◌∙◌, false, true, sym, subst, arith}
use Rattle.normal_files.specs.Steps.{Stops}
use Rattle.normal_files.proofs.Come.{come_err, come_none, come_then}
use Rattle.normal_files.proofs.WriteParts.{after_is}
use Rattle.normal_files.proofs.writing.end_write.Goals as goal

pub returns-in-Err-clause-ends : goal.returns-in-Err-clause-ends
returns-in-Err-clause-ends g c = come_err false (come_none g.D.Disk c.args.disk.now 0 0) c.in-Err.ensures.ends (omega arith) (omega arith)

pub returns-in-Ok-link_both-clause-ends : goal.returns-in-Ok-link_both-clause-ends
returns-in-Ok-link_both-clause-ends g c = come_then true _ c.in-Ok.ensures.ends c.in-Ok-link_both.ensures.ends

pub returns-in-Err-link_both-clause-ends : goal.returns-in-Err-link_both-clause-ends
returns-in-Err-link_both-clause-ends g c =
    subst (Stops g.D.Disk 5 5 c.args.disk.now c.link_both.new.disk) (sym c.after.ensures) (come_err true c.in-Ok.ensures.ends c.in-Err-link_both.ensures.ends (omega arith) (omega arith))

pub returns-in-Err-link_both-clause-failed : goal.returns-in-Err-link_both-clause-failed
returns-in-Err-link_both-clause-failed g c = c.after.ensures ∙ after_is g.D.Disk c.flush.new.disk c.link_both.new.disk c.in-Err-link_both.trouble c.in-Err-link_both.ensures.ends.refused
