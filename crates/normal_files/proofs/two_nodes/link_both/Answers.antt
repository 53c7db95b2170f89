use Rattle.normal_files.proofs.Words.{false, sym, subst, arith}
use Rattle.normal_files.specs.Steps.{Stops}
use Rattle.normal_files.proofs.Come.{come_err, come_none, come_then}
use Rattle.normal_files.proofs.two_nodes.link_both.Goals as goal

pub returns-in-Err-clause-ends : goal.returns-in-Err-clause-ends
returns-in-Err-clause-ends g c = come_err false (come_none g.D.Disk c.args.disk.now 0 0) c.in-Err.ensures.ends (omega arith) (omega arith)

pub returns-in-Ok-link-clause-ends : goal.returns-in-Ok-link-clause-ends
returns-in-Ok-link-clause-ends g c = come_then c.args.both.now.low.grown c.args.both.now.high.grown c.in-Ok.ensures.ends c.in-Ok-link.ensures.ends

pub returns-in-Err-link-clause-ends : goal.returns-in-Err-link-clause-ends
returns-in-Err-link-clause-ends g c =
    subst (Stops g.D.Disk 4 4 c.args.disk.now c.link-2.new.disk) (sym c.after.ensures) (come_err c.args.both.now.low.grown c.in-Ok.ensures.ends c.in-Err-link.ensures.ends (omega arith) (omega arith))
