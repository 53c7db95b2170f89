use Rattle.normal_files.proofs.Words.{Some, ap, sym}
use Rattle.normal_files.proofs.Come.{come_none, done_as}
use Rattle.normal_files.proofs.link.link.Goals as goal

pub returns-then-not-next-clause-ends : goal.returns-then-not-next-clause-ends
returns-then-not-next-clause-ends g c = done_as (ap Some (sym c.if-not-next.true)) (come_none g.D.Disk c.args.disk.now 2 2)
