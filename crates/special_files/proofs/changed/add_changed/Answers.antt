use Rattle.std.proofs.Common.{sym}
use Rattle.special_files.proofs.changed.ChangedRun.{alike_told}
use Rattle.special_files.proofs.changed.add_changed.Goals as goal

pub returns-then-own-new-clause-taken : goal.returns-then-own-new-clause-taken
returns-then-own-new-clause-taken g c = λ tells. alike_told (g.D.Disk.content c.args.disk.now) c.args.new c.args.own c.args.taken.now (sym c.if-own-new.true)

pub returns-then-own-new-clause-dropped : goal.returns-then-own-new-clause-dropped
returns-then-own-new-clause-dropped g c = λ tells. alike_told (g.D.Disk.content c.args.disk.now) c.args.own c.args.new c.args.dropped.now c.if-own-new.true
