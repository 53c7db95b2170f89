use Rattle.std.proofs.Common.{arith, refl}
use Rattle.std.specs.Prelude.{Err, Ok}
use Rattle.cfs_base.specs.declared.identifier.Puid.{Puid}
use Rattle.std.proofs.lemmas.Result.{err_from_is_err_and}
use Rattle.name_dirs.specs.Faults.{none_due}
use Rattle.name_dirs.proofs.Spent.{later_itself, later_on, spends_err}
use Rattle.name_lines.specs.declared.line.Line.TheVariants as lines
use Rattle.name_lines.proofs.Served.{listed, has_led, unled}
use Rattle.name_lines.proofs.Spent.{spends_refused, spends_names}
use Rattle.name_lines.proofs.serve.list_at.Goals as goal

pub returns-in_err-dir-clause-went : goal.returns-in_err-dir-clause-went
returns-in_err-dir-clause-went g c = λ s stands none.
    let p = err_from_is_err_and c.from_residual.result c.from_residual.ensures.1 in
    rw (p.1, p.2) (unled g.A.Asker c.args.who s (lines.ListDir c.args.path.now) c.args.path.now none_due refl c.args.asker.now c.walk.new.asker _ (c.in_err-dir.ensures.went s stands none))

pub returns-in_err-dir-clause-spends : goal.returns-in_err-dir-clause-spends
returns-in_err-dir-clause-spends g c =
    let p = err_from_is_err_and c.from_residual.result c.from_residual.ensures.1 in
    rw (p.1, p.2) (spends_refused g.A.Asker c.args.asker.now c.walk.new.asker c.in_err-dir.field-0.0 (spends_err g.A.Asker {F = Puid} 0 0 2 c.args.asker.now c.args.asker.now c.walk.new.asker c.in_err-dir.field-0.0 (later_itself g.A.Asker c.args.asker.now) c.in_err-dir.ensures.spends (omega arith)))

pub returns-in_err-names-clause-went : goal.returns-in_err-names-clause-went
returns-in_err-names-clause-went g c = λ s stands none.
    let p = err_from_is_err_and c.from_residual-in_err-names.result c.from_residual-in_err-names.ensures.1 in
    let o = has_led g.A.Asker c.args.who s c.args.asker.now c.walk.new.asker c.args.path.now c.in_ok-dir.dir (c.in_ok-dir.ensures.went s stands none) c.in_ok-dir.ensures.spends.later.cylinders in
    rw (p.1, p.2) (listed g.A.Asker c.args.who s none c.args.asker.now c.walk.new.asker c.list.new.asker c.args.path.now c.in_ok-dir.dir o (Err c.in_err-names.field-0.0) (c.in_err-names.ensures.went s o.reads.stands))

pub returns-in_err-names-clause-spends : goal.returns-in_err-names-clause-spends
returns-in_err-names-clause-spends g c =
    let p = err_from_is_err_and c.from_residual-in_err-names.result c.from_residual-in_err-names.ensures.1 in
    rw (p.1, p.2) (spends_refused g.A.Asker c.args.asker.now c.list.new.asker c.in_err-names.field-0.0 (spends_err g.A.Asker {F = Puid} 0 0 2 c.args.asker.now c.walk.new.asker c.list.new.asker c.in_err-names.field-0.0 c.in_ok-dir.ensures.spends.later c.in_err-names.ensures.spends (omega arith)))

pub returns-clause-went : goal.returns-clause-went
returns-clause-went g c = λ s stands none.
    let o = has_led g.A.Asker c.args.who s c.args.asker.now c.walk.new.asker c.args.path.now c.in_ok-dir.dir (c.in_ok-dir.ensures.went s stands none) c.in_ok-dir.ensures.spends.later.cylinders in
    listed g.A.Asker c.args.who s none c.args.asker.now c.walk.new.asker c.list.new.asker c.args.path.now c.in_ok-dir.dir o (Ok c.in_ok-names.names) (c.in_ok-names.ensures.went s o.reads.stands)

pub returns-clause-spends : goal.returns-clause-spends
returns-clause-spends g c =
    spends_names g.A.Asker c.args.asker.now c.list.new.asker c.in_ok-names.names
    (later_on g.A.Asker 0 0 2 c.args.asker.now c.walk.new.asker c.list.new.asker c.in_ok-dir.ensures.spends.later c.in_ok-names.ensures.spends.later (omega arith))
