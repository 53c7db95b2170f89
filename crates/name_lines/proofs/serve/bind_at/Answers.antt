use Rattle.std.proofs.Common.{arith, refl}
use Rattle.std.specs.Prelude.{Err, Ok}
use Rattle.cfs_base.specs.declared.identifier.Puid.{Puid}
use Rattle.std.proofs.lemmas.Result.{err_from_is_err_and}
use Rattle.name_dirs.specs.Faults.{due_place}
use Rattle.name_dirs.proofs.Spent.{later_itself, later_on, spends_err}
use Rattle.name_lines.specs.declared.line.Line.TheVariants as lines
use Rattle.name_lines.proofs.Served.{bound_so, has_led, unled}
use Rattle.name_lines.proofs.Spent.{spends_refused, spends_done}
use Rattle.name_lines.proofs.serve.bind_at.Goals as goal

pub returns-in_err-dir-clause-went : goal.returns-in_err-dir-clause-went
returns-in_err-dir-clause-went g c = λ s stands none.
    let p = err_from_is_err_and c.from_residual.result c.from_residual.ensures.1 in
    rw (p.1, p.2) (unled g.A.Asker c.args.who s (lines.Bind c.args.place.now c.args.id) c.args.place.now.above (due_place c.args.place.now.name) refl c.args.asker.now c.walk.new.asker _ (c.in_err-dir.ensures.went s stands none))

pub returns-in_err-dir-clause-spends : goal.returns-in_err-dir-clause-spends
returns-in_err-dir-clause-spends g c =
    let p = err_from_is_err_and c.from_residual.result c.from_residual.ensures.1 in
    rw (p.1, p.2) (spends_refused g.A.Asker c.args.asker.now c.walk.new.asker c.in_err-dir.field-0.0 (spends_err g.A.Asker {F = Puid} 0 0 2 c.args.asker.now c.args.asker.now c.walk.new.asker c.in_err-dir.field-0.0 (later_itself g.A.Asker c.args.asker.now) c.in_err-dir.ensures.spends (omega arith)))

pub returns-in_err-bind-clause-went : goal.returns-in_err-bind-clause-went
returns-in_err-bind-clause-went g c = λ s stands none.
    let p = err_from_is_err_and c.from_residual-in_err-bind.result c.from_residual-in_err-bind.ensures.1 in
    let o = has_led g.A.Asker c.args.who s c.args.asker.now c.walk.new.asker c.args.place.now.above c.in_ok-dir.dir (c.in_ok-dir.ensures.went s stands none) c.in_ok-dir.ensures.spends.later.cylinders in
    rw (p.1, p.2) (bound_so g.A.Asker c.args.who s none c.args.asker.now c.walk.new.asker c.bind.new.asker c.args.place.now.above c.in_ok-dir.dir o c.args.place.now.name c.args.id (Err c.in_err-bind.field-0.0) (c.in_err-bind.ensures.went s o.reads.stands))

pub returns-in_err-bind-clause-spends : goal.returns-in_err-bind-clause-spends
returns-in_err-bind-clause-spends g c =
    let p = err_from_is_err_and c.from_residual-in_err-bind.result c.from_residual-in_err-bind.ensures.1 in
    rw (p.1, p.2) (spends_refused g.A.Asker c.args.asker.now c.bind.new.asker c.in_err-bind.field-0.0 (spends_err g.A.Asker {F = Puid} 0 0 2 c.args.asker.now c.walk.new.asker c.bind.new.asker c.in_err-bind.field-0.0 c.in_ok-dir.ensures.spends.later c.in_err-bind.ensures.spends (omega arith)))

pub returns-clause-went : goal.returns-clause-went
returns-clause-went g c = λ s stands none.
    let o = has_led g.A.Asker c.args.who s c.args.asker.now c.walk.new.asker c.args.place.now.above c.in_ok-dir.dir (c.in_ok-dir.ensures.went s stands none) c.in_ok-dir.ensures.spends.later.cylinders in
    bound_so g.A.Asker c.args.who s none c.args.asker.now c.walk.new.asker c.bind.new.asker c.args.place.now.above c.in_ok-dir.dir o c.args.place.now.name c.args.id (Ok tt) (c.in_ok-bind.ensures.went s o.reads.stands)

pub returns-clause-spends : goal.returns-clause-spends
returns-clause-spends g c =
    spends_done g.A.Asker c.args.asker.now c.bind.new.asker
    (later_on g.A.Asker 0 0 2 c.args.asker.now c.walk.new.asker c.bind.new.asker c.in_ok-dir.ensures.spends.later c.in_ok-bind.ensures.spends.later (omega arith))
