use Rattle.std.proofs.Common.{arith, refl}
use Rattle.std.specs.Prelude.{Err, Ok}
use Rattle.cfs_base.specs.declared.identifier.Puid.{Puid}
use Rattle.std.proofs.lemmas.Result.{err_from_is_err_and}
use Rattle.name_dirs.specs.Faults.{due_name}
use Rattle.name_dirs.proofs.Spent.{later_itself, later_on, spends_err}
use Rattle.name_lines.specs.declared.line.Line.TheVariants as lines
use Rattle.name_lines.proofs.Served.{looked, has_led, unled}
use Rattle.name_lines.proofs.Spent.{spends_refused, spends_id}
use Rattle.name_lines.proofs.serve.look_at.Goals as goal

pub returns-in_err-dir-clause-went : goal.returns-in_err-dir-clause-went
returns-in_err-dir-clause-went g c = λ s stands none.
    let p = err_from_is_err_and c.from_residual.result c.from_residual.ensures.1 in
    rw (p.1, p.2) (unled g.A.Asker c.args.who s (lines.Look c.args.place.now) c.args.place.now.above (due_name c.args.place.now.name) refl c.args.asker.now c.walk.new.asker _ (c.in_err-dir.ensures.went s stands none))

pub returns-in_err-dir-clause-spends : goal.returns-in_err-dir-clause-spends
returns-in_err-dir-clause-spends g c =
    let p = err_from_is_err_and c.from_residual.result c.from_residual.ensures.1 in
    rw (p.1, p.2) (spends_refused g.A.Asker c.args.asker.now c.walk.new.asker c.in_err-dir.field-0.0 (spends_err g.A.Asker {F = Puid} 0 0 2 c.args.asker.now c.args.asker.now c.walk.new.asker c.in_err-dir.field-0.0 (later_itself g.A.Asker c.args.asker.now) c.in_err-dir.ensures.spends (omega arith)))

pub returns-in_err-id-clause-went : goal.returns-in_err-id-clause-went
returns-in_err-id-clause-went g c = λ s stands none.
    let p = err_from_is_err_and c.from_residual-in_err-id.result c.from_residual-in_err-id.ensures.1 in
    let o = has_led g.A.Asker c.args.who s c.args.asker.now c.walk.new.asker c.args.place.now.above c.in_ok-dir.dir (c.in_ok-dir.ensures.went s stands none) c.in_ok-dir.ensures.spends.later.cylinders in
    rw (p.1, p.2) (looked g.A.Asker c.args.who s none c.args.asker.now c.walk.new.asker c.look.new.asker c.args.place.now.above c.in_ok-dir.dir o c.args.place.now.name (Err c.in_err-id.field-0.0) (c.in_err-id.ensures.went s o.reads.stands))

pub returns-in_err-id-clause-spends : goal.returns-in_err-id-clause-spends
returns-in_err-id-clause-spends g c =
    let p = err_from_is_err_and c.from_residual-in_err-id.result c.from_residual-in_err-id.ensures.1 in
    rw (p.1, p.2) (spends_refused g.A.Asker c.args.asker.now c.look.new.asker c.in_err-id.field-0.0 (spends_err g.A.Asker {F = Puid} 0 0 2 c.args.asker.now c.walk.new.asker c.look.new.asker c.in_err-id.field-0.0 c.in_ok-dir.ensures.spends.later c.in_err-id.ensures.spends (omega arith)))

pub returns-clause-went : goal.returns-clause-went
returns-clause-went g c = λ s stands none.
    let o = has_led g.A.Asker c.args.who s c.args.asker.now c.walk.new.asker c.args.place.now.above c.in_ok-dir.dir (c.in_ok-dir.ensures.went s stands none) c.in_ok-dir.ensures.spends.later.cylinders in
    looked g.A.Asker c.args.who s none c.args.asker.now c.walk.new.asker c.look.new.asker c.args.place.now.above c.in_ok-dir.dir o c.args.place.now.name (Ok c.in_ok-id.id) (c.in_ok-id.ensures.went s o.reads.stands)

pub returns-clause-spends : goal.returns-clause-spends
returns-clause-spends g c =
    spends_id g.A.Asker c.args.asker.now c.look.new.asker c.in_ok-id.id
    (later_on g.A.Asker 0 0 2 c.args.asker.now c.walk.new.asker c.look.new.asker c.in_ok-dir.ensures.spends.later c.in_ok-id.ensures.spends.later (omega arith))
