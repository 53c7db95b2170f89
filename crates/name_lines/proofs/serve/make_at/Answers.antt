use Rattle.std.proofs.Common.{arith, refl}
use Rattle.std.specs.Prelude.{Err, Ok}
use Rattle.cfs_base.specs.declared.identifier.Puid.{Puid}
use Rattle.std.proofs.lemmas.Result.{err_from_is_err_and}
use Rattle.name_dirs.specs.Faults.{due_new}
use Rattle.name_dirs.proofs.Spent.{later_itself, later_on, spends_err}
use Rattle.name_lines.specs.declared.line.Line.TheVariants as lines
use Rattle.name_lines.proofs.Served.{made_so, has_led, unled}
use Rattle.name_lines.proofs.Spent.{spends_refused, spends_id}
use Rattle.name_lines.proofs.serve.make_at.Goals as goal

pub returns-in_err-dir-clause-went : goal.returns-in_err-dir-clause-went
returns-in_err-dir-clause-went g c = λ s stands none.
    let p = err_from_is_err_and c.from_residual.result c.from_residual.ensures.1 in
    rw (p.1, p.2) (unled g.A.Asker c.args.who s (lines.MakeDir c.args.place.now c.args.capacity.now) c.args.place.now.above (due_new c.args.place.now.name) refl c.args.asker.now c.walk.new.asker _ (c.in_err-dir.ensures.went s stands none))

pub returns-in_err-dir-clause-spends : goal.returns-in_err-dir-clause-spends
returns-in_err-dir-clause-spends g c =
    let p = err_from_is_err_and c.from_residual.result c.from_residual.ensures.1 in
    rw (p.1, p.2) (spends_refused g.A.Asker c.args.asker.now c.walk.new.asker c.in_err-dir.field-0.0 (spends_err g.A.Asker {F = Puid} 0 0 2 c.args.asker.now c.args.asker.now c.walk.new.asker c.in_err-dir.field-0.0 (later_itself g.A.Asker c.args.asker.now) c.in_err-dir.ensures.spends (omega arith)))

pub returns-in_err-made-clause-went : goal.returns-in_err-made-clause-went
returns-in_err-made-clause-went g c = λ s stands none.
    let p = err_from_is_err_and c.from_residual-in_err-made.result c.from_residual-in_err-made.ensures.1 in
    let o = has_led g.A.Asker c.args.who s c.args.asker.now c.walk.new.asker c.args.place.now.above c.in_ok-dir.dir (c.in_ok-dir.ensures.went s stands none) c.in_ok-dir.ensures.spends.later.cylinders in
    rw (p.1, p.2) (made_so g.A.Asker c.args.who s none c.args.asker.now c.walk.new.asker c.make.new.asker c.args.place.now.above c.in_ok-dir.dir o c.args.place.now.name c.args.capacity.now (Err c.in_err-made.field-0.0) (c.in_err-made.ensures.went s o.reads.stands))

pub returns-in_err-made-clause-spends : goal.returns-in_err-made-clause-spends
returns-in_err-made-clause-spends g c =
    let p = err_from_is_err_and c.from_residual-in_err-made.result c.from_residual-in_err-made.ensures.1 in
    rw (p.1, p.2) (spends_refused g.A.Asker c.args.asker.now c.make.new.asker c.in_err-made.field-0.0 (spends_err g.A.Asker {F = Puid} 0 2 2 c.args.asker.now c.walk.new.asker c.make.new.asker c.in_err-made.field-0.0 c.in_ok-dir.ensures.spends.later c.in_err-made.ensures.spends (omega arith)))

pub returns-clause-went : goal.returns-clause-went
returns-clause-went g c = λ s stands none.
    let o = has_led g.A.Asker c.args.who s c.args.asker.now c.walk.new.asker c.args.place.now.above c.in_ok-dir.dir (c.in_ok-dir.ensures.went s stands none) c.in_ok-dir.ensures.spends.later.cylinders in
    rw (← c.get.ensures.value) (made_so g.A.Asker c.args.who s none c.args.asker.now c.walk.new.asker c.make.new.asker c.args.place.now.above c.in_ok-dir.dir o c.args.place.now.name c.get.result (Ok c.in_ok-made.made) (c.in_ok-made.ensures.went s o.reads.stands))

pub returns-clause-spends : goal.returns-clause-spends
returns-clause-spends g c =
    spends_id g.A.Asker c.args.asker.now c.make.new.asker c.in_ok-made.made
    (later_on g.A.Asker 0 2 2 c.args.asker.now c.walk.new.asker c.make.new.asker c.in_ok-dir.ensures.spends.later c.in_ok-made.ensures.spends.later (omega arith))
