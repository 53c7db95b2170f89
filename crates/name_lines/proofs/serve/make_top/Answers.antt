use Rattle.std.specs.Prelude.{Err, Ok}
use Rattle.std.proofs.lemmas.Result.{err_from_is_err_and}
use Rattle.name_lines.proofs.Served.{topped}
use Rattle.name_lines.proofs.Spent.{spends_id, spends_refused}
use Rattle.name_lines.proofs.serve.make_top.Goals as goal

pub returns-in_err-make_root-clause-went : goal.returns-in_err-make_root-clause-went
returns-in_err-make_root-clause-went g c = λ s stands none.
    let p = err_from_is_err_and c.from_residual.result c.from_residual.ensures.1 in
    rw (p.1, p.2) (topped g.A.Asker c.args.who s none c.args.asker.now c.make_root.new.asker stands c.args.capacity.now (Err c.in_err-make_root.field-0.0) (c.in_err-make_root.ensures.went s stands))

pub returns-in_err-make_root-clause-spends : goal.returns-in_err-make_root-clause-spends
returns-in_err-make_root-clause-spends g c =
    let p = err_from_is_err_and c.from_residual.result c.from_residual.ensures.1 in
    rw (p.1, p.2) (spends_refused g.A.Asker c.args.asker.now c.make_root.new.asker c.in_err-make_root.field-0.0 c.in_err-make_root.ensures.spends)

pub returns-clause-went : goal.returns-clause-went
returns-clause-went g c = λ s stands none.
    rw (← c.get.ensures.value) (topped g.A.Asker c.args.who s none c.args.asker.now c.make_root.new.asker stands c.get.result (Ok c.in_ok-make_root.field-0) (c.in_ok-make_root.ensures.went s stands))

pub returns-clause-spends : goal.returns-clause-spends
returns-clause-spends g c = spends_id g.A.Asker c.args.asker.now c.make_root.new.asker c.in_ok-make_root.field-0 c.in_ok-make_root.ensures.spends.later
