use Rattle.std.proofs.Common.{Bool, arith, subst}
use Rattle.std.specs.Prelude.{Ok}
use Rattle.std.proofs.lemmas.Result.{err_from_is_err_and}
use Rattle.name_dirs.specs.Making.{LooksAtTop}
use Rattle.name_dirs.proofs.Added.{top_exists, top_going, top_refused}
use Rattle.name_dirs.proofs.Spent.{later_itself, spends_err, spends_on}
use Rattle.name_dirs.proofs.making.make_root.Goals as goal

pub returns-in_err-has_top-clause-went : goal.returns-in_err-has_top-clause-went
returns-in_err-has_top-clause-went g c = λ s stands.
    let p = err_from_is_err_and c.from_residual.result c.from_residual.ensures.1 in
    rw (p.1, p.2) (top_refused g.A.Asker c.args.who s c.args.asker.now stands c.root-root.result c.root-root.ensures c.args.capacity c.has_top.new.asker _ c.in_err-has_top.ensures.went)

pub returns-in_err-has_top-clause-spends : goal.returns-in_err-has_top-clause-spends
returns-in_err-has_top-clause-spends g c =
    let p = err_from_is_err_and c.from_residual.result c.from_residual.ensures.1 in
    rw (p.1, p.2) (spends_err g.A.Asker 0 0 2 c.args.asker.now c.args.asker.now c.has_top.new.asker _ (later_itself g.A.Asker c.args.asker.now) c.in_err-has_top.ensures.spends (omega arith))

pub returns-then-branch-clause-went : goal.returns-then-branch-clause-went
returns-then-branch-clause-went g c = λ s stands.
    top_exists g.A.Asker c.args.who s c.args.asker.now stands c.root-root.result c.root-root.ensures c.args.capacity c.has_top.new.asker
    (subst (λ (b : Bool). LooksAtTop g.A.Asker c.args.who c.args.asker.now c.has_top.new.asker (Ok b)) c.if-branch.true c.in_ok-has_top.ensures.went)

pub returns-clause-went : goal.returns-clause-went
returns-clause-went g c = λ s stands.
    top_going g.A.Asker c.args.who s c.args.asker.now stands c.root-root.result c.root-root.ensures c.args.capacity c.has_top.new.asker
    (subst (λ (b : Bool). LooksAtTop g.A.Asker c.args.who c.args.asker.now c.has_top.new.asker (Ok b)) c.if-branch.false c.in_ok-has_top.ensures.went)
    c.in_ok-has_top.ensures.spends.later.cylinders c.make_directory.new.asker c.make_directory.result c.make_directory.ensures.went

pub returns-clause-spends : goal.returns-clause-spends
returns-clause-spends g c = spends_on g.A.Asker 0 2 2 c.args.asker.now c.has_top.new.asker c.make_directory.new.asker c.make_directory.result c.in_ok-has_top.ensures.spends.later c.make_directory.ensures.spends (omega arith)
