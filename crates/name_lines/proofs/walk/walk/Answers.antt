use Rattle.std.proofs.Common.{◌+◌, List, ℕ, arith, drop, subst}
use Rattle.std.proofs.lemmas.Result.{err_from_is_err_and}
use Rattle.name_dirs.proofs.Spent.{later_on, spends_err}
use Rattle.name_lines.proofs.Led.{IsOnPath, at_end, at_place, path_begun, path_ended, path_failed, path_on, path_unbegun}
use Rattle.name_lines.proofs.walk.walk.Goals as goal

pub returns-in_err-at-clause-went : goal.returns-in_err-at-clause-went
returns-in_err-at-clause-went g c = λ s stands none.
    let p = err_from_is_err_and c.from_residual.result c.from_residual.ensures.1 in
    rw (p.1, p.2) (path_unbegun g.A.Asker c.args.who s none c.args.asker.now c.args.path.now c.top.new.asker _ (c.in_err-at.ensures.went s stands))

pub names-init : goal.names-init
names-init g c = record {
  items = c.as_slice-name-items.ensures;
  later = c.in_ok-at.ensures.spends.later;
  so_far = λ s stands none. path_begun g.A.Asker c.args.who s none c.args.asker.now c.args.path.now c.top.new.asker c.in_ok-at.at stands (c.in_ok-at.ensures.went s stands);
}

pub returns-in_err-at-2-clause-went : goal.returns-in_err-at-2-clause-went
returns-in_err-at-2-clause-went g c = λ s stands none.
    let p = err_from_is_err_and c.from_residual-in_err-at-2.result c.from_residual-in_err-at-2.ensures.1 in
    let on = c.names.invariant.so_far s stands none in
    let here = at_place c.args.path.now c.as_slice-name-items.result.now c.names.invariant.items c.names.name-index c.name-item.result c.names-test.true c.name-item.is in
    rw (p.1, p.2) (path_failed g.A.Asker c.args.who s none c.args.asker.now c.args.path.now c.names.asker c.look.new.asker c.name-item.result (drop (c.names.name-index + 1) c.args.path.now) c.names.at
    (subst (λ (left : List (List ℕ)). IsOnPath g.A.Asker c.args.who s c.args.asker.now c.names.asker c.args.path.now left c.names.at) here on) _ (c.in_err-at-2.ensures.went s on.reads.stands))

pub returns-in_err-at-2-clause-spends : goal.returns-in_err-at-2-clause-spends
returns-in_err-at-2-clause-spends g c =
    let p = err_from_is_err_and c.from_residual-in_err-at-2.result c.from_residual-in_err-at-2.ensures.1 in
    rw (p.1, p.2) (spends_err g.A.Asker 0 0 0 c.args.asker.now c.names.asker c.look.new.asker c.in_err-at-2.field-0.0 c.names.invariant.later c.in_err-at-2.ensures.spends (omega arith))

pub names-preserved : goal.names-preserved
names-preserved g c = record {
  items = c.names.invariant.items;
  later = later_on g.A.Asker 0 0 0 c.args.asker.now c.names.asker c.look.new.asker c.names.invariant.later c.in_ok-at-2.ensures.spends.later (omega arith);
  so_far = λ s stands none.
      let on = c.names.invariant.so_far s stands none in
      let here = at_place c.args.path.now c.as_slice-name-items.result.now c.names.invariant.items c.names.name-index c.name-item.result c.names-test.true c.name-item.is in
      path_on g.A.Asker c.args.who s none c.args.asker.now c.args.path.now c.names.asker c.look.new.asker c.name-item.result (drop (c.names.name-index + 1) c.args.path.now) c.names.at
      (subst (λ (left : List (List ℕ)). IsOnPath g.A.Asker c.args.who s c.args.asker.now c.names.asker c.args.path.now left c.names.at) here on) c.in_ok-at-2.at (c.in_ok-at-2.ensures.went s on.reads.stands);
}

pub returns-clause-went : goal.returns-clause-went
returns-clause-went g c = λ s stands none.
    let on = c.names.invariant.so_far s stands none in
    path_ended g.A.Asker c.args.who s none c.args.asker.now c.args.path.now c.names.asker c.names.at
    (subst (λ (left : List (List ℕ)). IsOnPath g.A.Asker c.args.who s c.args.asker.now c.names.asker c.args.path.now left c.names.at)
    (at_end c.args.path.now c.as_slice-name-items.result.now c.names.invariant.items c.names.name-index c.names-test.false) on)
