use Rattle.std.proofs.Common.{◌∙◌, ap, sym, Some}
use Rattle.collector_steps.proofs.Words.{block_at, err_from_is_err_and, tells_on}
use Rattle.collector_steps.proofs.Damage.{draft_refused, root_refused}
use Rattle.collector_steps.proofs.Found.{alive_there, following_on, holds_any_or_none}
use Rattle.collector_steps.specs.Scan.{or_own}
use Rattle.collector_steps.proofs.Found.{last_on, own_holds, told_any}
use Rattle.collector_steps.proofs.scan.read_draft.Goals as goal

pub returns-in_err-step-clause-refused : goal.returns-in_err-step-clause-refused
returns-in_err-step-clause-refused g c =
    let p = err_from_is_err_and c.from_residual.result c.from_residual.ensures.1 in
    rw (p.1, p.2)
    (draft_refused g.D.Disk c.args.block c.args.disk.now c.next_leaf.new.disk c.args.draft.now c.in_err-step.field-0.0
    c.in_err-step.ensures.refused)

pub returns-in_err-own-clause-refused : goal.returns-in_err-own-clause-refused
returns-in_err-own-clause-refused g c =
    let p = err_from_is_err_and c.from_residual-in_err-own.result c.from_residual-in_err-own.ensures.1 in
    rw (p.1, p.2)
    (root_refused g.D.Disk c.args.block c.args.disk.now c.next_leaf.new.disk c.read_root.new.disk
    (Some c.args.draft.now) 3 c.next_leaf.ensures.reads c.in_err-own.field-0.0 c.in_err-own.ensures.refused)

pub returns-in-Some-clause-found : goal.returns-in-Some-clause-found
returns-in-Some-clause-found g c = λ tells alive own_alive.
    let image = g.D.Disk.content c.args.disk.now in
    let any = holds_any_or_none image (block_at image c.args.block) in (
      any.0,
      any.1,
      record {
        step = c.in_ok-step.ensures.step tells alive;
        content = c.in_ok-step.ensures.content tells;
        next = sym (ap (or_own any.0) (sym c.following.ensures ∙ c.in-Some.is));
      },
    )

pub returns-in-Some-clause-on : goal.returns-in-Some-clause-on
returns-in-Some-clause-on g c =
    following_on c.args.from c.in_ok-step.step c.in-Some.next c.in_ok-step.ensures.inside
    (sym c.following.ensures ∙ c.in-Some.is)

pub returns-clause-found : goal.returns-clause-found
returns-clause-found g c = λ tells alive own_alive.
    let old = c.args.disk.now in
    let mid = c.next_leaf.new.disk in
    let reads = c.next_leaf.ensures.reads in
    let own = c.in_ok-own.own in
    let is = c.in_ok-own.ensures.root (tells_on g.D.Disk old mid mid 3 reads tells) in
    let any = c.holds_any.result in
    let mid_alive = alive_there g.D.Disk old mid 3 c.args.block own reads is own_alive in
    let there = told_any (g.D.Disk.content mid) own any mid_alive c.holds_any.ensures.some c.holds_any.ensures.none in (
      any,
      own_holds g.D.Disk old mid 3 c.args.block own reads is any there,
      record {
        step = c.in_ok-step.ensures.step tells alive;
        content = c.in_ok-step.ensures.content tells;
        next = c.after_last.ensures ∙ sym (ap (or_own any) (sym c.following.ensures ∙ c.in_default.is));
      },
    )

pub returns-clause-on : goal.returns-clause-on
returns-clause-on g c = rw c.after_last.ensures (last_on c.args.from c.holds_any.result c.requires.from)
