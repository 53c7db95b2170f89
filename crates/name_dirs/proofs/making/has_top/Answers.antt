use Rattle.std.proofs.lemmas.Result.{err_from_is_err_and}
use Rattle.name_dirs.proofs.Topped.{top_empty, top_faulted, top_opened, top_unseen}
use Rattle.name_dirs.proofs.Spent.{spends_if_other}
use Rattle.name_dirs.proofs.making.has_top.Goals as goal

pub returns-in_err-top-clause-went : goal.returns-in_err-top-clause-went
returns-in_err-top-clause-went g c = λ s stands.
    let p = err_from_is_err_and c.from_residual.result c.from_residual.ensures.1 in
    rw (p.1, p.2) (top_unseen g.A.Asker c.args.who s c.args.asker.now stands c.args.root c.requires.root c.slot_of.new.asker _ c.in_err-top.ensures.went)

pub returns-in_default-clause-went : goal.returns-in_default-clause-went
returns-in_default-clause-went g c = λ s stands. top_empty g.A.Asker c.args.who s c.args.asker.now stands c.args.root c.requires.root c.slot_of.new.asker c.in_ok-top.field-0 c.in_ok-top.ensures.went c.in_default.is

pub returns-in-Ok-clause-went : goal.returns-in-Ok-clause-went
returns-in-Ok-clause-went g c = λ s stands. top_opened g.A.Asker c.args.who s c.args.asker.now stands c.args.root c.requires.root c.slot_of.new.asker c.in_ok-top.field-0 c.in_ok-top.ensures.went c.in-Some.top c.in-Some.is c.open.new.asker _ c.in-Ok.ensures.went

pub returns-clause-went : goal.returns-clause-went
returns-clause-went g c = λ s stands. rw c.if_other.ensures (top_faulted g.A.Asker c.args.who s c.args.asker.now stands c.args.root c.requires.root c.slot_of.new.asker c.in_ok-top.field-0 c.in_ok-top.ensures.went c.in-Some.top c.in-Some.is c.open.new.asker c.in-Err.fault c.in-Err.ensures.went)

pub returns-clause-spends : goal.returns-clause-spends
returns-clause-spends g c = rw c.if_other.ensures (spends_if_other g.A.Asker c.args.asker.now c.slot_of.new.asker c.open.new.asker c.in-Err.fault c.in_ok-top.ensures.spends.later c.in-Err.ensures.spends)
