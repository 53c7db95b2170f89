use Rattle.std.proofs.lemmas.Result.{err_from_is_err_and}
use Rattle.name_dirs.proofs.Topped.{start_found, start_unseen}
use Rattle.name_dirs.proofs.looking.top.Goals as goal

pub returns-in_err-slot_of-clause-went : goal.returns-in_err-slot_of-clause-went
returns-in_err-slot_of-clause-went g c = λ s stands.
    let p = err_from_is_err_and c.from_residual.result c.from_residual.ensures.1 in
    rw (p.1, p.2) (start_unseen g.A.Asker c.args.who s c.args.asker.now stands c.root-root.result c.root-root.ensures c.slot_of.new.asker _ c.in_err-slot_of.ensures.went)

pub returns-clause-went : goal.returns-clause-went
returns-clause-went g c = λ s stands.
    rw c.ok_or.ensures.value (start_found g.A.Asker c.args.who s c.args.asker.now stands c.root-root.result c.root-root.ensures c.slot_of.new.asker c.in_ok-slot_of.field-0 c.in_ok-slot_of.ensures.went)
