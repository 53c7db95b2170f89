use Rattle.std.proofs.Common.{sym, ◌∙◌, get_or, take}
use Rattle.ufs_model.proofs.Words.{Puid, list_any_more, same_puid}
use Rattle.ufs_model.proofs.Spreading.{one_more}
use Rattle.ufs_model.proofs.marks.set_of.Goals as goal

pub ids-preserved : goal.ids-preserved
ids-preserved c = λ x.
    let none : Puid = record { block = 0; word = 0 } in
    let k = c.ids.id-index in
    one_more x (get_or c.args.ids.now k none) c.ids.set.keys c.insert.new.self.keys (take k c.args.ids.now) (c.in_ok-insert.ensures.updates.0 x) (c.ids.invariant x)
    ∙ sym (list_any_more (same_puid x) c.args.ids.now k none c.ids-test.true)
