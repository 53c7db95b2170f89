use Rattle.std.proofs.Common.{◌∙◌, ap, arith}
use Rattle.std.proofs.lemmas.Result.{err_from_is_err_and}
use Rattle.name_dirs.specs.Text.{spelled}
use Rattle.name_dirs.proofs.Sought.{look_fault, look_none, look_slot, look_unread, looked_up}
use Rattle.name_dirs.proofs.Spent.{spends_err}
use Rattle.name_dirs.proofs.Told.{has_opened}
use Rattle.name_dirs.proofs.looking.look.Goals as goal

pub returns-in_err-table-clause-went : goal.returns-in_err-table-clause-went
returns-in_err-table-clause-went g c = λ s stands.
    let p = err_from_is_err_and c.from_residual.result c.from_residual.ensures.1 in
    rw (p.1, p.2) (looked_up g.A.Asker c.args.who c.args.dir s c.args.asker.now c.open.new.asker c.args.name.now _
    (look_unread g.A.Asker c.args.who c.args.dir s c.args.name.now c.args.asker.now c.open.new.asker _ stands c.in_err-table.ensures.went))

pub returns-in_default-clause-went : goal.returns-in_default-clause-went
returns-in_default-clause-went g c = λ s stands.
    let o = has_opened g.A.Asker c.args.who c.args.dir c.args.asker.now c.open.new.asker s stands c.in_ok-table.table c.in_ok-table.ensures.went c.in_ok-table.ensures.spends.later in
    let row = c.row_of.ensures ∙ ap spelled c.as_slice.ensures.bytes in
    looked_up g.A.Asker c.args.who c.args.dir s c.args.asker.now c.open.new.asker c.args.name.now _
    (look_none g.A.Asker c.args.who c.args.dir s c.args.name.now c.args.asker.now c.open.new.asker c.in_ok-table.table o c.as_slice.ensures.text c.row_of.result row c.in_default.ensures)

pub returns-in_err-slot_of-clause-went : goal.returns-in_err-slot_of-clause-went
returns-in_err-slot_of-clause-went g c = λ s stands.
    let p = err_from_is_err_and c.from_residual-in_err-slot_of.result c.from_residual-in_err-slot_of.ensures.1 in
    let o = has_opened g.A.Asker c.args.who c.args.dir c.args.asker.now c.open.new.asker s stands c.in_ok-table.table c.in_ok-table.ensures.went c.in_ok-table.ensures.spends.later in
    let row = c.row_of.ensures ∙ ap spelled c.as_slice.ensures.bytes in
    rw (p.1, p.2) (looked_up g.A.Asker c.args.who c.args.dir s c.args.asker.now c.slot_of.new.asker c.args.name.now _
    (look_fault g.A.Asker c.args.who c.args.dir s c.args.name.now c.args.asker.now c.open.new.asker c.in_ok-table.table o c.as_slice.ensures.text c.row_of.result row c.in-Some.place c.in-Some.ensures c.slot_of.new.asker _ c.in_err-slot_of.ensures.went))

pub returns-in_err-slot_of-clause-spends : goal.returns-in_err-slot_of-clause-spends
returns-in_err-slot_of-clause-spends g c =
    let p = err_from_is_err_and c.from_residual-in_err-slot_of.result c.from_residual-in_err-slot_of.ensures.1 in
    rw (p.1, p.2) (spends_err g.A.Asker 0 0 0 c.args.asker.now c.open.new.asker c.slot_of.new.asker c.in_err-slot_of.field-0.0 c.in_ok-table.ensures.spends.later c.in_err-slot_of.ensures.spends (omega arith))

pub returns-clause-went : goal.returns-clause-went
returns-clause-went g c = λ s stands.
    let o = has_opened g.A.Asker c.args.who c.args.dir c.args.asker.now c.open.new.asker s stands c.in_ok-table.table c.in_ok-table.ensures.went c.in_ok-table.ensures.spends.later in
    let row = c.row_of.ensures ∙ ap spelled c.as_slice.ensures.bytes in
    rw c.ok_or.ensures.value (looked_up g.A.Asker c.args.who c.args.dir s c.args.asker.now c.slot_of.new.asker c.args.name.now _
    (look_slot g.A.Asker c.args.who c.args.dir s c.args.name.now c.args.asker.now c.open.new.asker c.in_ok-table.table o c.as_slice.ensures.text c.row_of.result row c.in-Some.place c.in-Some.ensures c.slot_of.new.asker c.in_ok-slot_of.field-0 c.in_ok-slot_of.ensures.went))
