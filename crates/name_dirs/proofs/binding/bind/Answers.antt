use Rattle.std.proofs.Common.{◌∙◌, List, ℕ, ap, arith, subst}
use Rattle.std.proofs.lemmas.Result.{err_from_is_err_and}
use Rattle.name_dirs.specs.Changing.{WritesRow}
use Rattle.name_dirs.specs.Opening.{HasNoRow, IsFirstRow}
use Rattle.name_dirs.specs.Text.{spelled}
use Rattle.name_dirs.proofs.Bound.{bind_full, bind_named, bind_new, bind_unkept, bind_unread}
use Rattle.name_dirs.proofs.Spent.{later_on, spends_err, spends_on}
use Rattle.name_dirs.proofs.Told.{has_opened}
use Rattle.name_dirs.proofs.binding.bind.Goals as goal

pub returns-in_err-table-clause-went : goal.returns-in_err-table-clause-went
returns-in_err-table-clause-went g c = λ s stands.
    let p = err_from_is_err_and c.from_residual.result c.from_residual.ensures.1 in
    rw (p.1, p.2) (bind_unread g.A.Asker c.args.who c.args.dir s c.args.asker.now c.open.new.asker c.args.name.now c.args.id _ stands c.in_err-table.ensures.went)

pub returns-in-Some-clause-went : goal.returns-in-Some-clause-went
returns-in-Some-clause-went g c = λ s stands.
    let o = has_opened g.A.Asker c.args.who c.args.dir c.args.asker.now c.open.new.asker s stands c.in_ok-table.table c.in_ok-table.ensures.went c.in_ok-table.ensures.spends.later in
    let row = c.row_of-row.ensures ∙ ap spelled c.as_slice.ensures.bytes in
    bind_named g.A.Asker c.args.who c.args.dir s c.args.asker.now c.open.new.asker c.in_ok-table.table o c.args.name.now c.as_slice.ensures.text c.args.id c.in-Some.place
    (subst (λ (r : List ℕ). IsFirstRow c.in_ok-table.table.bytes c.in_ok-table.table.slots r c.in-Some.place) row c.in-Some.ensures) c.retain.new.asker c.retain.result c.retain.ensures.went

pub returns-in-Some-clause-spends : goal.returns-in-Some-clause-spends
returns-in-Some-clause-spends g c = spends_on g.A.Asker 0 0 0 c.args.asker.now c.open.new.asker c.retain.new.asker c.retain.result c.in_ok-table.ensures.spends.later c.retain.ensures.spends (omega arith)

pub returns-in_default-place_of-clause-went : goal.returns-in_default-place_of-clause-went
returns-in_default-place_of-clause-went g c = λ s stands.
    let o = has_opened g.A.Asker c.args.who c.args.dir c.args.asker.now c.open.new.asker s stands c.in_ok-table.table c.in_ok-table.ensures.went c.in_ok-table.ensures.spends.later in
    let row = c.row_of-row.ensures ∙ ap spelled c.as_slice.ensures.bytes in
    rw c.full.ensures (bind_full g.A.Asker c.args.who c.args.dir s c.args.asker.now c.open.new.asker c.in_ok-table.table o c.args.name.now c.as_slice.ensures.text c.args.id
    (subst (λ (r : List ℕ). HasNoRow c.in_ok-table.table.bytes c.in_ok-table.table.slots r) row c.in_default.ensures) c.in_default-place_of.ensures)

pub returns-in_err-retain-clause-went : goal.returns-in_err-retain-clause-went
returns-in_err-retain-clause-went g c = λ s stands.
    let p = err_from_is_err_and c.from_residual-in_err-retain.result c.from_residual-in_err-retain.ensures.1 in
    let o = has_opened g.A.Asker c.args.who c.args.dir c.args.asker.now c.open.new.asker s stands c.in_ok-table.table c.in_ok-table.ensures.went c.in_ok-table.ensures.spends.later in
    let row = c.row_of-row.ensures ∙ ap spelled c.as_slice.ensures.bytes in
    rw (p.1, p.2) (bind_unkept g.A.Asker c.args.who c.args.dir s c.args.asker.now c.open.new.asker c.in_ok-table.table o c.args.name.now c.as_slice.ensures.text c.args.id c.in-Some-place_of.place
    (subst (λ (r : List ℕ). HasNoRow c.in_ok-table.table.bytes c.in_ok-table.table.slots r) row c.in_default.ensures) c.in-Some-place_of.ensures c.retain-2.new.asker c.in_err-retain.field-0.0 c.in_err-retain.ensures.went)

pub returns-in_err-retain-clause-spends : goal.returns-in_err-retain-clause-spends
returns-in_err-retain-clause-spends g c =
    let p = err_from_is_err_and c.from_residual-in_err-retain.result c.from_residual-in_err-retain.ensures.1 in
    rw (p.1, p.2) (spends_err g.A.Asker 0 0 0 c.args.asker.now c.open.new.asker c.retain-2.new.asker c.in_err-retain.field-0.0 c.in_ok-table.ensures.spends.later c.in_err-retain.ensures.spends (omega arith))

pub returns-clause-went : goal.returns-clause-went
returns-clause-went g c = λ s stands.
    let o = has_opened g.A.Asker c.args.who c.args.dir c.args.asker.now c.open.new.asker s stands c.in_ok-table.table c.in_ok-table.ensures.went c.in_ok-table.ensures.spends.later in
    let row = c.row_of-row.ensures ∙ ap spelled c.as_slice.ensures.bytes in
    bind_new g.A.Asker c.args.who c.args.dir s c.args.asker.now c.open.new.asker c.in_ok-table.table o c.args.name.now c.as_slice.ensures.text c.args.id c.in-Some-place_of.place
    (subst (λ (r : List ℕ). HasNoRow c.in_ok-table.table.bytes c.in_ok-table.table.slots r) row c.in_default.ensures) c.in-Some-place_of.ensures c.retain-2.new.asker c.in_ok-retain.ensures.went c.in_ok-retain.ensures.spends.later.cylinders
    c.write_row.new.asker c.write_row.result
    (subst (λ (r : List ℕ). WritesRow g.A.Asker c.args.who c.in_ok-table.table.file c.in-Some-place_of.place r c.retain-2.new.asker c.write_row.new.asker c.write_row.result) row c.write_row.ensures.went)

pub returns-clause-spends : goal.returns-clause-spends
returns-clause-spends g c =
    spends_on g.A.Asker 0 0 0 c.args.asker.now c.retain-2.new.asker c.write_row.new.asker c.write_row.result
    (later_on g.A.Asker 0 0 0 c.args.asker.now c.open.new.asker c.retain-2.new.asker c.in_ok-table.ensures.spends.later c.in_ok-retain.ensures.spends.later (omega arith)) c.write_row.ensures.spends (omega arith)
