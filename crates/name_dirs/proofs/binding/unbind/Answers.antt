use Rattle.std.proofs.Common.{◌≡◌, ◌∙◌, List, None, Option, Some, false, true, ℕ, ap, arith, refl, subst}
use Rattle.std.specs.Prelude.{Ok, is_some}
use Rattle.std.proofs.lemmas.Result.{err_from_is_err_and}
use Rattle.cfs_base.specs.declared.identifier.Puid.{Puid}
use Rattle.name_dirs.specs.Opening.{HasNoRow, IsFirstRow}
use Rattle.name_dirs.specs.Reading.{LooksAtSlot}
use Rattle.name_dirs.specs.Text.{spelled}
use Rattle.name_dirs.proofs.Spent.{later_on, spends_err, spends_on}
use Rattle.name_dirs.proofs.Told.{has_opened}
use Rattle.name_dirs.proofs.Unbound.{unbind_empty, unbind_kept, unbind_none, unbind_unread, unbind_unseen, unbind_written}
use Rattle.name_dirs.proofs.binding.unbind.Goals as goal

none_is : (o : Option Puid) → is_some o ≡ false → o ≡ None
none_is None is = refl
none_is (Some id) is = cc is

some_is : (o : Option Puid) → is_some o ≡ true → (id : Puid) × (o ≡ Some id)
some_is None is = cc is
some_is (Some id) is = (id, refl)

pub returns-in_err-table-clause-went : goal.returns-in_err-table-clause-went
returns-in_err-table-clause-went g c = λ s stands.
    let p = err_from_is_err_and c.from_residual.result c.from_residual.ensures.1 in
    rw (p.1, p.2) (unbind_unread g.A.Asker c.args.who c.args.dir s c.args.asker.now c.open.new.asker c.args.name.now _ stands c.in_err-table.ensures.went)

pub returns-in_default-clause-went : goal.returns-in_default-clause-went
returns-in_default-clause-went g c = λ s stands.
    let o = has_opened g.A.Asker c.args.who c.args.dir c.args.asker.now c.open.new.asker s stands c.in_ok-table.table c.in_ok-table.ensures.went c.in_ok-table.ensures.spends.later in
    let row = c.row_of.ensures ∙ ap spelled c.as_slice.ensures.bytes in
    unbind_none g.A.Asker c.args.who c.args.dir s c.args.asker.now c.open.new.asker c.in_ok-table.table o c.args.name.now c.as_slice.ensures.text
    (subst (λ (r : List ℕ). HasNoRow c.in_ok-table.table.bytes c.in_ok-table.table.slots r) row c.in_default.ensures)

pub returns-in_err-slot_of-clause-went : goal.returns-in_err-slot_of-clause-went
returns-in_err-slot_of-clause-went g c = λ s stands.
    let p = err_from_is_err_and c.from_residual-in_err-slot_of.result c.from_residual-in_err-slot_of.ensures.1 in
    let o = has_opened g.A.Asker c.args.who c.args.dir c.args.asker.now c.open.new.asker s stands c.in_ok-table.table c.in_ok-table.ensures.went c.in_ok-table.ensures.spends.later in
    let row = c.row_of.ensures ∙ ap spelled c.as_slice.ensures.bytes in
    rw (p.1, p.2) (unbind_unseen g.A.Asker c.args.who c.args.dir s c.args.asker.now c.open.new.asker c.in_ok-table.table o c.args.name.now c.as_slice.ensures.text c.in-Some.place
    (subst (λ (r : List ℕ). IsFirstRow c.in_ok-table.table.bytes c.in_ok-table.table.slots r c.in-Some.place) row c.in-Some.ensures) c.slot_of.new.asker c.in_err-slot_of.field-0.0 c.in_err-slot_of.ensures.went)

pub returns-in_err-slot_of-clause-spends : goal.returns-in_err-slot_of-clause-spends
returns-in_err-slot_of-clause-spends g c =
    let p = err_from_is_err_and c.from_residual-in_err-slot_of.result c.from_residual-in_err-slot_of.ensures.1 in
    rw (p.1, p.2) (spends_err g.A.Asker 0 0 0 c.args.asker.now c.open.new.asker c.slot_of.new.asker c.in_err-slot_of.field-0.0 c.in_ok-table.ensures.spends.later c.in_err-slot_of.ensures.spends (omega arith))

pub returns-then-is_none-clause-went : goal.returns-then-is_none-clause-went
returns-then-is_none-clause-went g c = λ s stands.
    let o = has_opened g.A.Asker c.args.who c.args.dir c.args.asker.now c.open.new.asker s stands c.in_ok-table.table c.in_ok-table.ensures.went c.in_ok-table.ensures.spends.later in
    let row = c.row_of.ensures ∙ ap spelled c.as_slice.ensures.bytes in
    unbind_empty g.A.Asker c.args.who c.args.dir s c.args.asker.now c.open.new.asker c.in_ok-table.table o c.args.name.now c.as_slice.ensures.text c.in-Some.place
    (subst (λ (r : List ℕ). IsFirstRow c.in_ok-table.table.bytes c.in_ok-table.table.slots r c.in-Some.place) row c.in-Some.ensures) c.slot_of.new.asker
    (subst (λ (what : Option Puid). LooksAtSlot g.A.Asker c.args.who c.args.dir c.in-Some.place c.open.new.asker c.slot_of.new.asker (Ok what)) (none_is _ c.if-is_none.ensures) c.in_ok-slot_of.ensures.went)

pub returns-in_err-write_row-clause-went : goal.returns-in_err-write_row-clause-went
returns-in_err-write_row-clause-went g c = λ s stands.
    let p = err_from_is_err_and c.from_residual-in_err-write_row.result c.from_residual-in_err-write_row.ensures.1 in
    let o = has_opened g.A.Asker c.args.who c.args.dir c.args.asker.now c.open.new.asker s stands c.in_ok-table.table c.in_ok-table.ensures.went c.in_ok-table.ensures.spends.later in
    let row = c.row_of.ensures ∙ ap spelled c.as_slice.ensures.bytes in
    let held = some_is _ c.if-is_none.ensures in
    rw (p.1, p.2) (unbind_kept g.A.Asker c.args.who c.args.dir s c.args.asker.now c.open.new.asker c.in_ok-table.table o c.args.name.now c.as_slice.ensures.text c.in-Some.place
    (subst (λ (r : List ℕ). IsFirstRow c.in_ok-table.table.bytes c.in_ok-table.table.slots r c.in-Some.place) row c.in-Some.ensures) c.slot_of.new.asker held.0
    (subst (λ (what : Option Puid). LooksAtSlot g.A.Asker c.args.who c.args.dir c.in-Some.place c.open.new.asker c.slot_of.new.asker (Ok what)) held.1 c.in_ok-slot_of.ensures.went)
    c.in_ok-slot_of.ensures.spends.later.cylinders c.write_row.new.asker c.in_err-write_row.field-0.0 c.in_err-write_row.ensures.went)

pub returns-in_err-write_row-clause-spends : goal.returns-in_err-write_row-clause-spends
returns-in_err-write_row-clause-spends g c =
    let p = err_from_is_err_and c.from_residual-in_err-write_row.result c.from_residual-in_err-write_row.ensures.1 in
    rw (p.1, p.2) (spends_err g.A.Asker 0 0 0 c.args.asker.now c.slot_of.new.asker c.write_row.new.asker c.in_err-write_row.field-0.0
    (later_on g.A.Asker 0 0 0 c.args.asker.now c.open.new.asker c.slot_of.new.asker c.in_ok-table.ensures.spends.later c.in_ok-slot_of.ensures.spends.later (omega arith)) c.in_err-write_row.ensures.spends (omega arith))

pub returns-clause-went : goal.returns-clause-went
returns-clause-went g c = λ s stands.
    let o = has_opened g.A.Asker c.args.who c.args.dir c.args.asker.now c.open.new.asker s stands c.in_ok-table.table c.in_ok-table.ensures.went c.in_ok-table.ensures.spends.later in
    let row = c.row_of.ensures ∙ ap spelled c.as_slice.ensures.bytes in
    let held = some_is _ c.if-is_none.ensures in
    unbind_written g.A.Asker c.args.who c.args.dir s c.args.asker.now c.open.new.asker c.in_ok-table.table o c.args.name.now c.as_slice.ensures.text c.in-Some.place
    (subst (λ (r : List ℕ). IsFirstRow c.in_ok-table.table.bytes c.in_ok-table.table.slots r c.in-Some.place) row c.in-Some.ensures) c.slot_of.new.asker held.0
    (subst (λ (what : Option Puid). LooksAtSlot g.A.Asker c.args.who c.args.dir c.in-Some.place c.open.new.asker c.slot_of.new.asker (Ok what)) held.1 c.in_ok-slot_of.ensures.went)
    c.in_ok-slot_of.ensures.spends.later.cylinders c.write_row.new.asker c.in_ok-write_row.ensures.went c.in_ok-write_row.ensures.spends.later.cylinders c.empty.new.asker c.empty.result c.empty.ensures.went

pub returns-clause-spends : goal.returns-clause-spends
returns-clause-spends g c =
    spends_on g.A.Asker 0 0 0 c.args.asker.now c.write_row.new.asker c.empty.new.asker c.empty.result
    (later_on g.A.Asker 0 0 0 c.args.asker.now c.slot_of.new.asker c.write_row.new.asker
    (later_on g.A.Asker 0 0 0 c.args.asker.now c.open.new.asker c.slot_of.new.asker c.in_ok-table.ensures.spends.later c.in_ok-slot_of.ensures.spends.later (omega arith)) c.in_ok-write_row.ensures.spends.later (omega arith))
    c.empty.ensures.spends (omega arith)
