use Rattle.std.proofs.Common.{◌∙◌, List, ℕ, ap, arith, subst}
use Rattle.std.specs.Prelude.{Err, Ok}
use Rattle.std.proofs.lemmas.Result.{err_from_is_err_and}
use Rattle.name_dirs.specs.Changing.{WritesRow}
use Rattle.name_dirs.specs.Making.{TakesPlace}
use Rattle.name_dirs.specs.Text.{spelled}
use Rattle.name_dirs.proofs.Added.{make_named, make_unmade, make_unnamed, make_unplaced, make_unread}
use Rattle.name_dirs.proofs.Spent.{later_itself, later_on, spends_err, spends_ok}
use Rattle.name_dirs.proofs.Told.{has_opened}
use Rattle.name_dirs.proofs.making.make.Goals as goal

pub returns-in_err-table-clause-went : goal.returns-in_err-table-clause-went
returns-in_err-table-clause-went g c = λ s stands.
    let p = err_from_is_err_and c.from_residual.result c.from_residual.ensures.1 in
    rw (p.1, p.2) (make_unread g.A.Asker c.args.who c.args.dir s c.args.asker.now c.open.new.asker c.args.name.now c.args.capacity _ stands c.in_err-table.ensures.went)

pub returns-in_err-table-clause-spends : goal.returns-in_err-table-clause-spends
returns-in_err-table-clause-spends g c =
    let p = err_from_is_err_and c.from_residual.result c.from_residual.ensures.1 in
    rw (p.1, p.2) (spends_err g.A.Asker 0 0 2 c.args.asker.now c.args.asker.now c.open.new.asker _ (later_itself g.A.Asker c.args.asker.now) c.in_err-table.ensures.spends (omega arith))

pub returns-in_err-place-clause-went : goal.returns-in_err-place-clause-went
returns-in_err-place-clause-went g c = λ s stands.
    let p = err_from_is_err_and c.from_residual-in_err-place.result c.from_residual-in_err-place.ensures.1 in
    let o = has_opened g.A.Asker c.args.who c.args.dir c.args.asker.now c.open.new.asker s stands c.in_ok-table.table c.in_ok-table.ensures.went c.in_ok-table.ensures.spends.later in
    let row = c.row_of-row.ensures ∙ ap spelled c.as_slice.ensures.bytes in
    rw (p.1, p.2) (make_unplaced g.A.Asker c.args.who c.args.dir s c.args.asker.now c.open.new.asker c.args.name.now c.as_slice.ensures.text c.args.capacity c.in_ok-table.table o c.place_for.new.asker c.in_err-place.field-0.0
    (subst (λ (r : List ℕ). TakesPlace g.A.Asker c.args.who c.args.dir c.in_ok-table.table.file c.in_ok-table.table.bytes r c.open.new.asker c.place_for.new.asker (Err c.in_err-place.field-0.0)) row c.in_err-place.ensures.went))

pub returns-in_err-place-clause-spends : goal.returns-in_err-place-clause-spends
returns-in_err-place-clause-spends g c =
    let p = err_from_is_err_and c.from_residual-in_err-place.result c.from_residual-in_err-place.ensures.1 in
    rw (p.1, p.2) (spends_err g.A.Asker 0 0 2 c.args.asker.now c.open.new.asker c.place_for.new.asker _ c.in_ok-table.ensures.spends.later c.in_err-place.ensures.spends (omega arith))

pub returns-in_err-made-clause-went : goal.returns-in_err-made-clause-went
returns-in_err-made-clause-went g c = λ s stands.
    let p = err_from_is_err_and c.from_residual-in_err-made.result c.from_residual-in_err-made.ensures.1 in
    let o = has_opened g.A.Asker c.args.who c.args.dir c.args.asker.now c.open.new.asker s stands c.in_ok-table.table c.in_ok-table.ensures.went c.in_ok-table.ensures.spends.later in
    let row = c.row_of-row.ensures ∙ ap spelled c.as_slice.ensures.bytes in
    rw (p.1, p.2) (make_unmade g.A.Asker c.args.who c.args.dir s c.args.asker.now c.open.new.asker c.args.name.now c.as_slice.ensures.text c.args.capacity c.in_ok-table.table o c.place_for.new.asker c.in_ok-place.place
    (subst (λ (r : List ℕ). TakesPlace g.A.Asker c.args.who c.args.dir c.in_ok-table.table.file c.in_ok-table.table.bytes r c.open.new.asker c.place_for.new.asker (Ok c.in_ok-place.place)) row c.in_ok-place.ensures.went)
    c.in_ok-place.ensures.spends.later.cylinders c.make_directory.new.asker c.in_err-made.field-0.0 c.in_err-made.ensures.went)

pub returns-in_err-made-clause-spends : goal.returns-in_err-made-clause-spends
returns-in_err-made-clause-spends g c =
    let p = err_from_is_err_and c.from_residual-in_err-made.result c.from_residual-in_err-made.ensures.1 in
    rw (p.1, p.2) (spends_err g.A.Asker 0 2 2 c.args.asker.now c.place_for.new.asker c.make_directory.new.asker _
    (later_on g.A.Asker 0 0 0 c.args.asker.now c.open.new.asker c.place_for.new.asker c.in_ok-table.ensures.spends.later c.in_ok-place.ensures.spends.later (omega arith)) c.in_err-made.ensures.spends (omega arith))

pub returns-in_err-write_row-clause-went : goal.returns-in_err-write_row-clause-went
returns-in_err-write_row-clause-went g c = λ s stands.
    let p = err_from_is_err_and c.from_residual-in_err-write_row.result c.from_residual-in_err-write_row.ensures.1 in
    let o = has_opened g.A.Asker c.args.who c.args.dir c.args.asker.now c.open.new.asker s stands c.in_ok-table.table c.in_ok-table.ensures.went c.in_ok-table.ensures.spends.later in
    let row = c.row_of-row.ensures ∙ ap spelled c.as_slice.ensures.bytes in
    rw (p.1, p.2) (make_unnamed g.A.Asker c.args.who c.args.dir s c.args.asker.now c.open.new.asker c.args.name.now c.as_slice.ensures.text c.args.capacity c.in_ok-table.table o c.place_for.new.asker c.in_ok-place.place
    (subst (λ (r : List ℕ). TakesPlace g.A.Asker c.args.who c.args.dir c.in_ok-table.table.file c.in_ok-table.table.bytes r c.open.new.asker c.place_for.new.asker (Ok c.in_ok-place.place)) row c.in_ok-place.ensures.went)
    c.in_ok-place.ensures.spends.later.cylinders c.make_directory.new.asker c.in_ok-made.made c.in_ok-made.ensures.went c.in_ok-made.ensures.spends.later.cylinders c.write_row.new.asker c.in_err-write_row.field-0.0
    (subst (λ (r : List ℕ). WritesRow g.A.Asker c.args.who c.in_ok-table.table.file c.in_ok-place.place r c.make_directory.new.asker c.write_row.new.asker (Err c.in_err-write_row.field-0.0)) row c.in_err-write_row.ensures.went))

pub returns-in_err-write_row-clause-spends : goal.returns-in_err-write_row-clause-spends
returns-in_err-write_row-clause-spends g c =
    let p = err_from_is_err_and c.from_residual-in_err-write_row.result c.from_residual-in_err-write_row.ensures.1 in
    rw (p.1, p.2) (spends_err g.A.Asker 2 0 2 c.args.asker.now c.make_directory.new.asker c.write_row.new.asker _
    (later_on g.A.Asker 0 2 2 c.args.asker.now c.place_for.new.asker c.make_directory.new.asker
    (later_on g.A.Asker 0 0 0 c.args.asker.now c.open.new.asker c.place_for.new.asker c.in_ok-table.ensures.spends.later c.in_ok-place.ensures.spends.later (omega arith)) c.in_ok-made.ensures.spends.later (omega arith))
    c.in_err-write_row.ensures.spends (omega arith))

pub returns-clause-went : goal.returns-clause-went
returns-clause-went g c = λ s stands.
    let o = has_opened g.A.Asker c.args.who c.args.dir c.args.asker.now c.open.new.asker s stands c.in_ok-table.table c.in_ok-table.ensures.went c.in_ok-table.ensures.spends.later in
    let row = c.row_of-row.ensures ∙ ap spelled c.as_slice.ensures.bytes in
    make_named g.A.Asker c.args.who c.args.dir s c.args.asker.now c.open.new.asker c.args.name.now c.as_slice.ensures.text c.args.capacity c.in_ok-table.table o c.place_for.new.asker c.in_ok-place.place
    (subst (λ (r : List ℕ). TakesPlace g.A.Asker c.args.who c.args.dir c.in_ok-table.table.file c.in_ok-table.table.bytes r c.open.new.asker c.place_for.new.asker (Ok c.in_ok-place.place)) row c.in_ok-place.ensures.went)
    c.in_ok-place.ensures.spends.later.cylinders c.make_directory.new.asker c.in_ok-made.made c.in_ok-made.ensures.went c.in_ok-made.ensures.spends.later.cylinders c.write_row.new.asker
    (subst (λ (r : List ℕ). WritesRow g.A.Asker c.args.who c.in_ok-table.table.file c.in_ok-place.place r c.make_directory.new.asker c.write_row.new.asker (Ok tt)) row c.in_ok-write_row.ensures.went)

pub returns-clause-spends : goal.returns-clause-spends
returns-clause-spends g c =
    spends_ok g.A.Asker 2 c.args.asker.now c.write_row.new.asker c.in_ok-made.made
    (later_on g.A.Asker 2 0 2 c.args.asker.now c.make_directory.new.asker c.write_row.new.asker
    (later_on g.A.Asker 0 2 2 c.args.asker.now c.place_for.new.asker c.make_directory.new.asker
    (later_on g.A.Asker 0 0 0 c.args.asker.now c.open.new.asker c.place_for.new.asker c.in_ok-table.ensures.spends.later c.in_ok-place.ensures.spends.later (omega arith)) c.in_ok-made.ensures.spends.later (omega arith))
    c.in_ok-write_row.ensures.spends.later (omega arith))
