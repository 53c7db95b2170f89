use Rattle.std.proofs.Common.{◌≡◌, ◌∙◌, ◌+◌, ◌≤◌, List, ℕ, arith, subst}
use Rattle.std.specs.Prelude.{Err, Ok}
use Rattle.std.proofs.lemmas.Result.{err_from_is_err_and}
use Rattle.name_dirs.specs.Changing.{WritesRow}
use Rattle.name_dirs.proofs.Made.{header_refused, index_refused, made_done, making, table_refused, zeros_on, zeros_refused}
use Rattle.name_dirs.proofs.Spent.{later_on, spends_err}
use Rattle.name_dirs.proofs.making.make_directory.Goals as goal

pub returns-in_err-made-clause-went : goal.returns-in_err-made-clause-went
returns-in_err-made-clause-went g c = λ s i stands runs at late nameless.
    let p = err_from_is_err_and c.from_residual.result c.from_residual.ensures.1 in
    let sized : c.from-slots.result + 1 ≡ c.args.capacity + 1 = omega (arith, c.from-slots.ensures) in
    rw (p.1, p.2) (index_refused g.A.Asker c.args.who s c.args.asker.now stands runs c.args.index i at c.args.slot late nameless (c.from-slots.result + 1) c.args.capacity (omega arith) sized c.create_index.new.asker _ c.in_err-made.ensures.went)

pub returns-in_err-table-clause-went : goal.returns-in_err-table-clause-went
returns-in_err-table-clause-went g c = λ s i stands runs at late nameless.
    let p = err_from_is_err_and c.from_residual-in_err-table.result c.from_residual-in_err-table.ensures.1 in
    let sized : c.from-slots.result + 1 ≡ c.args.capacity + 1 = omega (arith, c.from-slots.ensures) in
    rw (p.1, p.2) (table_refused g.A.Asker c.args.who s c.args.asker.now stands runs c.args.index i at c.args.slot late nameless (c.from-slots.result + 1) c.args.capacity (omega arith) sized c.in_ok-made.made
    c.create_index.new.asker c.in_ok-made.ensures.went c.in_ok-made.ensures.spends.later.cylinders c.create_table.new.asker _ c.in_err-table.ensures.went)

pub returns-in_err-table-clause-spends : goal.returns-in_err-table-clause-spends
returns-in_err-table-clause-spends g c =
    let p = err_from_is_err_and c.from_residual-in_err-table.result c.from_residual-in_err-table.ensures.1 in
    rw (p.1, p.2) (spends_err g.A.Asker 1 1 2 c.args.asker.now c.create_index.new.asker c.create_table.new.asker _ c.in_ok-made.ensures.spends.later c.in_err-table.ensures.spends (omega arith))

pub returns-in_err-lengthen-clause-went : goal.returns-in_err-lengthen-clause-went
returns-in_err-lengthen-clause-went g c = λ s i stands runs at late nameless.
    let p = err_from_is_err_and c.from_residual-in_err-lengthen.result c.from_residual-in_err-lengthen.ensures.1 in
    let sized : c.from-slots.result + 1 ≡ c.args.capacity + 1 = omega (arith, c.from-slots.ensures) in
    let few : c.from-slots.result + 1 ≤ 4096 = omega (arith, c.from-slots.ensures, c.requires.capacity.1) in
    let k = making g.A.Asker c.args.who s c.args.asker.now stands runs c.args.index i at c.args.slot late nameless (c.from-slots.result + 1) c.args.capacity (omega arith) sized c.in_ok-made.made
    c.create_index.new.asker c.in_ok-made.ensures.went c.create_table.new.asker c.in_ok-table.table c.in_ok-table.ensures.went in
    rw (p.1, p.2) (zeros_refused g.A.Asker c.args.who s c.args.asker.now stands runs c.args.index i at c.args.slot late nameless (c.from-slots.result + 1) c.args.capacity (omega arith) sized c.in_ok-made.made
    c.in_ok-table.table c.create_table.new.asker k few (c.in_ok-table.ensures.spends.later.cylinders ∙ c.in_ok-made.ensures.spends.later.cylinders) c.lengthen.new.asker _ c.in_err-lengthen.ensures.went)

pub returns-in_err-lengthen-clause-spends : goal.returns-in_err-lengthen-clause-spends
returns-in_err-lengthen-clause-spends g c =
    let p = err_from_is_err_and c.from_residual-in_err-lengthen.result c.from_residual-in_err-lengthen.ensures.1 in
    rw (p.1, p.2) (spends_err g.A.Asker 2 0 2 c.args.asker.now c.create_table.new.asker c.lengthen.new.asker _
    (later_on g.A.Asker 1 1 2 c.args.asker.now c.create_index.new.asker c.create_table.new.asker c.in_ok-made.ensures.spends.later c.in_ok-table.ensures.spends.later (omega arith)) c.in_err-lengthen.ensures.spends (omega arith))

pub returns-in_err-write_row-clause-went : goal.returns-in_err-write_row-clause-went
returns-in_err-write_row-clause-went g c = λ s i stands runs at late nameless.
    let p = err_from_is_err_and c.from_residual-in_err-write_row.result c.from_residual-in_err-write_row.ensures.1 in
    let sized : c.from-slots.result + 1 ≡ c.args.capacity + 1 = omega (arith, c.from-slots.ensures) in
    let few : c.from-slots.result + 1 ≤ 4096 = omega (arith, c.from-slots.ensures, c.requires.capacity.1) in
    let k = making g.A.Asker c.args.who s c.args.asker.now stands runs c.args.index i at c.args.slot late nameless (c.from-slots.result + 1) c.args.capacity (omega arith) sized c.in_ok-made.made
    c.create_index.new.asker c.in_ok-made.ensures.went c.create_table.new.asker c.in_ok-table.table c.in_ok-table.ensures.went in
    let z = zeros_on g.A.Asker c.args.who s c.args.asker.now stands runs c.args.index i at c.args.slot late nameless (c.from-slots.result + 1) c.args.capacity (omega arith) sized c.in_ok-made.made
    c.in_ok-table.table c.create_table.new.asker k few c.lengthen.new.asker c.in_ok-lengthen.ensures.went in
    rw (p.1, p.2) (header_refused g.A.Asker c.args.who s c.args.asker.now stands runs c.args.index i at c.args.slot late nameless (c.from-slots.result + 1) c.args.capacity (omega arith) sized c.in_ok-made.made
    c.in_ok-table.table c.lengthen.new.asker z (c.in_ok-lengthen.ensures.spends.later.cylinders ∙ c.in_ok-table.ensures.spends.later.cylinders ∙ c.in_ok-made.ensures.spends.later.cylinders) c.write_row.new.asker c.in_err-write_row.field-0.0
    (subst (λ (r : List ℕ). WritesRow g.A.Asker c.args.who c.in_ok-table.table 0 r c.lengthen.new.asker c.write_row.new.asker (Err c.in_err-write_row.field-0.0)) c.header.ensures c.in_err-write_row.ensures.went))

pub returns-in_err-write_row-clause-spends : goal.returns-in_err-write_row-clause-spends
returns-in_err-write_row-clause-spends g c =
    let p = err_from_is_err_and c.from_residual-in_err-write_row.result c.from_residual-in_err-write_row.ensures.1 in
    rw (p.1, p.2) (spends_err g.A.Asker 2 0 2 c.args.asker.now c.lengthen.new.asker c.write_row.new.asker _
    (later_on g.A.Asker 2 0 2 c.args.asker.now c.create_table.new.asker c.lengthen.new.asker
    (later_on g.A.Asker 1 1 2 c.args.asker.now c.create_index.new.asker c.create_table.new.asker c.in_ok-made.ensures.spends.later c.in_ok-table.ensures.spends.later (omega arith)) c.in_ok-lengthen.ensures.spends.later (omega arith))
    c.in_err-write_row.ensures.spends (omega arith))

pub returns-clause-went : goal.returns-clause-went
returns-clause-went g c = λ s i stands runs at late nameless.
    let sized : c.from-slots.result + 1 ≡ c.args.capacity + 1 = omega (arith, c.from-slots.ensures) in
    let few : c.from-slots.result + 1 ≤ 4096 = omega (arith, c.from-slots.ensures, c.requires.capacity.1) in
    let k = making g.A.Asker c.args.who s c.args.asker.now stands runs c.args.index i at c.args.slot late nameless (c.from-slots.result + 1) c.args.capacity (omega arith) sized c.in_ok-made.made
    c.create_index.new.asker c.in_ok-made.ensures.went c.create_table.new.asker c.in_ok-table.table c.in_ok-table.ensures.went in
    let z = zeros_on g.A.Asker c.args.who s c.args.asker.now stands runs c.args.index i at c.args.slot late nameless (c.from-slots.result + 1) c.args.capacity (omega arith) sized c.in_ok-made.made
    c.in_ok-table.table c.create_table.new.asker k few c.lengthen.new.asker c.in_ok-lengthen.ensures.went in
    made_done g.A.Asker c.args.who s c.args.asker.now stands runs c.args.index i at c.args.slot late nameless (c.from-slots.result + 1) c.args.capacity (omega arith) sized c.in_ok-made.made
    c.in_ok-table.table c.lengthen.new.asker z c.write_row.new.asker
    (subst (λ (r : List ℕ). WritesRow g.A.Asker c.args.who c.in_ok-table.table 0 r c.lengthen.new.asker c.write_row.new.asker (Ok tt)) c.header.ensures c.in_ok-write_row.ensures.went)
