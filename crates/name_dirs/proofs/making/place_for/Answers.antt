use Rattle.std.proofs.Common.{◌≡◌, None, Option, Some, false, true, arith, refl, subst, sym}
use Rattle.std.specs.Prelude.{Ok, is_some}
use Rattle.std.proofs.lemmas.Result.{err_from_is_err_and}
use Rattle.cfs_base.specs.declared.identifier.Puid.{Puid}
use Rattle.name_dirs.specs.Reading.{LooksAtSlot}
use Rattle.name_dirs.proofs.Placed.{place_emptied, place_exists, place_or_full, place_unkept, place_unseen, slots_are}
use Rattle.name_dirs.proofs.Spent.{spends_err}
use Rattle.name_dirs.proofs.making.place_for.Goals as goal

none_is : (o : Option Puid) → is_some o ≡ false → o ≡ None
none_is None is = refl
none_is (Some id) is = cc is

some_is : (o : Option Puid) → is_some o ≡ true → (id : Puid) × (o ≡ Some id)
some_is None is = cc is
some_is (Some id) is = (id, refl)

pub returns-in_default-clause-went : goal.returns-in_default-clause-went
returns-in_default-clause-went g c = λ s i f w stands runs has bytes row text.
    let slots = slots_are i f has.is c.args.table.now.bytes c.args.table.now.slots c.args.table.now.sized bytes in
    rw (c.ok_or.ensures.value, c.full.ensures) (place_or_full g.A.Asker c.args.who c.args.dir c.args.table.now.file s c.args.asker.now stands runs i f has w text c.args.table.now.bytes c.args.row.now _ c.args.table.now.slots bytes slots row refl c.in_default.ensures _ c.place_of-in_default.ensures)

pub returns-in_err-slot_of-clause-went : goal.returns-in_err-slot_of-clause-went
returns-in_err-slot_of-clause-went g c = λ s i f w stands runs has bytes row text.
    let p = err_from_is_err_and c.from_residual.result c.from_residual.ensures.1 in
    let slots = slots_are i f has.is c.args.table.now.bytes c.args.table.now.slots c.args.table.now.sized bytes in
    rw (p.1, p.2) (place_unseen g.A.Asker c.args.who c.args.dir c.args.table.now.file s c.args.asker.now stands runs i f has w text c.args.table.now.bytes c.args.row.now c.args.table.now.slots c.in-Some.place bytes slots row c.in-Some.ensures c.slot_of.new.asker _ c.in_err-slot_of.ensures.went)

pub returns-then-is_some-clause-went : goal.returns-then-is_some-clause-went
returns-then-is_some-clause-went g c = λ s i f w stands runs has bytes row text.
    let slots = slots_are i f has.is c.args.table.now.bytes c.args.table.now.slots c.args.table.now.sized bytes in
    let held = some_is _ (sym c.if-is_some.ensures) in
    place_exists g.A.Asker c.args.who c.args.dir c.args.table.now.file s c.args.asker.now stands runs i f has w text c.args.table.now.bytes c.args.row.now c.args.table.now.slots c.in-Some.place bytes slots row c.in-Some.ensures c.slot_of.new.asker held.0
    (subst (λ (what : Option Puid). LooksAtSlot g.A.Asker c.args.who c.args.dir c.in-Some.place c.args.asker.now c.slot_of.new.asker (Ok what)) held.1 c.in_ok-slot_of.ensures.went)

pub returns-in_err-write_row-clause-went : goal.returns-in_err-write_row-clause-went
returns-in_err-write_row-clause-went g c = λ s i f w stands runs has bytes row text.
    let p = err_from_is_err_and c.from_residual-in_err-write_row.result c.from_residual-in_err-write_row.ensures.1 in
    let slots = slots_are i f has.is c.args.table.now.bytes c.args.table.now.slots c.args.table.now.sized bytes in
    rw (p.1, p.2) (place_unkept g.A.Asker c.args.who c.args.dir c.args.table.now.file s c.args.asker.now stands runs i f has w text c.args.table.now.bytes c.args.row.now c.args.table.now.slots c.in-Some.place bytes slots row c.in-Some.ensures c.slot_of.new.asker
    (subst (λ (what : Option Puid). LooksAtSlot g.A.Asker c.args.who c.args.dir c.in-Some.place c.args.asker.now c.slot_of.new.asker (Ok what)) (none_is _ (sym c.if-is_some.ensures)) c.in_ok-slot_of.ensures.went)
    c.in_ok-slot_of.ensures.spends.later.cylinders c.write_row.new.asker c.in_err-write_row.field-0.0 c.in_err-write_row.ensures.went)

pub returns-in_err-write_row-clause-spends : goal.returns-in_err-write_row-clause-spends
returns-in_err-write_row-clause-spends g c =
    let p = err_from_is_err_and c.from_residual-in_err-write_row.result c.from_residual-in_err-write_row.ensures.1 in
    rw (p.1, p.2) (spends_err g.A.Asker 0 0 0 c.args.asker.now c.slot_of.new.asker c.write_row.new.asker c.in_err-write_row.field-0.0 c.in_ok-slot_of.ensures.spends.later c.in_err-write_row.ensures.spends (omega arith))

pub returns-clause-went : goal.returns-clause-went
returns-clause-went g c = λ s i f w stands runs has bytes row text.
    let slots = slots_are i f has.is c.args.table.now.bytes c.args.table.now.slots c.args.table.now.sized bytes in
    place_emptied g.A.Asker c.args.who c.args.dir c.args.table.now.file s c.args.asker.now stands runs i f has w text c.args.table.now.bytes c.args.row.now c.args.table.now.slots c.in-Some.place bytes slots row c.in-Some.ensures c.slot_of.new.asker
    (subst (λ (what : Option Puid). LooksAtSlot g.A.Asker c.args.who c.args.dir c.in-Some.place c.args.asker.now c.slot_of.new.asker (Ok what)) (none_is _ (sym c.if-is_some.ensures)) c.in_ok-slot_of.ensures.went)
    c.in_ok-slot_of.ensures.spends.later.cylinders c.write_row.new.asker c.in_ok-write_row.ensures.went
