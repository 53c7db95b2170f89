use Rattle.std.proofs.Common.{◌≡◌, ◌∙◌, ◌+◌, ◌<◌, ◌≤◌, List, None, Option, Some, false, true, length, ℕ, arith, refl, subst, sym}
use Rattle.std.specs.Prelude.{is_some}
use Rattle.std.proofs.lemmas.Result.{err_from_is_err_and}
use Rattle.cfs_base.specs.declared.identifier.Puid.{Puid}
use Rattle.name_dirs.specs.Text.{names_rise}
use Rattle.name_dirs.proofs.Sought.{AreListedTo, list_begin, list_done, list_empty, list_fault, list_more, list_nameless, list_starved, listed_all, name_told, some_slots}
use Rattle.name_dirs.proofs.Spent.{later_on, spends_err}
use Rattle.name_dirs.proofs.Told.{has_opened, slot_told}
use Rattle.name_dirs.proofs.looking.list.Goals as goal
use Rattle.name_dirs.proofs.looking.list.Goals.{then-is_some+in_ok-add, else-is_some}

none_is : (o : Option Puid) → is_some o ≡ false → o ≡ None
none_is None is = refl
none_is (Some id) is = cc is

some_is : (o : Option Puid) → is_some o ≡ true → (id : Puid) × (o ≡ Some id)
some_is None is = cc is
some_is (Some id) is = (id, refl)

pub places-init : goal.places-init
places-init g c = record {
  later = c.in_ok-table.ensures.spends.later;
  rise = rw c.new-names.ensures refl;
  so_far = λ s stands.
      let o = has_opened g.A.Asker c.args.who c.args.dir c.args.asker.now c.open.new.asker s stands c.in_ok-table.table c.in_ok-table.ensures.went c.in_ok-table.ensures.spends.later in
      (o, subst (λ (l : List (List ℕ)). AreListedTo o.of.index o.of.file l 1) (sym c.new-names.ensures) (list_begin o.of.index o.of.file));
}

pub places-preserved-in_default : goal.places-preserved-in_default
places-preserved-in_default g c = record {
  later = c.places.invariant.later;
  rise = c.places.invariant.rise;
  so_far = λ s stands.
      let k = c.places.invariant.so_far s stands in
      let o = k.0 in
      let slots = o.of.slots in
      let late : c.places.place < length o.of.index.slots = omega arith in
      let named = name_told s.graph c.args.dir c.in_ok-table.table o.of c.places.place c.in_ok-name.field-0 (omega arith) (omega arith) c.in_ok-name.ensures in
      (o, list_nameless o.of.index o.of.file o.of.has.is c.places.names c.places.place (omega arith) late k.1 (named ∙ c.in_default.is));
}

pub returns-in_err-slot_of-clause-went : goal.returns-in_err-slot_of-clause-went
returns-in_err-slot_of-clause-went g c = λ s stands.
    let p = err_from_is_err_and c.from_residual-in_err-slot_of.result c.from_residual-in_err-slot_of.ensures.1 in
    let k = c.places.invariant.so_far s stands in
    rw (p.1, p.2) (listed_all g.A.Asker c.args.who c.args.dir s c.args.asker.now c.slot_of.new.asker _
    (list_fault g.A.Asker c.args.who c.args.dir s c.args.asker.now c.places.asker c.in_ok-table.table k.0 c.places.place c.slot_of.new.asker c.in_err-slot_of.field-0.0 (omega arith) c.in_err-slot_of.ensures.went))

pub returns-in_err-slot_of-clause-spends : goal.returns-in_err-slot_of-clause-spends
returns-in_err-slot_of-clause-spends g c =
    let p = err_from_is_err_and c.from_residual-in_err-slot_of.result c.from_residual-in_err-slot_of.ensures.1 in
    rw (p.1, p.2) (spends_err g.A.Asker 0 0 0 c.args.asker.now c.places.asker c.slot_of.new.asker c.in_err-slot_of.field-0.0 c.places.invariant.later c.in_err-slot_of.ensures.spends (omega arith))

pub returns-in_err-add-clause-went : goal.returns-in_err-add-clause-went
returns-in_err-add-clause-went g c = λ s stands.
    let p = err_from_is_err_and c.from_residual-in_err-add.result c.from_residual-in_err-add.ensures.1 in
    let o = (c.places.invariant.so_far s stands).0 in
    let slots = o.of.slots in
    let late : c.places.place < length o.of.index.slots = omega arith in
    let told = slot_told g.A.Asker c.args.who c.args.dir c.args.asker.now c.places.asker s c.in_ok-table.table o c.places.place c.slot_of.new.asker c.in_ok-slot_of.field-0 late c.in_ok-slot_of.ensures.went in
    rw (p.1, p.2) (listed_all g.A.Asker c.args.who c.args.dir s c.args.asker.now c.slot_of.new.asker _ (list_starved g.A.Asker c.args.who c.args.dir s c.args.asker.now c.slot_of.new.asker told.0 o.runs))

pub places-preserved : goal.places-preserved
places-preserved g c = record {
  later = later_on g.A.Asker 0 0 0 c.args.asker.now c.places.asker c.slot_of.new.asker c.places.invariant.later c.in_ok-slot_of.ensures.spends.later (omega arith);
  rise = elim c.if-is_some.branch [
    | then-is_some+in_ok-add w ↦ subst (λ (l : List (List ℕ)). names_rise l ≡ true) (w.names-then-is_some.view_is ∙ sym w.names-is) w.names-then-is_some.invariant
    | else-is_some w ↦ subst (λ (l : List (List ℕ)). names_rise l ≡ true) (sym w.names-is) c.places.invariant.rise
  ];
  so_far = λ s stands.
      let k = c.places.invariant.so_far s stands in
      let o = k.0 in
      let slots = o.of.slots in
      let late : c.places.place < length o.of.index.slots = omega arith in
      let told = slot_told g.A.Asker c.args.who c.args.dir c.args.asker.now c.places.asker s c.in_ok-table.table o c.places.place c.slot_of.new.asker c.in_ok-slot_of.field-0 late c.in_ok-slot_of.ensures.went in
      let named = name_told s.graph c.args.dir c.in_ok-table.table o.of c.places.place c.in_ok-name.field-0 (omega arith) (omega arith) c.in_ok-name.ensures ∙ c.in-Some.is in (
        record { reads = told.0; runs = o.runs; of = o.of; few = o.few; cylinders = c.in_ok-slot_of.ensures.spends.later.cylinders ∙ o.cylinders },
        elim c.if-is_some.branch [
          | then-is_some+in_ok-add w ↦
              let held = some_is c.in_ok-slot_of.field-0 (sym w.if-is_some.ensures) in
              subst (λ (l : List (List ℕ)). AreListedTo o.of.index o.of.file l (c.places.place + 1)) (sym w.names-is)
              (list_more o.of.index o.of.file o.of.has.is c.places.names c.places.place (omega arith) late k.1 c.in-Some.name held.0 w.add.new.self w.in_ok-add.field-0 named (sym told.1 ∙ held.1) w.in_ok-add.ensures.added)
          | else-is_some w ↦
              subst (λ (l : List (List ℕ)). AreListedTo o.of.index o.of.file l (c.places.place + 1)) (sym w.names-is)
              (list_empty o.of.index o.of.file o.of.has.is c.places.names c.places.place (omega arith) late k.1 (sym told.1 ∙ none_is c.in_ok-slot_of.field-0 (sym w.if-is_some.ensures)))
        ],
      );
}

pub returns-clause-went : goal.returns-clause-went
returns-clause-went g c = λ s stands.
    let k = c.places.invariant.so_far s stands in
    let o = k.0 in
    let slots = o.of.slots in
    let some : 1 ≤ c.in_ok-table.table.slots = some_slots s.graph c.args.dir c.in_ok-table.table o.of in
    let here : c.places.place ≡ c.in_ok-table.table.slots = omega (arith, c.places-test.false, c.places.auto, some) in
    listed_all g.A.Asker c.args.who c.args.dir s c.args.asker.now c.places.asker _
    (list_done g.A.Asker c.args.who c.args.dir s c.args.asker.now c.places.asker c.in_ok-table.table o c.places.names (subst (AreListedTo o.of.index o.of.file c.places.names) here k.1) c.places.invariant.rise)
