use Rattle.std.proofs.Common.{◌≡◌, ◌≢◌, ◌∙◌, Bool, Option, None, Some, true, false, not, ap, arith, refl, subst, sym}
use Rattle.std.specs.Option.{ok_or, option_eq}
use Rattle.std.specs.Prelude.{Err, Ok}
use Rattle.std.proofs.lemmas.Result.{err_from_is_err_and}
use Rattle.cfs_base.specs.declared.identifier.Puid.{Puid}
use Rattle.cfs_base.specs.declared.kind.Kind.{Kind}
use Rattle.cfs_base.specs.declared.kind.Kind.TheVariants as kinds
use Rattle.cfs_base.specs.contracts.kind.KindPartialEq.TheImpl.{eq-value}
use Rattle.name_dirs.specs.declared.fault.DirFault.{DirFault}
use Rattle.name_dirs.specs.Directory.{are_rows}
use Rattle.name_dirs.specs.Reading.{LooksAtSlot}
use Rattle.name_dirs.proofs.Opened.{bytes_fault, first_fault, first_none, has_file, has_first, has_index, opens, other_kind, other_rows, other_size, size_fault, starved}
use Rattle.name_dirs.proofs.Spent.{later_on, spends_err}
use Rattle.name_dirs.proofs.opening.open.Goals as goal
use Rattle.name_dirs.proofs.opening.open.Goals.{then-size-ne0-via-then-size-ne0, then-size-ne0-via-else-size-ne0+then-size-slots}

abbrev is_kind : Option Kind → Bool
is_kind k = option_eq eq-value.it k (Some kinds.Special)

kind_is : (k : Option Kind) → false ≡ not (is_kind k) → k ≡ Some kinds.Special
kind_is None is = cc is
kind_is (Some kinds.Normal) is = cc is
kind_is (Some kinds.Special) is = refl
kind_is (Some kinds.Index) is = cc is

not_kind : (k : Option Kind) → true ≡ not (is_kind k) → k ≢ Some kinds.Special
not_kind None is same = cc same
not_kind (Some kinds.Normal) is same = cc same
not_kind (Some kinds.Special) is same = cc is
not_kind (Some kinds.Index) is same = cc same

-- what was in the slot
ok_some : (o : Option Puid) (fault : DirFault) (t : Puid) → Ok t ≡ ok_or o fault → o ≡ Some t
ok_some None fault t is = cc is
ok_some (Some x) fault t is = cc is

err_none : (o : Option Puid) (fault other : DirFault) → Err other ≡ ok_or o fault → (o ≡ None) × (other ≡ fault)
err_none None fault other is = (refl, cc is)
err_none (Some x) fault other is = cc is

pub returns-in_err-slot_of-clause-went : goal.returns-in_err-slot_of-clause-went
returns-in_err-slot_of-clause-went g c = λ s stands.
    let p = err_from_is_err_and c.from_residual-in_err-slot_of.result c.from_residual-in_err-slot_of.ensures.1 in
    let index = has_index g.A.Asker c.args.who c.args.dir s c.args.asker.now stands c.slots_of.new.asker c.in_ok-slots.slots c.in_ok-slots.ensures.went in
    rw (p.1, p.2) (first_fault g.A.Asker c.args.who c.args.dir s c.args.asker.now stands c.slots_of.new.asker c.in_ok-slots.slots index c.slot_of.new.asker c.in_err-slot_of.field-0.0 c.in_err-slot_of.ensures.went)

pub returns-in_err-slot_of-clause-spends : goal.returns-in_err-slot_of-clause-spends
returns-in_err-slot_of-clause-spends g c =
    let p = err_from_is_err_and c.from_residual-in_err-slot_of.result c.from_residual-in_err-slot_of.ensures.1 in
    rw (p.1, p.2) (spends_err g.A.Asker 0 0 0 c.args.asker.now c.slots_of.new.asker c.slot_of.new.asker c.in_err-slot_of.field-0.0 c.in_ok-slots.ensures.spends.later c.in_err-slot_of.ensures.spends (omega arith))

pub returns-in_err-file-clause-went : goal.returns-in_err-file-clause-went
returns-in_err-file-clause-went g c = λ s stands.
    let p = err_from_is_err_and c.from_residual-in_err-file.result c.from_residual-in_err-file.ensures.1 in
    let index = has_index g.A.Asker c.args.who c.args.dir s c.args.asker.now stands c.slots_of.new.asker c.in_ok-slots.slots c.in_ok-slots.ensures.went in
    let none = err_none _ _ c.in_err-file.field-0.0 c.in_err-file.ensures.value in
    rw (p.1, p.2, none.1) (first_none g.A.Asker c.args.who c.args.dir s c.args.asker.now stands c.slots_of.new.asker c.in_ok-slots.slots index c.slot_of.new.asker (subst (λ (o : Option Puid). LooksAtSlot g.A.Asker c.args.who c.args.dir 0 c.slots_of.new.asker c.slot_of.new.asker (Ok o)) none.0 c.in_ok-slot_of.ensures.went))

pub returns-then-ne-clause-went : goal.returns-then-ne-clause-went
returns-then-ne-clause-went g c = λ s stands.
    let index = has_index g.A.Asker c.args.who c.args.dir s c.args.asker.now stands c.slots_of.new.asker c.in_ok-slots.slots c.in_ok-slots.ensures.went in
    let first = has_first g.A.Asker c.args.who c.args.dir s c.args.asker.now stands c.slots_of.new.asker c.in_ok-slots.slots index c.slot_of.new.asker c.in_ok-file.file (subst (λ (o : Option Puid). LooksAtSlot g.A.Asker c.args.who c.args.dir 0 c.slots_of.new.asker c.slot_of.new.asker (Ok o)) (ok_some _ _ c.in_ok-file.file c.in_ok-file.ensures.value) c.in_ok-slot_of.ensures.went) in
    other_kind g.A.Asker c.args.who c.args.dir s c.args.asker.now stands c.slot_of.new.asker c.in_ok-slots.slots c.in_ok-file.file first c.kind.result (c.kind.ensures s first.reads.stands) (not_kind c.kind.result c.if-ne.ensures)

pub returns-in_err-size-clause-went : goal.returns-in_err-size-clause-went
returns-in_err-size-clause-went g c = λ s stands.
    let p = err_from_is_err_and c.from_residual-in_err-size.result c.from_residual-in_err-size.ensures.1 in
    let index = has_index g.A.Asker c.args.who c.args.dir s c.args.asker.now stands c.slots_of.new.asker c.in_ok-slots.slots c.in_ok-slots.ensures.went in
    let first = has_first g.A.Asker c.args.who c.args.dir s c.args.asker.now stands c.slots_of.new.asker c.in_ok-slots.slots index c.slot_of.new.asker c.in_ok-file.file (subst (λ (o : Option Puid). LooksAtSlot g.A.Asker c.args.who c.args.dir 0 c.slots_of.new.asker c.slot_of.new.asker (Ok o)) (ok_some _ _ c.in_ok-file.file c.in_ok-file.ensures.value) c.in_ok-slot_of.ensures.went) in
    let file = has_file g.A.Asker c.args.who c.args.dir s c.args.asker.now stands c.slot_of.new.asker c.in_ok-slots.slots c.in_ok-file.file first (sym (c.kind.ensures s first.reads.stands) ∙ kind_is c.kind.result c.if-ne.ensures) in
    rw (p.1, p.2) (size_fault g.A.Asker c.args.who c.args.dir s c.args.asker.now stands c.slot_of.new.asker c.in_ok-slots.slots c.in_ok-file.file file c.size_of.new.asker c.in_err-size.field-0.0 c.in_err-size.ensures.went)

pub returns-in_err-size-clause-spends : goal.returns-in_err-size-clause-spends
returns-in_err-size-clause-spends g c =
    let p = err_from_is_err_and c.from_residual-in_err-size.result c.from_residual-in_err-size.ensures.1 in
    rw (p.1, p.2) (spends_err g.A.Asker 0 0 0 c.args.asker.now c.slot_of.new.asker c.size_of.new.asker c.in_err-size.field-0.0 (later_on g.A.Asker 0 0 0 c.args.asker.now c.slots_of.new.asker c.slot_of.new.asker c.in_ok-slots.ensures.spends.later c.in_ok-slot_of.ensures.spends.later (omega arith)) c.in_err-size.ensures.spends (omega arith))

pub returns-then-size-ne0-clause-went : goal.returns-then-size-ne0-clause-went
returns-then-size-ne0-clause-went g c = λ s stands.
    let index = has_index g.A.Asker c.args.who c.args.dir s c.args.asker.now stands c.slots_of.new.asker c.in_ok-slots.slots c.in_ok-slots.ensures.went in
    let first = has_first g.A.Asker c.args.who c.args.dir s c.args.asker.now stands c.slots_of.new.asker c.in_ok-slots.slots index c.slot_of.new.asker c.in_ok-file.file (subst (λ (o : Option Puid). LooksAtSlot g.A.Asker c.args.who c.args.dir 0 c.slots_of.new.asker c.slot_of.new.asker (Ok o)) (ok_some _ _ c.in_ok-file.file c.in_ok-file.ensures.value) c.in_ok-slot_of.ensures.went) in
    let file = has_file g.A.Asker c.args.who c.args.dir s c.args.asker.now stands c.slot_of.new.asker c.in_ok-slots.slots c.in_ok-file.file first (sym (c.kind.ensures s first.reads.stands) ∙ kind_is c.kind.result c.if-ne.ensures) in
    other_size g.A.Asker c.args.who c.args.dir s c.args.asker.now stands c.slot_of.new.asker c.in_ok-slots.slots c.in_ok-file.file file c.size_of.new.asker c.in_ok-size.size c.in_ok-size.ensures.went (elim c.then-size-ne0.branch [
      | then-size-ne0-via-then-size-ne0 w ↦ (λ same. absurd (omega (arith, same, w.if-size-ne0.true)))
      | then-size-ne0-via-else-size-ne0+then-size-slots w ↦ (λ same. absurd (omega (arith, same, w.if-size-slots.true)))
    ])

pub returns-in_err-bytes-clause-went : goal.returns-in_err-bytes-clause-went
returns-in_err-bytes-clause-went g c = λ s stands.
    let p = err_from_is_err_and c.from_residual-in_err-bytes.result c.from_residual-in_err-bytes.ensures.1 in
    let index = has_index g.A.Asker c.args.who c.args.dir s c.args.asker.now stands c.slots_of.new.asker c.in_ok-slots.slots c.in_ok-slots.ensures.went in
    let first = has_first g.A.Asker c.args.who c.args.dir s c.args.asker.now stands c.slots_of.new.asker c.in_ok-slots.slots index c.slot_of.new.asker c.in_ok-file.file (subst (λ (o : Option Puid). LooksAtSlot g.A.Asker c.args.who c.args.dir 0 c.slots_of.new.asker c.slot_of.new.asker (Ok o)) (ok_some _ _ c.in_ok-file.file c.in_ok-file.ensures.value) c.in_ok-slot_of.ensures.went) in
    let file = has_file g.A.Asker c.args.who c.args.dir s c.args.asker.now stands c.slot_of.new.asker c.in_ok-slots.slots c.in_ok-file.file first (sym (c.kind.ensures s first.reads.stands) ∙ kind_is c.kind.result c.if-ne.ensures) in
    rw (p.1, p.2) (bytes_fault g.A.Asker c.args.who c.args.dir s c.args.asker.now stands c.slot_of.new.asker c.in_ok-slots.slots c.in_ok-file.file file c.size_of.new.asker c.in_ok-size.size c.in_ok-size.ensures.went c.read_bytes.new.asker c.in_err-bytes.field-0.0 c.in_err-bytes.ensures.went)

pub returns-in_err-bytes-clause-spends : goal.returns-in_err-bytes-clause-spends
returns-in_err-bytes-clause-spends g c =
    let p = err_from_is_err_and c.from_residual-in_err-bytes.result c.from_residual-in_err-bytes.ensures.1 in
    rw (p.1, p.2) (spends_err g.A.Asker 0 0 0 c.args.asker.now c.size_of.new.asker c.read_bytes.new.asker c.in_err-bytes.field-0.0 (later_on g.A.Asker 0 0 0 c.args.asker.now c.slot_of.new.asker c.size_of.new.asker (later_on g.A.Asker 0 0 0 c.args.asker.now c.slots_of.new.asker c.slot_of.new.asker c.in_ok-slots.ensures.spends.later c.in_ok-slot_of.ensures.spends.later (omega arith)) c.in_ok-size.ensures.spends.later (omega arith)) c.in_err-bytes.ensures.spends (omega arith))

pub returns-in_err-are_rows-clause-went : goal.returns-in_err-are_rows-clause-went
returns-in_err-are_rows-clause-went g c = λ s stands.
    let p = err_from_is_err_and c.from_residual-in_err-are_rows.result c.from_residual-in_err-are_rows.ensures.1 in
    let index = has_index g.A.Asker c.args.who c.args.dir s c.args.asker.now stands c.slots_of.new.asker c.in_ok-slots.slots c.in_ok-slots.ensures.went in
    let first = has_first g.A.Asker c.args.who c.args.dir s c.args.asker.now stands c.slots_of.new.asker c.in_ok-slots.slots index c.slot_of.new.asker c.in_ok-file.file (subst (λ (o : Option Puid). LooksAtSlot g.A.Asker c.args.who c.args.dir 0 c.slots_of.new.asker c.slot_of.new.asker (Ok o)) (ok_some _ _ c.in_ok-file.file c.in_ok-file.ensures.value) c.in_ok-slot_of.ensures.went) in
    let file = has_file g.A.Asker c.args.who c.args.dir s c.args.asker.now stands c.slot_of.new.asker c.in_ok-slots.slots c.in_ok-file.file first (sym (c.kind.ensures s first.reads.stands) ∙ kind_is c.kind.result c.if-ne.ensures) in
    rw (p.1, p.2) (starved g.A.Asker c.args.who c.args.dir s c.args.asker.now stands c.slot_of.new.asker c.in_ok-slots.slots c.in_ok-file.file file c.size_of.new.asker c.in_ok-size.size c.in_ok-size.ensures.went c.read_bytes.new.asker c.in_ok-bytes.bytes c.in_ok-bytes.ensures.went)

pub returns-then-not-branch-clause-went : goal.returns-then-not-branch-clause-went
returns-then-not-branch-clause-went g c = λ s stands.
    let index = has_index g.A.Asker c.args.who c.args.dir s c.args.asker.now stands c.slots_of.new.asker c.in_ok-slots.slots c.in_ok-slots.ensures.went in
    let first = has_first g.A.Asker c.args.who c.args.dir s c.args.asker.now stands c.slots_of.new.asker c.in_ok-slots.slots index c.slot_of.new.asker c.in_ok-file.file (subst (λ (o : Option Puid). LooksAtSlot g.A.Asker c.args.who c.args.dir 0 c.slots_of.new.asker c.slot_of.new.asker (Ok o)) (ok_some _ _ c.in_ok-file.file c.in_ok-file.ensures.value) c.in_ok-slot_of.ensures.went) in
    let file = has_file g.A.Asker c.args.who c.args.dir s c.args.asker.now stands c.slot_of.new.asker c.in_ok-slots.slots c.in_ok-file.file first (sym (c.kind.ensures s first.reads.stands) ∙ kind_is c.kind.result c.if-ne.ensures) in
    other_rows g.A.Asker c.args.who c.args.dir s c.args.asker.now stands c.slot_of.new.asker c.in_ok-slots.slots c.in_ok-file.file file c.size_of.new.asker c.in_ok-size.size c.in_ok-size.ensures.went c.read_bytes.new.asker c.in_ok-bytes.bytes c.in_ok-bytes.ensures.went (ap (λ l. are_rows l c.in_ok-slots.slots) (sym c.as_slice.ensures) ∙ sym c.in_ok-are_rows.ensures ∙ c.if-not-branch.true)

pub returns-clause-went : goal.returns-clause-went
returns-clause-went g c = λ s stands.
    let index = has_index g.A.Asker c.args.who c.args.dir s c.args.asker.now stands c.slots_of.new.asker c.in_ok-slots.slots c.in_ok-slots.ensures.went in
    let first = has_first g.A.Asker c.args.who c.args.dir s c.args.asker.now stands c.slots_of.new.asker c.in_ok-slots.slots index c.slot_of.new.asker c.in_ok-file.file (subst (λ (o : Option Puid). LooksAtSlot g.A.Asker c.args.who c.args.dir 0 c.slots_of.new.asker c.slot_of.new.asker (Ok o)) (ok_some _ _ c.in_ok-file.file c.in_ok-file.ensures.value) c.in_ok-slot_of.ensures.went) in
    let file = has_file g.A.Asker c.args.who c.args.dir s c.args.asker.now stands c.slot_of.new.asker c.in_ok-slots.slots c.in_ok-file.file first (sym (c.kind.ensures s first.reads.stands) ∙ kind_is c.kind.result c.if-ne.ensures) in
    opens g.A.Asker c.args.who c.args.dir s c.args.asker.now stands c.slot_of.new.asker c.in_ok-slots.slots c.in_ok-file.file file c.size_of.new.asker c.in_ok-size.size c.in_ok-size.ensures.went c.read_bytes.new.asker c.in_ok-bytes.bytes c.in_ok-bytes.ensures.went (ap (λ l. are_rows l c.in_ok-slots.slots) (sym c.as_slice.ensures) ∙ sym c.in_ok-are_rows.ensures ∙ c.if-not-branch.false) _ refl refl refl
