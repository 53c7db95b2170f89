use Rattle.std.specs.Prelude.{◌==◌}
use Rattle.std.proofs.Common.{◌≡◌, true, ◌∷◌, Some, Ok, Err, refl, sym, ◌∙◌, ap, subst}
use Rattle.cyl_alloc.specs.Space.{AreCounts}
use Rattle.cyl_map.specs.declared.entry.MapEntry.{MapEntry}
use Rattle.cyl_map.specs.Map.{is_free}
use Rattle.cyl_map.specs.Volume.{with_entry}
use Rattle.cfs_base.specs.Disk.{Image}
use Rattle.intentions.specs.Calls.{ChangesEntry}
use Rattle.intentions.specs.Entries.{changed_entry}
use Rattle.intentions.specs.declared.change.EntryChange.{EntryChange}
use Rattle.cyl_alloc.specs.Left.{LeftCommit}
use Rattle.intentions.specs.Left.{how_for}
use Rattle.finisher.specs.Going.{GoesFrom}
use Rattle.cfs_base.proofs.Passed.{is_passed}
use Rattle.finisher.proofs.Calls.{entry_ends}
use Rattle.finisher.proofs.Going.{flipped_so, flip_failed, left_is}
use Rattle.intentions.proofs.Settled.{turned_free}
use Rattle.finisher.proofs.part.flip.Goals as goal

pub count_freed-requires-clause-stays : goal.count_freed-requires-clause-stays
count_freed-requires-clause-stays g c = λ free.
    subst (λ (e : MapEntry). is_free e ≡ true) (sym (c.of.ensures.value ∙ ap (λ (h : EntryChange). changed_entry h c.in_ok-entry.entry) c.how_to-how.ensures.value)) (turned_free c.args.is_shadow c.in_ok-entry.entry free)

pub returns-clause-goes : goal.returns-clause-goes
returns-clause-goes g c = λ l ns copied rest is.
    let how_is = c.how_to-how.ensures.value ∙ ap how_for is in
    let change : ChangesEntry g.D.Disk c.args.block.0 (λ e. changed_entry (how_for (c.args.block.0 == l.shadow)) e) c.args.disk.now c.change_entry.new.disk (Ok c.in_ok-entry.entry) =
    subst (λ (h : EntryChange). ChangesEntry g.D.Disk c.args.block.0 (λ e. changed_entry h e) c.args.disk.now c.change_entry.new.disk (Ok c.in_ok-entry.entry)) how_is c.in_ok-entry.ensures.changes in
    subst (λ (x : LeftCommit). GoesFrom g.D.Disk c.args.disk.now c.change_entry.new.disk c.args.space.now c.count_freed.new.space (Some x) (Some (record x { rest = ns })) (Ok tt)) (left_is l l.root l.shadow (c.args.block.0 ∷ ns) true refl refl rest copied)
    (flipped_so g.D.Disk c.args.disk.now c.change_entry.new.disk c.args.space.now c.count_freed.new.space l.root l.shadow c.args.block.0 ns c.in_ok-entry.entry change
    (λ tells counts.
    let here = c.in_ok-entry.ensures.entry tells in
    subst (λ (i : Image). AreCounts i c.count_freed.new.space) (sym (c.in_ok-entry.ensures.changes.put tells c.in_ok-entry.entry here ∙ ap (λ (e : MapEntry). with_entry (g.D.Disk.content c.args.disk.now) c.args.block.0 e) (sym c.of.ensures.value)))
    (c.count_freed.ensures.counts (g.D.Disk.content c.args.disk.now) counts here)))

pub returns-in_err-entry-clause-goes : goal.returns-in_err-entry-clause-goes
returns-in_err-entry-clause-goes g c = λ l ns copied rest is. rw (is_passed _ _ c.from_residual.ensures.1)
    (let how_is = c.how_to-how.ensures.value ∙ ap how_for is in
    let change : ChangesEntry {A = MapEntry} g.D.Disk c.args.block.0 (λ e. changed_entry (how_for (c.args.block.0 == l.shadow)) e) c.args.disk.now c.change_entry.new.disk (Err c.in_err-entry.field-0.0) =
    subst (λ (h : EntryChange). ChangesEntry {A = MapEntry} g.D.Disk c.args.block.0 (λ e. changed_entry h e) c.args.disk.now c.change_entry.new.disk (Err c.in_err-entry.field-0.0)) how_is c.in_err-entry.ensures.changes in
    subst (λ (x : LeftCommit). GoesFrom g.D.Disk c.args.disk.now c.change_entry.new.disk c.args.space.now c.args.space.now (Some x) (Some (record x { rest = ns })) (Err c.in_err-entry.field-0.0)) (left_is l l.root l.shadow (c.args.block.0 ∷ ns) true refl refl rest copied)
    (flip_failed g.D.Disk c.args.disk.now c.change_entry.new.disk c.args.space.now c.args.space.now l.root l.shadow c.args.block.0 ns {A = MapEntry} c.in_err-entry.field-0.0 change))

pub returns-clause-ends : goal.returns-clause-ends
returns-clause-ends g c = entry_ends g.D.Disk c.args.disk.now c.change_entry.new.disk c.args.space.now c.count_freed.new.space c.args.block.0 c.in_ok-entry.entry c.count_freed.ensures.cylinders c.in_ok-entry.ensures.changes
