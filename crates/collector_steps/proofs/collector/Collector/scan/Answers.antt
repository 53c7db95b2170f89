use Rattle.std.proofs.Common.{◌≡◌, ◌∙◌, ℕ, List, length, sym, ap, subst, arith, Option, Some}
use Rattle.std.specs.Option.{option_copied}
use Rattle.collector_steps.proofs.Words.{Collecting, Colours, Grey, Index, IsScanTrouble, Drafts, Puid, Serves, State}
use Rattle.collector_steps.proofs.Words.{colours_in, colours_of, count_after, err_from_is_err_and, first_grey}
use Rattle.collector_steps.proofs.Words.{object_at, read, reads_left, same_Some, scanned, the_view, volume_of}
use Rattle.collector_steps.proofs.Words.{waiting_in}
use Rattle.ufs_model.specs.declared.object.Object.TheVariants as objects
use Rattle.collector_steps.specs.Scan.{IsDraftRoot, ids_read}
use Rattle.collector_steps.proofs.Firsts.{none_first}
use Rattle.collector_steps.proofs.Kept.{is_directory_of, as_marking, draft_there, grey_index, of_marking, scan_kept}
use Rattle.collector_steps.proofs.Lefts.{marks_less, read_less}
use Rattle.collector_steps.proofs.collector.Collector.scan.Given.{Over}
use Rattle.collector_steps.proofs.collector.Collector.scan.Goals as goal

pub returns-in_default-clause-steps : goal.returns-in_default-clause-steps
returns-in_default-clause-steps g c =
    absurd (c.requires.grey (ap (λ (k : Collecting). k.marks.grey) (sym c.self.view_is)
    ∙ none_first c.self.inside.marks.grey (sym c.next_grey.ensures.first ∙ c.in_default.is)))

pub returns-in_default-clause-less : goal.returns-in_default-clause-less
returns-in_default-clause-less g c =
    absurd (c.requires.grey (ap (λ (k : Collecting). k.marks.grey) (sym c.self.view_is)
    ∙ none_first c.self.inside.marks.grey (sym c.next_grey.ensures.first ∙ c.in_default.is)))

-- the index that is read is the first grey one, and its colours are those from before
first_here : (g : Over) (c : goal.After-read_on g) → first_grey (colours_in c.args.self.now) ≡ Some c.in-Some.grey
first_here g c =
    ap (λ (k : Collecting). first_grey (colours_in k)) (sym c.self.view_is) ∙ sym c.next_grey.ensures.first
    ∙ c.in-Some.is

step_is : (g : Over) (c : goal.After-read_on g) (s : State) (ds : Drafts) (i : Index) (d : Option Index)
    → Serves g.D.Disk c.args.disk.now c.args.directory.now.named s ds
    → object_at s.graph c.in-Some.grey.id ≡ Some (objects.Index i)
    → IsDraftRoot (g.D.Disk.content c.args.disk.now) s c.in-Some.grey.id (option_copied c.args.draft) d
    → colours_of c.read_on.new.marks
    ≡ scanned c.args.directory.now.named d i c.in-Some.grey.cursor (colours_in c.args.self.now)
step_is g c s ds i d serves at drafted =
    let directory = c.args.directory.now.named in
    let found = c.in_ok-found.found in
    c.read_on.ensures.read
    ∙ ap (λ (colours : Colours). read directory (ids_read found.step c.read_place.new.into, found.next) colours)
    (ap colours_in c.self.view_is)
    ∙ ap (λ (step : List Puid × Option ℕ). read directory step (colours_in c.args.self.now))
    (c.in_ok-found.ensures.found directory s ds i d serves at drafted)

pub returns-clause-scanned : goal.returns-clause-scanned
returns-clause-scanned g c = λ s ds e i d serves first at drafted.
    let same : c.in-Some.grey ≡ e = same_Some _ _ (sym (first_here g c) ∙ first) in
    let image = g.D.Disk.content c.args.disk.now in
    step_is g c s ds i d serves
    (subst (λ (grey : Grey). object_at s.graph grey.id ≡ Some (objects.Index i)) (sym same) at)
    (subst (λ (grey : Grey). IsDraftRoot image s grey.id (option_copied c.args.draft) d) (sym same) drafted)
    ∙ ap (λ (grey : Grey). scanned c.args.directory.now.named d i grey.cursor (colours_in c.args.self.now)) same

pub returns-clause-keeps : goal.returns-clause-keeps
returns-clause-keeps g c = λ s ds e d serves first drafted is.
    let k = c.args.self.now in
    let image = g.D.Disk.content c.args.disk.now in
    let grey = c.in-Some.grey in
    let phase = c.requires.phase in
    let same : grey ≡ e = same_Some _ _ (sym (first_here g c) ∙ first) in
    let here = subst (λ (f : Grey). IsDraftRoot image s f.id (option_copied c.args.draft) d) (sym same) drafted in
    let marking = of_marking image s k phase is in
    let i = grey_index s (colours_in k) _ grey marking.0 (first_here g c) in
    let directory = c.args.directory.now.named in
    let are = is_directory_of c.kinds_follow_the_graph.ensures.kind directory s.graph serves.named in
    let kept = scan_kept s serves.state directory are (colours_in k) _ _ _ _ grey i.0 d (first_here g c) i.1
    (draft_there image s grey.id (option_copied c.args.draft) d here) marking.0 marking.1 in
    let was : the_view c.self.inside ≡ k = c.self.view_is in
    as_marking _ s _ (scanned directory d i.0 grey.cursor (colours_in k)) (waiting_in k) (volume_of k) (count_after k.steps)
    k.added (ap (λ (k : Collecting). k.phase) was ∙ phase) (step_is g c s ds i.0 d serves i.1 here) (ap waiting_in was)
    (c.read_on.ensures.blocks ∙ ap volume_of was)
    (c.saturating_add-self-inside.ensures ∙ ap (λ (k : Collecting). count_after k.steps) was)
    (ap (λ (k : Collecting). k.added) was) kept

pub returns-in_err-found-clause-refused : goal.returns-in_err-found-clause-refused
returns-in_err-found-clause-refused g c = λ e first.
    let p = err_from_is_err_and c.from_residual.result c.from_residual.ensures.1 in
    let first_is = ap (λ (k : Collecting). first_grey (colours_in k)) (sym c.self.view_is)
    ∙ sym c.next_grey.ensures.first ∙ c.in-Some.is in
    let same : c.in-Some.grey ≡ e = same_Some _ _ (sym first_is ∙ first) in
    rw (p.1, p.2)
    (subst (λ (grey : Grey). IsScanTrouble g.D.Disk c.args.disk.now c.read_place.new.disk
    (option_copied c.args.draft) grey.id.block c.in_err-found.field-0.0) same c.in_err-found.ensures.refused)

pub returns-in_err-found-clause-sound : goal.returns-in_err-found-clause-sound
returns-in_err-found-clause-sound g c = λ s ds e d serves first drafted is.
    let p = err_from_is_err_and c.from_residual.result c.from_residual.ensures.1 in
    let k = c.args.self.now in
    let image = g.D.Disk.content c.args.disk.now in
    let first_is = ap (λ (k : Collecting). first_grey (colours_in k)) (sym c.self.view_is)
    ∙ sym c.next_grey.ensures.first ∙ c.in-Some.is in
    let same : c.in-Some.grey ≡ e = same_Some _ _ (sym first_is ∙ first) in
    let here = subst (λ (f : Grey). IsDraftRoot image s f.id (option_copied c.args.draft) d) (sym same) drafted in
    let i = grey_index s (colours_in k) _ c.in-Some.grey (of_marking image s k c.requires.phase is).0 first_is in
    rw (p.1, p.2) (c.in_err-found.ensures.sound c.args.directory.now.named s ds i.0 d serves i.1 here)

pub returns-clause-less : goal.returns-clause-less
returns-clause-less g c =
    let k = c.args.self.now in
    let directory = c.args.directory.now in
    let found = c.in_ok-found.found in
    let ids = ids_read found.step c.read_place.new.into in
    let less = read_less (volume_of k) directory c.directories_are_listings.ensures c.requires.blocks (colours_in k) c.in-Some.grey
    ids found.next (first_here g c) c.in_ok-found.ensures.on in
    let colours = c.read_on.ensures.read
    ∙ ap (λ (colours : Colours). read directory.named (ids, found.next) colours) (ap colours_in c.self.view_is) in
    let now = ap (reads_left (volume_of k)) colours in
    marks_less k _ (c.read_on.ensures.blocks ∙ ap volume_of c.self.view_is) c.requires.phase
    (ap (λ (k : Collecting). k.phase) c.self.view_is)
    (omega (arith, less, now, ap (λ (k : Collecting). length (waiting_in k)) c.self.view_is))
