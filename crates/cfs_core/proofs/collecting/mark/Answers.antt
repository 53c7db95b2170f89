use Rattle.std.proofs.Common.{◌≡◌, [], ◌∷◌, List, Option, Some, None, refl, sym, ◌∙◌, ap, subst, arith, option_map, slice_get}
use Rattle.cfs_base.proofs.Went.{reads_none}
use Rattle.cfs_core.proofs.Words.{both_ways, Collecting, colours_in, Ghosts, Index, Puid, refused_by, State, waiting_in}
use Rattle.cfs_core.specs.declared.collecting.Step.TheVariants as steps
use Rattle.cfs_core.specs.Collect.{with_parts}
use Rattle.cfs_core.proofs.StepMoves.{served}
use Rattle.cfs_core.proofs.Stepping.{marks_on, no_want, none_left, scan_calm, scan_cause, steps_condemned, steps_failed, steps_read}
use Rattle.std.proofs.lemmas.Option.{same_Some}
use Rattle.block_tree.specs.declared.root.Root.{Root}
use Rattle.collector_steps.proofs.Kept.{grey_index, of_marking}
use Rattle.collector_steps.specs.Scan.{IsDraftRoot}
use Rattle.collector_steps.specs.declared.phase.Phase.TheVariants as phases
use Rattle.marking.specs.Colours.{first_grey}
use Rattle.marking.specs.declared.memory.Grey.{Grey}
use Rattle.std.specs.Option.{option_copied}
use Rattle.cfs_core.specs.Kernel.{Kernel, Handle}
use Rattle.cfs_core.specs.Handles.{root_at}
use Rattle.cfs_core.specs.StandsFor.{HasCollection, CoreServes}
use Rattle.cfs_core.proofs.DraftRoots.{draft_root}
use Rattle.cfs_base.proofs.Passed.{is_passed}
use Rattle.cfs_core.proofs.collecting.mark.Goals as goal

pub returns-then-has_rescue : goal.returns-then-has_rescue
returns-then-has_rescue g c = λ kept.
    let d = c.args.disk.now in
    let handles = c.args.handles.now.handles in
    steps_read g.D.Disk d kept c.args.directory.now handles c.args.collector.now c.take.new.self c.take.ensures.volume 0 d
    (reads_none g.D.Disk 0 d) (omega arith) c.requires.marks c.take.ensures.phase
    (λ core here s serves. c.take.ensures.keeps s (g.D.Disk.content d) serves.state serves.front.directory
    serves.collecting.collects) steps.Took
    (λ core moves. record {
      moves = moves;
      due = (c.requires.marks, c.has_rescue.ensures.0 c.if-has_rescue.true);
      counted = (c.take.ensures.steps, c.take.ensures.added, refl);
      sweeps = λ s serves. tt;
      over = λ s serves. tt;
      goes = λ k. marks_on (g.D.Disk.blocks d) core.collections c.args.collector.now c.take.new.self steps.Took
          c.requires.marks c.take.ensures.phase c.take.ensures.less (refl, refl);
    })

-- none is grey
none_first : (k : Collecting) → option_map (λ (e : Grey). e.id) (first_grey (colours_in k)) ≡ None → k.marks.grey ≡ []
none_first k none = at k.marks.grey none
  where
    at : (es : List Grey) → option_map (λ (e : Grey). e.id) (slice_get es 0) ≡ None → es ≡ []
    at [] is = refl
    at (e ∷ es) is = cc

-- the root that was looked up is that of a core with these handles
root_here : (handles others : List Handle) → others ≡ handles → (id first : Puid) → first ≡ id → (draft : Option Root)
    → draft ≡ root_at handles id → root_at others first ≡ draft
root_here handles others same id first is draft root =
    ap (λ (xs : List Handle). root_at xs first) same ∙ ap (root_at handles) is ∙ sym root

-- the first grey index is this one
first_is : (k : Collecting) (id : Puid) → Some id ≡ option_map (λ (e : Grey). e.id) (first_grey (colours_in k))
    → (e : Grey) × (first_grey (colours_in k) ≡ Some e) × (e.id ≡ id)
first_is k id is = at (first_grey (colours_in k)) refl is
  where
    at : (o : Option Grey) → first_grey (colours_in k) ≡ o → Some id ≡ option_map (λ (e : Grey). e.id) o
        → (e : Grey) × (first_grey (colours_in k) ≡ Some e) × (e.id ≡ id)
    at None is same = cc
    at (Some e) is same = (e, is, sym (same_Some id e.id same))

grey_some : (es : List Grey) (e : Grey) → slice_get es 0 ≡ Some e → ¬ (es ≡ [])
grey_some [] e is = cc
grey_some (x ∷ xs) e is = λ none. cc

-- its draft is the state's, and is looked up by it
drafted : {D : Type 0} (g : Ghosts D) (k : Kernel D) (s : State) → CoreServes g k s → (l : Collecting)
    → k.collections.collector ≡ Some l → l.phase ≡ phases.Marking → (e : Grey) → first_grey (colours_in l) ≡ Some e
    → (d : Option Index) × IsDraftRoot (g.content k.disk) s e.id (root_at k.handles e.id) d
drafted g k s serves l there marks e first =
    let has = subst (HasCollection (g.content k.disk) s) there serves.collecting in
    let marking = of_marking (g.content k.disk) s l marks has.collects in
    let i = grey_index s (colours_in l) (waiting_in l) e marking.0 first in
    draft_root g k s serves e.id i.0 i.1

pub returns-in-Some : goal.returns-in-Some
returns-in-Some g c = λ kept.
    let k = c.args.collector.now in
    let d = c.args.disk.now in
    let handles = c.args.handles.now.handles in
    let first = first_is k c.in-Some.id (sym c.in-Some.is ∙ c.next_index.ensures) in
    let taken : waiting_in k ≡ [] =
    none_left (waiting_in k) (λ some. both_ways _ c.if-has_rescue.false (c.has_rescue.ensures.1 some)) in
    steps_read g.D.Disk d kept c.args.directory.now handles k c.scan.new.self c.scan.ensures.volume 4 c.scan.new.disk
    c.scan.ensures.reads (omega arith) c.requires.marks c.scan.ensures.phase
    (λ core here s serves.
    let root = drafted g.D.Disk (with_parts core d kept c.args.directory.now k) s serves k refl c.requires.marks
    first.0 first.1 in
    c.in_ok-scan.ensures.keeps s _ first.0 root.0 (served g.D.Disk core d kept c.args.directory.now k s serves k) first.1
    (subst (λ (r : Option Root). IsDraftRoot (g.D.Disk.content d) s first.0.id r root.0)
    (root_here handles core.handles here c.in-Some.id first.0.id first.2 _ c.root_on.ensures) root.1)
    serves.collecting.collects)
    steps.Scanned
    (λ core moves. record {
      moves = moves;
      due = (c.requires.marks, taken, grey_some k.marks.grey first.0 first.1);
      counted = (c.in_ok-scan.ensures.steps, c.scan.ensures.added, refl);
      sweeps = λ s serves. tt;
      over = λ s serves. tt;
      goes = λ kept. marks_on (g.D.Disk.blocks d) core.collections k c.scan.new.self steps.Scanned c.requires.marks
          c.scan.ensures.phase c.in_ok-scan.ensures.less (refl, refl);
    })

pub returns-in_err-scan : goal.returns-in_err-scan
returns-in_err-scan g c = λ kept.
    let k = c.args.collector.now in
    let d = c.args.disk.now in
    let handles = c.args.handles.now.handles in
    let t = c.in_err-scan.field-0.0 in
    let draft = option_copied c.root_on.result in
    let first = first_is k c.in-Some.id (sym c.in-Some.is ∙ c.next_index.ensures) in
    let why = c.in_err-scan.ensures.refused first.0 first.1 in
    rw (is_passed _ _ c.from_residual.ensures.1)
    (steps_failed g.D.Disk d kept c.args.directory.now handles k c.scan.new.self c.scan.ensures.volume 4 c.scan.new.disk
    c.scan.ensures.reads (omega arith) c.requires.marks c.in_err-scan.ensures.same (refused_by t)
    (λ core here. scan_cause g.D.Disk (with_parts core d kept c.args.directory.now k)
    (with_parts core c.scan.new.disk kept c.args.directory.now c.scan.new.self) first.0.id draft t
    (k, first.0, refl, first.1, refl)
    (sym (root_here handles core.handles here c.in-Some.id first.0.id first.2 draft c.root_on.ensures)) why)
    (no_want t)
    (λ core here s serves.
    let root = drafted g.D.Disk (with_parts core d kept c.args.directory.now k) s serves k refl c.requires.marks
    first.0 first.1 in
    scan_calm g.D.Disk d c.scan.new.disk draft _ t why
    (c.in_err-scan.ensures.sound s _ first.0 root.0 (served g.D.Disk core d kept c.args.directory.now k s serves k) first.1
    (subst (λ (r : Option Root). IsDraftRoot (g.D.Disk.content d) s first.0.id r root.0)
    (root_here handles core.handles here c.in-Some.id first.0.id first.2 draft c.root_on.ensures) root.1)
    serves.collecting.collects)
    c.in_err-scan.ensures.untried))

pub condemn-ids-requires-clause-read : goal.condemn-ids-requires-clause-read
condemn-ids-requires-clause-read g c = none_first c.args.collector.now (sym c.next_index.ensures ∙ c.in_default.is)

pub condemn-ids-requires-clause-taken : goal.condemn-ids-requires-clause-taken
condemn-ids-requires-clause-taken g c = none_left (waiting_in c.args.collector.now) (λ some. both_ways _ c.if-has_rescue.false (c.has_rescue.ensures.1 some))

pub returns : goal.returns
returns g c = λ kept.
    let k = c.args.collector.now in
    let d = c.args.disk.now in
    let taken : waiting_in k ≡ [] = none_left (waiting_in k) (λ some. both_ways _ c.if-has_rescue.false (c.has_rescue.ensures.1 some)) in
    let read : k.marks.grey ≡ [] = none_first k (sym c.next_index.ensures ∙ c.in_default.is) in
    let done = c.condemn-ids.ensures in
    steps_condemned g.D.Disk d kept c.args.directory.now c.args.handles.now.handles k c.condemn-ids.new.self done.volume c.condemn-ids.new.directory c.condemn-ids.result (colours_in k).marked done.named done.room done.phase
    (c.requires.marks, taken, read) (done.steps, done.added) (λ s state named col. done.legal s (g.D.Disk.content d) state named col)
    (λ s t named col few step. done.keeps 0 s t (g.D.Disk.content d) (g.D.Disk.content d) named col few step) (λ s t named step. done.left 0 s t named step)
    (λ honest. omega (arith, g.met.D.Disk.sized d honest, c.requires.size)) done.less
