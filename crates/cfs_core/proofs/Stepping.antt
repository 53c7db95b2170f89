-- A step of a collection that runs, on any disk.
use Rattle.std.proofs.Common.{IsTrue, ◌≡◌, inr, ℕ, ◌*◌, ◌/◌, ◌<◌, ◌≤◌, List, [], ◌∷◌, length, Bool, true, false, ◌||◌, cond, Result, Option, Some, None, Ok, Err, refl, sym, ◌∙◌, ap, subst, arith, ◌==◌, slice_get}
use Rattle.cfs_base.proofs.Went.{makes_within, reads_none}
use Rattle.cfs_core.proofs.Words.{blocks_taken, Collecting, Collects, count_after, cylinder_of, Ghosts, Graph, graph_blocks, had_tried, has_root_in, HasSwept, events_left, steps_left, IsAsBefore, IsDamaged, Drafts}
use Rattle.cfs_core.proofs.Words.{IsMapTrouble, IsPhaseOf, IsScanTrouble, IsState, Kept, kept_by, Kind, kinds_of, Listing, MakesAtMost, MayVanish, next, next_phase, OnlyReads}
use Rattle.cfs_core.proofs.Words.{or_right, Pass, Phase, Puid, reads_make, reads_within, Refused, refused_by, room, State, Trouble, trouble_had_tried, volume_of}
use Rattle.cfs_base.specs.declared.refusal.Trouble.TheVariants as trouble
use Rattle.cfs_base.specs.declared.refusal.Refused.TheVariants as refusals
use Rattle.block_tree.specs.declared.root.Root.{Root}
use Rattle.collector_steps.specs.declared.phase.Phase.TheVariants as phases
use Rattle.ufs_model.specs.declared.asked.Event.TheVariants as events
use Rattle.cfs_core.specs.declared.collecting.Collections.{Collections}
use Rattle.cfs_core.specs.declared.collecting.Step.{Step}
use Rattle.cfs_core.specs.declared.collecting.Step.TheVariants as steps
use Rattle.cfs_core.proofs.Damages.{told_of_map, told_of_scan}
use Rattle.cfs_core.specs.Calls.{IsCause}
use Rattle.cfs_core.specs.Damage.{IsOfGrey}
use Rattle.cfs_core.specs.Collect.{EndsUnmade, IsStepMade, IsMadeOrNot, IsNextStep, MovesTo, StepsSo, is_starved, sweeps_blocks, told_as, with_parts}
use Rattle.cfs_core.specs.Kernel.{Kernel, Handle, marks_in, collection_runs, sweeps_in}
use Rattle.cfs_core.specs.Left.{LeavesFewer, RunsBy}
use Rattle.cfs_core.specs.Handles.{root_at}
use Rattle.cfs_core.specs.StandsFor.{CoreServes, drafts_of_handles}
use Rattle.cfs_core.proofs.Collected.{as_before}
use Rattle.cfs_core.proofs.Lefts.{events_swept, goes_within}
use Rattle.cfs_core.proofs.Serving.{running}
use Rattle.cfs_core.proofs.Swept.{clean_goes, frees_strays}
use Rattle.cfs_core.proofs.StepMoves.{condemned, condemns, gone, in_sweep, read_on, served, stayed, sweeps_still, swept_one}

-- ---- any step, on any disk

-- want of memory, or a device call that failed before any was tried
abbrev pub is_calm_refusal : Refused → Bool
is_calm_refusal (refusals.Full need) = false
is_calm_refusal (refusals.Disk false) = true
is_calm_refusal (refusals.Disk true) = false
is_calm_refusal (refusals.Damaged damage) = false
is_calm_refusal refusals.Memory = true

-- no want of memory is told
pub no_want : (t : Trouble) → is_starved (refused_by t) ≡ false
no_want (trouble.Disk tried) = refl
no_want (trouble.Damaged damage) = refl

pub read_calls : {D : Type 0} (g : Ghosts D) (old new : D) (n : ℕ) → OnlyReads g n old new → n ≤ 4 → MakesAtMost g 4 1 old new
read_calls g old new n reads few = makes_within g old new n 0 4 1 few (omega arith) (reads_make g old new n reads)

-- so it failed before any was tried, if memory isn't wanted
calm_is : (e : Refused) → is_starved e ≡ false → is_calm_refusal e ≡ true → e ≡ refusals.Disk false
calm_is (refusals.Full need) none is = cc
calm_is (refusals.Disk false) none is = refl
calm_is (refusals.Disk true) none is = cc
calm_is (refusals.Damaged damage) none is = cc
calm_is refusals.Memory none is = cc

never : {A : Type 0} (e : Refused) → is_starved e ≡ false → is_starved e ≡ true → A
never e none some = let no : false ≡ true = sym none ∙ some in cc

-- a collection that marks goes on to
runs_on : (k l : Collecting) → k.phase ≡ phases.Marking → l.phase ≡ k.phase → collection_runs (Some l) ≡ true
runs_on k l marking phase = ap (λ p. marks_in p || sweeps_in p) (phase ∙ marking)

module _ {D : Type 0} (g : Ghosts D) (old : D) (space : Kept) (directory : Listing) (handles : List Handle) (k l : Collecting) (volume : volume_of l ≡ volume_of k) where
  abbrev before : Kernel D → Kernel D
  before core = with_parts core old space directory k

  -- one that reads at most
  module _ (n : ℕ) (new : D) (reads : OnlyReads g n old new) (few : n ≤ 4) (marking : k.phase ≡ phases.Marking) where
    abbrev after_read : Kernel D → Kernel D
    after_read core = with_parts core new space directory l

    read_step : l.phase ≡ k.phase → (result : Result Step Refused) → ((core : Kernel D) → core.handles ≡ handles → IsMadeOrNot g (before core) (after_read core) result) → StepsSo g old new space space directory directory handles k l result
    read_step phase result ends = record {
      tries = λ core here. record { ends = ends core here; calls = read_calls g old new n reads few; left = refl; same = refl };
      size = reads.same.size;
      runs = runs_on k l marking phase;
      volume = volume;
      room = refl;
      some = λ h. h;
      cylinders = refl;
    }

    pub steps_read : l.phase ≡ k.phase → ((core : Kernel D) → core.handles ≡ handles → (s : State) → CoreServes g (before core) s → Collects (g.content new) s l) → (step : Step)
        → ((core : Kernel D) → ((s : State) → CoreServes g (before core) s → core.stop ≡ None → MovesTo g (before core) (after_read core) s None) → IsStepMade g (before core) (after_read core) step) → StepsSo g old new space space directory directory handles k l (Ok step)
    steps_read phase keeps step made = read_step phase (Ok step)
        (λ core here. made core (λ s serves none. read_on g core old space directory k s serves l n new reads phase (keeps core here s serves)))

    -- one that failed, with nothing tried: of a disk that serves only for want of memory, or since a device call failed
    pub steps_failed : IsAsBefore k l → (e : Refused) → ((core : Kernel D) → core.handles ≡ handles → IsCause g (before core) (after_read core) None e) → is_starved e ≡ false
        → ((core : Kernel D) → core.handles ≡ handles → (s : State) → CoreServes g (before core) s → is_calm_refusal e ≡ true) → StepsSo g old new space space directory directory handles k l (Err e)
    steps_failed same e cause no_want calm = read_step same.phase (Err e) (λ core here. record {
      ends = λ s serves none. subst (EndsUnmade g (before core) (after_read core) s) (sym (calm_is e no_want (calm core here s serves)))
          (stayed g core old space directory k s serves l n new reads same);
      still = λ untried. record { reads = reads_within g old new n 4 few reads; directory = refl; space = refl; collector = as_before k l same; finished = refl };
      kept = record { collector = as_before k l same; finished = refl };
      cause = cause core here;
      wants = λ some. never e no_want some;
    })

  -- ---- objects are condemned

  no_root_left : (test : ℕ → Bool) (named : List (Puid × Kind)) → has_root_in named 0 ≡ false → has_root_in (kept_by test named) 0 ≡ false
  no_root_left test [] none = refl
  no_root_left test (e ∷ es) none = elim (test e.0.block) as (λ b. has_root_in (cond b (e ∷ kept_by test es) (kept_by test es)) 0 ≡ false) [
    | true ↦ (let two = neither (e.0.block == 0) (has_root_in es 0) none in rw two.0 (no_root_left test es two.1))
    | false ↦ no_root_left test es (neither (e.0.block == 0) (has_root_in es 0) none).1
  ]
    where
      neither : (a b : Bool) → (a || b) ≡ false → (a ≡ false) × (b ≡ false)
      neither true b is = cc
      neither false b is = (refl, is)

  pub steps_condemned : (left : Listing) (ids : List Puid) (test : ℕ → Bool) → left.named ≡ kept_by test directory.named → left.room ≡ directory.room → l.phase ≡ phases.Inner 0 → IsNextStep k (steps.Condemned ids)
      → (l.steps ≡ count_after k.steps) × (l.added ≡ k.added)
      → ((s : State) → IsState s → directory.named ≡ kinds_of s.graph → Collects (g.content old) s k → MayVanish s ids)
      → ((s t : State) → directory.named ≡ kinds_of s.graph → Collects (g.content old) s k → graph_blocks s.graph ≤ volume_of k → next 0 s (events.Vanish ids) ≡ Some t → Collects (g.content old) t l)
      → ((s t : State) → directory.named ≡ kinds_of s.graph → next 0 s (events.Vanish ids) ≡ Some t → left.named ≡ kinds_of t.graph)
      → (IsTrue (g.honest old) → length (g.content old) ≤ volume_of k) → steps_left l < steps_left k → StepsSo g old old space space directory left handles k l (Ok (steps.Condemned ids))
  steps_condemned left ids test kept room_is phase due counted legal keeps lists wide less = record {
    tries = λ core here. record {
      ends = record {
        moves = moves core;
        due = due;
        counted = (counted.0, counted.1, refl);
        sweeps = λ s serves. tt;
        over = λ s serves. tt;
        goes = λ kept. goes_within (g.blocks old) (record core.collections { collector = Some k }) (record core.collections { collector = Some l }) (steps.Condemned ids) (Some (events.Vanish ids)) refl refl
            (ap (λ p. marks_in p || sweeps_in p) due.0) (ap (λ p. marks_in p || sweeps_in p) phase) (refl, refl) less (omega (arith, ap events_left phase, ap events_left due.0));
      };
      calls = read_calls g old old 0 (reads_none g 0 old) (omega arith);
      left = refl;
      same = refl;
    };
    size = refl;
    runs = ap (λ p. marks_in p || sweeps_in p) phase;
    volume = volume;
    room = room_is;
    some = λ none. ap (λ named. has_root_in named 0) kept ∙ no_root_left test directory.named none;
    cylinders = refl;
  }
    where
      blocks_less : (h : Graph) (ds : Drafts) → graph_blocks h ≤ blocks_taken h ds
      blocks_less h ds = omega arith

      moves : (core : Kernel D) (s : State) → CoreServes g (before core) s → core.stop ≡ None → MovesTo g (before core) (with_parts core old space left l) s (Some (events.Vanish ids))
      moves core s serves none =
          let may = legal s serves.state serves.front.directory serves.collecting.collects in
          let runs = running g (before core) s serves none in
          let step = condemns g core old space directory k s serves l ids may runs 0 in
          let t = gone g core old space directory k s serves l ids may runs in
          let ds = drafts_of_handles core.handles s.grants in
          condemned g core old space directory k s serves l ids may runs left phase (lists s t serves.front.directory step)
          (keeps s t serves.front.directory serves.collecting.collects (omega (arith, wide serves.store.carries.tells.honest, room (g.content old) s.graph ds serves.store.account serves.store.ordered, blocks_less s.graph ds)) step)

  -- ---- a cylinder is swept

  pub steps_swept : (new : D) (after : Kept) (pass : Pass) (result : Result (Unit {0}) Trouble) (told : Result Step Refused) → IsPhaseOf pass k.phase → g.blocks old ≡ volume_of k → HasSwept g directory.named pass old new space after k l result → told ≡ told_as result → StepsSo g old new space after directory directory handles k l told
  steps_swept new after pass result told phase blocks is same = subst (StepsSo g old new space after directory directory handles k l) (sym same) (by result refl)
    where
      sweeping : (p : Phase) → IsPhaseOf pass p → sweeps_blocks p ≡ true
      sweeping phases.Idle h = absurd h
      sweeping phases.Marking h = absurd h
      sweeping (phases.Inner c) h = refl
      sweeping (phases.Roots c) h = refl
      sweeping phases.Swept h = absurd h

      sweeps_on : (p : Phase) → IsPhaseOf pass p → (marks_in p || sweeps_in p) ≡ true
      sweeps_on phases.Idle h = absurd h
      sweeps_on phases.Marking h = absurd h
      sweeps_on (phases.Inner c) h = refl
      sweeps_on (phases.Roots c) h = refl
      sweeps_on phases.Swept h = absurd h

      swept_step : (r : Result (Unit {0}) Trouble) → collection_runs (Some l) ≡ true → ((core : Kernel D) → IsMadeOrNot g (before core) (with_parts core new after directory l) (told_as r)) → StepsSo g old new space after directory directory handles k l (told_as r)
      swept_step r runs ends = record {
        tries = λ core here. record { ends = ends core; calls = makes_within g old new 2 1 4 1 (omega arith) (omega arith) is.sweep.calls; left = is.sweep.left; same = refl };
        size = is.sweep.calls.same.size;
        runs = runs;
        volume = volume;
        room = refl;
        some = λ h. h;
        cylinders = is.sweep.cylinders;
      }

      by : (r : Result (Unit {0}) Trouble) → result ≡ r → StepsSo g old new space after directory directory handles k l (told_as r)
      by (Ok u) at = swept_step (Ok u) (or_right (marks_in l.phase) (sweeps_in l.phase) (ap sweeps_in (rw at at is.phase) ∙ sweeps_still (volume_of k / 64) pass k.phase phase)) (λ core. record {
        moves = λ s serves none.
            let has = served g core old space directory k s serves l in
            let ds = drafts_of_handles core.handles s.grants in
            swept_one g core old space directory k s serves l new after pass _ phase (rw at at (is.sweep.swept serves.store.carries.tells)) is.sweep.left (rw at at (is.serves s ds has serves.collecting.collects)) (rw at at (is.sweep.counts serves.store.carries.tells serves.store.counts))
            (rw at at (is.keeps s ds has serves.collecting.collects)) (rw at at is.phase) (is.sweep.leaves s ds has);
        due = sweeping k.phase phase;
        counted = (rw at at is.steps, is.added, refl);
        sweeps = λ s serves. (
          frees_strays directory.named s.graph serves.front.directory pass k.phase phase (g.content old) (g.content new) (rw at at (is.sweep.swept serves.store.carries.tells)),
          (rw at at is.phase) ∙ ap (λ (n : ℕ). next_phase (n / 64) k.phase) (sym blocks),
          λ clean. is.sweep.spares serves.store.carries.tells (clean_goes directory.named s.graph serves.front.directory pass k.phase phase (g.content old) clean),
        );
        over = λ s serves. tt;
        goes = λ kept. goes_within (g.blocks old) (record core.collections { collector = Some k }) (record core.collections { collector = Some l }) steps.Swept None refl refl (sweeps_on k.phase phase)
            (or_right (marks_in l.phase) (sweeps_in l.phase) (ap sweeps_in (rw at at is.phase) ∙ sweeps_still (volume_of k / 64) pass k.phase phase)) (refl, refl) (rw at at is.less)
            (omega (arith, ap events_left (rw at at is.phase), events_swept (volume_of k / 64) pass k.phase phase));
      })
      by (Err t) at = swept_step (Err t) (or_right (marks_in l.phase) (sweeps_in l.phase) (ap (λ (x : Collecting). sweeps_in x.phase) (rw at at is.same) ∙ (in_sweep pass k.phase phase).1)) (λ core. record {
        ends = λ s serves none. failed core s serves t at;
        still = λ untried. record {
          reads = reads_within g old new 1 4 (omega arith) ((rw at at is.sweep.unless_tried) (untried_too t untried));
          directory = refl;
          space = rw at at is.sweep.kept;
          collector = as_before k l as_it_was;
          finished = refl;
        };
        kept = record { collector = as_before k l as_it_was; finished = refl };
        cause = caused core t (rw at at is.sweep.refused);
        wants = λ some. never (refused_by t) (no_want t) some;
      })
        where
          as_it_was : IsAsBefore k l
          as_it_was = subst (IsAsBefore k) (sym (rw at at is.same)) (record { marks = refl; rescues = refl; phase = refl; steps = refl; added = refl })

          untried_too : (u : Trouble) → had_tried (refused_by u) ≡ false → trouble_had_tried u ≡ false
          untried_too (trouble.Disk tried) h = h
          untried_too (trouble.Damaged damage) h = refl

          caused : (core : Kernel D) (u : Trouble) → IsMapTrouble g old new (64 * cylinder_of k.phase) u → IsCause g (before core) (with_parts core new after directory l) None (refused_by u)
          caused core (trouble.Disk tried) h = h
          caused core (trouble.Damaged damage) h = told_of_map g (before core) (with_parts core new after directory l) damage (64 * cylinder_of k.phase) h

          failed : (core : Kernel D) (s : State) → CoreServes g (before core) s → (t : Trouble) → result ≡ Err t → EndsUnmade g (before core) (with_parts core new after directory l) s (refused_by t)
          failed core s serves (trouble.Disk false) at =
              subst (λ (sp : Kept). MovesTo g (before core) (with_parts core new sp directory l) s None) (sym (rw at at is.sweep.kept))
              (stayed g core old space directory k s serves l 1 new ((rw at at is.sweep.unless_tried) refl) as_it_was)
          failed core s serves (trouble.Disk true) at =
              (is.sweep.leaves s _ (served g core old space directory k s serves l), record { drawn = serves.front.drawn; directory = serves.front.directory; grants = serves.front.grants; stopped = serves.front.stopped })
          failed core s serves (trouble.Damaged damage) at = absurd ((rw at at (is.sweep.sound s _ (served g core old space directory k s serves l))) tt)

-- a step of the marking leaves less
pub marks_on : (blocks : ℕ) (c : Collections) (k l : Collecting) (step : Step) → k.phase ≡ phases.Marking → l.phase ≡ k.phase → steps_left l < steps_left k → RunsBy step true true
    → LeavesFewer blocks (record c { collector = Some k }) (record c { collector = Some l }) step None
marks_on blocks c k l step marks phase less by =
    goes_within blocks (record c { collector = Some k }) (record c { collector = Some l }) step None refl refl (ap (λ p. marks_in p || sweeps_in p) marks) (ap (λ p. marks_in p || sweeps_in p) (phase ∙ marks)) by less
    (omega (arith, ap events_left phase))

-- ---- why a leaf wasn't read

pub scan_cause : {D : Type 0} (g : Ghosts D) (old new : Kernel D) (id : Puid) (draft : Option Root) (t : Trouble) → IsOfGrey old id.block → draft ≡ root_at old.handles id → IsScanTrouble g old.disk new.disk draft id.block t
    → IsCause g old new None (refused_by t)
scan_cause g old new id draft (trouble.Disk tried) here root is = is
scan_cause g old new id draft (trouble.Damaged damage) here root is = told_of_scan g old new damage id draft (inr here) root is

pub scan_calm : {D : Type 0} (g : Ghosts D) (old new : D) (draft : Option Root) (r : ℕ) (t : Trouble) → IsScanTrouble g old new draft r t → ¬ IsDamaged t → trouble_had_tried t ≡ false → is_calm_refusal (refused_by t) ≡ true
scan_calm g old new draft r (trouble.Disk false) is sound untried = refl
scan_calm g old new draft r (trouble.Disk true) is sound untried = cc
scan_calm g old new draft r (trouble.Damaged damage) is sound untried = absurd (sound tt)

-- ---- what waits, and what is grey

pub none_left : {A : Type 0} (xs : List A) → ¬ ¬ (xs ≡ []) → xs ≡ []
none_left [] some = refl
none_left (x ∷ xs) some = absurd (some (λ is. cc))

pub first_there : {A : Type 0} (xs : List A) → ¬ (xs ≡ []) → (x : A) × (slice_get xs 0 ≡ Some x)
first_there [] some = absurd (some refl)
first_there (x ∷ xs) some = (x, refl)
