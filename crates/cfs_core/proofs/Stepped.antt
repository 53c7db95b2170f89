-- The steps of the collector, of a core.
use Rattle.std.proofs.Common.{◌≡◌, inl, ℕ, ◌+◌, ◌-◌, ◌*◌, ◌/◌, ◌^◌, ◌<◌, ◌≤◌, cond, ◌||◌, List, [], ◌∷◌, length, true, false, Result, Ok, Err, Option, Some, None, IsTrue, refl, sym, ◌∙◌, ap, subst, arith, IfSome, map}
use Rattle.cfs_base.proofs.Went.{reads_none}
use Rattle.cfs_core.proofs.Words.{Accounts, Collecting, count_after, done, Event, FitsDisk, Ghosts, Grant, had_tried, Holds, Image, IsCollecting, keeps, Kept, list_all, Listing, loose, most_steps, next, Puid, Refused, State, steps_left, stopped_at, volume_of, wider, no_drafts}
use Rattle.cfs_base.specs.declared.refusal.Refused.TheVariants as refusals
use Rattle.collector_steps.specs.Collecting as Keeps
use Rattle.collector_steps.specs.declared.phase.Phase.TheVariants as phases
use Rattle.ufs_model.specs.declared.asked.Event.TheVariants as events
use Rattle.cfs_core.specs.declared.collecting.Collections.{Collections}
use Rattle.cfs_core.specs.declared.collecting.CollectFault.{CollectFault}
use Rattle.cfs_core.specs.declared.collecting.CollectFault.TheVariants as faults
use Rattle.cfs_core.specs.declared.collecting.Step.{Step}
use Rattle.cfs_core.specs.declared.collecting.Step.TheVariants as steps
use Rattle.cfs_core.specs.declared.kernel.Stop.{Stop}
use Rattle.cfs_core.proofs.Damages.{told_as}
use Rattle.cfs_core.specs.Calls.{IsCause}
use Rattle.cfs_core.specs.Collect.{CollectsStep, EndsUnmade, HappensOrRests, HasBegunCollection, IsFaultCause, IsMadeOrNot, IsNoDamage, IsCollectStep, IsTidyVolume, IsUnchanged, LeavesAll, MovesTo, StepsSo, TriesStep, event_of, fault_for, is_starved, phase_of, stop_by}
use Rattle.cfs_core.specs.Kernel.{AreCollections, IsSizedKernel, Kernel, Handle, is_ready, marks_in, collection_runs, sweeps_in}
use Rattle.cfs_core.specs.Room.{MayLose, lost_blocks}
use Rattle.cfs_core.specs.StandsFor.{AreDraftsOf, HasCollection, HasCollector, CoreServes, StandsFor, bare, drafts_of_handles, end_in}
use Rattle.cfs_core.specs.Rescues.{AreRescued}
use Rattle.cfs_core.proofs.Collected.{collection_ready, same_rescued}
use Rattle.cfs_core.proofs.Lefts.{goes_begun, goes_ended}
use Rattle.intentions.specs.Left.{coming}
use Rattle.cfs_core.proofs.Serving.{stored_with, fits, pending, room_with, running, serves_from, serves_is, serves_now, stands_from, nothing_left}
use Rattle.cfs_core.proofs.StepMoves.{begins, ended}
use Rattle.cfs_core.proofs.Stepping.{read_calls}
use Rattle.cfs_core.proofs.Tidied.{tidy}
use Rattle.cfs_core.proofs.Unread.{unread_few}

-- ---- what is told of it

-- a core that stopped
pub collects_stopped : {D : Type 0} (g : Ghosts D) (k : Kernel D) (stop : Stop) → k.stop ≡ Some stop → CollectsStep g k k (Err (faults.Stopped stop.moment))
collects_stopped g k stop is = record {
  event = λ s stands. refl;
  stopped = λ other same. let one : stop ≡ other = cc in (refl, ap (λ (x : Stop). Err (faults.Stopped x.moment)) one);
  due = tt;
  counted = tt;
  sweeps = tt;
  over = tt;
  still = (refl, (stop, is, refl));
  kept = record { collector = same_rescued k.collections.collector; finished = refl };
  called = refl;
  sound = λ none. cc;
  stops = refl;
  goes_on = tt;
  cause = tt;
  wants = λ no. cc;
  calls = read_calls g k.disk k.disk 0 (reads_none g 0 k.disk) (omega arith);
  left = refl;
  root = refl;
  words = refl;
  handles = refl;
  goes = tt;
}

module _ {D : Type 0} (g : Ghosts D) (left_sized : (d : D) (t : ℕ) (c : Image) → g.left_since d t c → length c ≡ g.blocks d) (sized : (d : D) → IsTrue (g.honest d) → length (g.content d) ≡ g.blocks d)
    (old new : Kernel D) (size : g.blocks new.disk ≡ g.blocks old.disk) (none : old.stop ≡ None) (nothing : old.space.left ≡ None) (left : new.space.left ≡ old.space.left) where
  fits_before : (s : State) → CoreServes g old s → FitsDisk (g.blocks new.disk) s.graph
  fits_before s serves = fits g old s serves (g.blocks new.disk) (sized old.disk serves.store.carries.tells.honest ∙ sym size)

  -- the images that are to come are those that are there
  before_is : end_in g old ≡ g.content old.disk
  before_is = ap (coming (g.content old.disk)) nothing

  after_is : end_in g new ≡ g.content new.disk
  after_is = ap (coming (g.content new.disk)) (left ∙ nothing)

  happens : new.stop ≡ None → (s : State) (e : Option Event) → CoreServes g old s → MovesTo g old new s e → HappensOrRests g old new s e
  happens runs s None serves is = record {
    stands = subst (StandsFor g new) is.comes (stands_from g new is.after runs (serves_is g new is.after is.serves));
    keeps = keeps g left_sized old.words.seed s old.disk new.disk (fits_before s serves) is.leaves;
    lost = subst (λ (t : State). lost_blocks (end_in g new) t.graph ≤ lost_blocks (end_in g old) s.graph) is.comes (rw (after_is, before_is) is.lost);
  }
  happens runs s (Some e) serves is = record {
    after = is.after;
    step = is.comes old.words.seed;
    stands = stands_from g new is.after runs (serves_is g new is.after is.serves);
    lost = λ _. subst (λ (i : Image). MayLose e s.graph is.after.graph (lost_blocks i s.graph) (lost_blocks (end_in g new) is.after.graph)) (sym before_is)
        (subst (λ (i : Image). MayLose e s.graph is.after.graph (lost_blocks (g.content old.disk) s.graph) (lost_blocks i is.after.graph)) (sym after_is) is.lost);
    survives = inl (done g left_sized old.words.seed s old.disk new.disk (fits_before s serves) e is.after (is.comes old.words.seed)
        (fits g new is.after is.serves (g.blocks new.disk) (sized new.disk is.serves.store.carries.tells.honest))
        (wider g old.disk new.disk _ _ is.leaves (λ c holds. inl holds)) (pending g new is.after is.serves));
  }

  pub collects_ok : AreCollections (g.blocks old.disk) old.collections → (step : Step) → TriesStep g old new (Ok step) → CollectsStep g old new (Ok step)
  collects_ok kept step is = record {
    event = λ s stands. let serves = serves_now g old s nothing (serves_from g old s none stands) in happens (ap (λ (k : Kernel D). k.stop) is.same ∙ none) s (event_of step) serves (is.ends.moves s serves none);
    stopped = λ stop same. cc;
    due = is.ends.due;
    counted = is.ends.counted;
    sweeps = λ s stands. is.ends.sweeps s (serves_now g old s nothing (serves_from g old s none stands));
    over = λ s stands. is.ends.over s (serves_now g old s nothing (serves_from g old s none stands));
    still = tt;
    kept = tt;
    called = ap (λ (k : Kernel D). k.collections.called) is.same;
    sound = λ _ s stands. tt;
    stops = tt;
    goes_on = ap (λ (k : Kernel D). k.stop) is.same;
    cause = tt;
    wants = λ no. cc;
    calls = is.calls;
    left = is.left;
    root = ap (λ (k : Kernel D). k.root) is.same;
    words = ap (λ (k : Kernel D). k.words) is.same;
    handles = ap (λ (k : Kernel D). k.handles) is.same;
    goes = is.ends.goes kept;
  }

-- one that was refused from below
module _ {D : Type 0} (g : Ghosts D) (left_sized : (d : D) (t : ℕ) (c : Image) → g.left_since d t c → length c ≡ g.blocks d) (sized : (d : D) → IsTrue (g.honest d) → length (g.content d) ≡ g.blocks d)
    (old mid : Kernel D) (none : old.stop ≡ None) (nothing : old.space.left ≡ None) where
  abbrev stopped_as : Refused → Kernel D
  stopped_as refused = record mid { stop = stop_by (fault_for refused (g.moment mid.disk)) mid.stop }

  halted : (refused : Refused) (moment : ℕ) (s : State) → TriesStep g old mid (Err refused) → CoreServes g old s → EndsUnmade g old mid s refused → IsCollectStep g old (record mid { stop = stop_by (fault_for refused moment) mid.stop }) s (Err (fault_for refused moment))
  halted (refusals.Full need) moment s tries serves is = absurd is
  halted (refusals.Disk false) moment s tries serves is = happens g left_sized sized old mid tries.calls.same.size none nothing tries.left (ap (λ (k : Kernel D). k.stop) tries.same ∙ none) s None serves is
  halted (refusals.Disk true) moment s tries serves is =
      let stop : ℕ = moment - 1 in
      let step : next old.words.seed s (events.Halted stop) ≡ Some (stopped_at stop s) = rw (running g old s serves none) refl in
      record {
        after = stopped_at stop s;
        step = step;
        stands = record { drawn = is.1.drawn; directory = is.1.directory; grants = is.1.grants; stopped = refl };
        lost = λ none. cc;
        survives = inl (loose g left_sized old.words.seed s old.disk mid.disk (fits_before g left_sized sized old mid tries.calls.same.size none nothing tries.left s serves) (events.Halted stop) (stopped_at stop s) step refl is.0 (pending g old s serves));
      }
  halted (refusals.Damaged damage) moment s tries serves is = absurd is
  halted refusals.Memory moment s tries serves is = happens g left_sized sized old mid tries.calls.same.size none nothing tries.left (ap (λ (k : Kernel D). k.stop) tries.same ∙ none) s None serves is

  told_cause : (refused : Refused) → (stop : Option Stop) → IsCause g old mid None refused → IsFaultCause g old (record mid { stop = stop }) (fault_for refused (g.moment mid.disk))
  told_cause (refusals.Full need) stop is = tt
  told_cause (refusals.Disk false) stop is = is
  told_cause (refusals.Disk true) stop is = (is, refl)
  told_cause (refusals.Damaged damage) stop is = (told_as g old mid (record mid { stop = stop }) None damage refl refl is, refl)
  told_cause refusals.Memory stop is = tt

  with_stop : (stop : Option Stop) → IsUnchanged g old mid → IsUnchanged g old (record mid { stop = stop })
  with_stop stop is = record { reads = is.reads; directory = is.directory; space = is.space; collector = is.collector; finished = is.finished }

  still_told : (refused : Refused) (moment : ℕ) → (had_tried refused ≡ false → IsUnchanged g old mid) → LeavesAll g old (record mid { stop = stop_by (fault_for refused moment) mid.stop }) (fault_for refused moment)
  still_told (refusals.Full need) moment still = with_stop mid.stop (still refl)
  still_told (refusals.Disk false) moment still = with_stop mid.stop (still refl)
  still_told (refusals.Disk true) moment still = tt
  still_told (refusals.Damaged damage) moment still = tt
  still_told refusals.Memory moment still = with_stop mid.stop (still refl)

  no_damage : (refused : Refused) (moment : ℕ) (s : State) → EndsUnmade g old mid s refused → IsNoDamage (fault_for refused moment)
  no_damage (refusals.Full need) moment s is = tt
  no_damage (refusals.Disk false) moment s is = tt
  no_damage (refusals.Disk true) moment s is = tt
  no_damage (refusals.Damaged damage) moment s is = absurd is
  no_damage refusals.Memory moment s is = tt

  want_told : (refused : Refused) (moment : ℕ) → fault_for refused moment ≡ faults.Memory → is_starved refused ≡ true
  want_told (refusals.Full need) moment is = refl
  want_told (refusals.Disk false) moment is = cc
  want_told (refusals.Disk true) moment is = cc
  want_told (refusals.Damaged damage) moment is = cc
  want_told refusals.Memory moment is = refl

  same_err : {e f : CollectFault} → ◌≡◌ {A = Result Step CollectFault} (Err e) (Err f) → e ≡ f
  same_err is = cc

  pub collects_err : (refused : Refused) (new : Kernel D) → new ≡ stopped_as refused → TriesStep g old mid (Err refused) → CollectsStep g old new (Err (fault_for refused (g.moment mid.disk)))
  collects_err refused new is tries = subst (λ (k : Kernel D). CollectsStep g old k (Err (fault_for refused (g.moment mid.disk)))) (sym is) (record {
    event = λ s stands. let serves = serves_now g old s nothing (serves_from g old s none stands) in halted refused (g.moment mid.disk) s tries serves (tries.ends.ends s serves none);
    stopped = λ stop same. cc;
    due = tt;
    counted = tt;
    sweeps = tt;
    over = tt;
    still = still_told refused (g.moment mid.disk) tries.ends.still;
    kept = record { collector = tries.ends.kept.collector; finished = tries.ends.kept.finished };
    called = ap (λ (k : Kernel D). k.collections.called) tries.same;
    sound = λ _ s stands. no_damage refused (g.moment mid.disk) s (tries.ends.ends s (serves_now g old s nothing (serves_from g old s none stands)) none);
    stops = ap (λ (o : Option Stop). stop_by (fault_for refused (g.moment mid.disk)) o) (ap (λ (k : Kernel D). k.stop) tries.same);
    goes_on = tt;
    cause = told_cause refused _ tries.ends.cause;
    wants = λ told. tries.ends.wants (want_told refused _ (same_err told));
    calls = tries.calls;
    left = tries.left;
    root = ap (λ (k : Kernel D). k.root) tries.same;
    words = ap (λ (k : Kernel D). k.words) tries.same;
    handles = ap (λ (k : Kernel D). k.handles) tries.same;
    goes = tt;
  })

-- ---- no collection runs

runs_not : (o : Option Collecting) → phase_of o ≡ phases.Idle → collection_runs o ≡ false
runs_not None is = refl
runs_not (Some k) is = ap (λ p. marks_in p || sweeps_in p) is

module _ {D : Type 0} (g : Ghosts D) (k : Kernel D) where
  -- no call of the disk is made
  pub steps_here : (c : Collections) (result : Result Step Refused) → IsMadeOrNot g k (record k { collections = c }) result → c.called ≡ k.collections.called → TriesStep g k (record k { collections = c }) result
  steps_here c result ends called = record {
    ends = ends;
    calls = read_calls g k.disk k.disk 0 (reads_none g 0 k.disk) (omega arith);
    left = refl;
    same = ap (λ (n : ℕ). record k { collections = record c { called = n } }) called;
  }

  -- memory is wanted
  pub steps_starved : (c : Collections) → phase_of k.collections.collector ≡ phases.Idle → k.collections.finished < k.collections.called → AreRescued k.collections.collector c.collector [] [] → c.called ≡ k.collections.called → c.finished ≡ k.collections.finished
      → TriesStep g k (record k { collections = c }) (Err refusals.Memory)
  steps_starved c idle more same called finished = steps_here c (Err refusals.Memory) (record {
    ends = λ s serves none. record {
      after = s;
      comes = refl;
      serves = stored_with g k s serves c (collection_ready (g.content k.disk) s k.collections.collector c.collector same serves.collecting);
      leaves = nothing_left g k.disk (λ i. Holds i s.graph);
      lost = omega arith;
    };
    still = λ untried. record { reads = reads_none g 4 k.disk; directory = refl; space = refl; collector = same; finished = finished };
    kept = record { collector = same; finished = finished };
    cause = tt;
    wants = λ some. (runs_not k.collections.collector idle, more);
  }) called

  -- ---- a collection begins

  open_are : (handles : List Handle) (grants : List Grant) → map (λ (x : Handle). x.grant) handles ≡ map bare grants → map (λ (x : Handle). x.grant.id) handles ≡ map (λ (x : Grant). x.id) grants
  open_are [] [] are = refl
  open_are [] (y ∷ grants) are = cc
  open_are (x ∷ handles) [] are = cc
  open_are (x ∷ handles) (y ∷ grants) are =
      let here : x.grant ≡ bare y = cc in
      let rest : map (λ (z : Handle). z.grant) handles ≡ map bare grants = cc in
      rw (here, open_are handles grants rest) refl

  pub steps_begun : (roots : List Puid) → roots ≡ k.root ∷ map (λ (x : Handle). x.grant.id) k.handles → (l : Collecting) → HasBegunCollection roots k.directory.named l
      → phase_of k.collections.collector ≡ phases.Idle → k.collections.finished < k.collections.called → volume_of l ≡ g.blocks k.disk → g.blocks k.disk ≡ 64 * length k.space.free → TriesStep g k (record k { collections = record k.collections { collector = Some l } }) (Ok steps.Began)
  steps_begun roots are l begun idle more volume size = steps_here (record k.collections { collector = Some l }) (Ok steps.Began) (record {
    moves = λ s serves none.
        let these = are ∙ ap (λ (x : Puid). x ∷ map (λ (y : Handle). y.grant.id) k.handles) (sym serves.root) ∙ ap (λ (ids : List Puid). s.graph.root ∷ ids) (open_are k.handles s.grants serves.front.grants) in
        begins g k s serves (running g k s serves none) (record k.collections { collector = Some l }) l refl idle roots these begun
        (omega (arith, unread_few g k s serves, room_with g k s serves, size, volume));
    due = (runs_not k.collections.collector idle, more);
    counted = (begun.steps, begun.added, refl);
    sweeps = λ s serves. tt;
    over = λ s serves. tt;
    goes = λ kept. goes_begun (g.blocks k.disk) k.collections (record k.collections { collector = Some l }) l refl refl (runs_not k.collections.collector idle) more refl begun.phase
        (subst (λ n. steps_left l < most_steps n) volume begun.left);
  }) refl

  -- ---- a collection ends

  module _ (col l : Collecting) (there : k.collections.collector ≡ Some col) (swept : col.phase ≡ phases.Swept) (idle : l.phase ≡ phases.Idle) where
    abbrev ended_as : Collections
    ended_as = record k.collections { collector = Some l; finished = k.collections.finished + 1 }

    col_there : (s : State) → CoreServes g k s → HasCollector (g.content k.disk) s col
    col_there s serves = subst (HasCollection (g.content k.disk) s) there serves.collecting

    none_open : (handles : List Handle) (grants : List Grant) → handles ≡ [] → AreDraftsOf (drafts_of_handles handles grants) handles grants → drafts_of_handles handles grants ≡ no_drafts
    none_open [] [] none drafts = refl
    none_open [] (y ∷ grants) none drafts = absurd drafts
    none_open (x ∷ handles) grants none drafts = cc

    over : (s : State) → CoreServes g k s → k.handles ≡ [] → IsTidyVolume (g.content k.disk) s.graph
    over s serves none =
        tidy (g.content k.disk) s.graph (subst (λ ds. Accounts (g.content k.disk) s.graph ds) (none_open k.handles s.grants none serves.drafts) serves.store.account) serves.store.ordered
        (subst (λ p. IsCollecting p (g.content k.disk) s col) swept (col_there s serves).collects).0

    pub steps_ended : l.steps ≡ count_after col.steps → l.added ≡ col.added → volume_of col ≡ g.blocks k.disk
        → ((s : State) (image : Image) → Keeps.Collects image s col → col.added < 2 ^ 64 - 1 → l.steps ≤ 2 * volume_of col + 2 * col.added + 2 * (volume_of col / 64) + 3)
        → TriesStep g k (record k { collections = ended_as }) (Ok steps.Finished)
    steps_ended made added volume bounded = steps_here ended_as (Ok steps.Finished) (record {
      moves = λ s serves none. ended g k s serves (running g k s serves none) ended_as l refl col (col_there s serves) swept idle;
      due = rw there swept;
      counted = rw there (made, added, refl);
      sweeps = λ s serves. tt;
      over = λ s serves. (
        λ few. omega (arith, bounded s (g.content k.disk) (col_there s serves).collects (omega (arith, few, added)), added, volume, ap (λ (n : ℕ). n / 64) volume),
        over s serves,
      );
      goes = λ kept. goes_ended (g.blocks k.disk) k.collections ended_as col l refl refl there refl swept idle;
    }) refl

    pub few_ended : (room : ℕ) → AreCollections room k.collections → k.collections.finished + 1 ≤ k.collections.called
    few_ended room kept = omega (arith, kept.few, ap {B = ℕ} (λ o. cond (collection_runs o) 1 0) there, ap {B = ℕ} (λ p. cond (marks_in p || sweeps_in p) 1 0) swept)

-- ---- a collector that goes on

pub kept_on : (room : ℕ) (c : Collections) (col l : Collecting) → c.collector ≡ Some col → collection_runs (Some col) ≡ true → collection_runs (Some l) ≡ true → volume_of l ≡ volume_of col → AreCollections room c → AreCollections room (record c { collector = Some l })
kept_on room c col l there before after volume kept = record {
  volume = volume ∙ subst (λ o. IfSome o (λ k. volume_of k ≡ room)) there kept.volume;
  few = omega (arith, kept.few, ap {B = ℕ} (λ o. cond (collection_runs o) 1 0) there, ap {B = ℕ} (λ b. cond b 1 0) before, ap {B = ℕ} (λ b. cond b 1 0) after);
}

pub sized_on : {D : Type 0} (g : Ghosts D) (d e : D) (directory left : Listing) (before after : Kept) (ss : List Handle) (drawn : ℕ) (c : Collections) (col l : Collecting) (result : Result Step Refused)
    → c.collector ≡ Some col → collection_runs (Some col) ≡ true → StepsSo g d e before after directory left ss col l result → IsSizedKernel g.blocks d directory before ss drawn c → IsSizedKernel g.blocks e left after ss drawn (record c { collector = Some l })
sized_on g d e directory left before after ss drawn c col l result there running is sized = record {
  size = is.size ∙ sized.size ∙ ap (λ (n : ℕ). 64 * n) (sym is.cylinders);
  room = is.room ∙ sized.room ∙ sym is.size;
  some = is.some sized.some;
  drawn_all = sized.drawn_all;
  ready = subst (λ (n : ℕ). list_all (is_ready n) ss ≡ true) (sym is.room) sized.ready;
  kept = subst (λ (n : ℕ). AreCollections n (record c { collector = Some l })) (sym is.room) (kept_on directory.room c col l there running is.runs is.volume sized.kept);
}
