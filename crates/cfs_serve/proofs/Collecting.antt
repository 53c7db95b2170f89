-- A step of the collector of a core, as the machine sees it.
use Rattle.std.proofs.Common.{eq-eqb, ◌≡◌, ◌⊎◌, inl, inr, ℕ, ◌+◌, ◌-◌, ◌<◌, ◌≤◌, Bool, true, false, List, [], ◌∷◌, ◌++◌, Option, Some, None, Result, Ok, Err, is_some, length, option_to_list, refl, sym, ap, ◌∙◌, subst, arith, ◌||◌}
use Rattle.cfs_serve.specs.Ending.{AreStoppedReplies, IsStopTimed, MakesStop, moment_in}
use Rattle.cfs_serve.specs.Events.{is_of_session}
use Rattle.cfs_serve.proofs.Stepping.{nobodys}
use Rattle.cfs_serve.proofs.Cited.{AsBefore, CallKeeps, CollectFault, Collecting, Collection, Collections, CollectsStep, EndsCollecting, Event, Ghosts, Graph, Happens, HappensOrRests, HasCollection, IsNextOf, IsCollectStep, IsUnchanged, Kernel, MayCount, MayGoOn, MayLose, MayMake, MayTally, PassesStep, Puid, ServerRests, Rose, RunSurvives, ServesIs, SpendsStep, Stands, StandsFor, State, Step, Stop, StopsAmong, Survived, Tallies, TellsStep, TellsStop, append-nil, damage_in, end_in, event_by, event_of, fails, is_calm_step, is_collecting, is_marking, sweeps_now, lost_blocks, marks_in, next, option_and_then, option_to_list, recorded, refusal_by, replay, collection_runs, stops_in, sweeps_in, tally_of, tells_stop_at}
use Rattle.cfs_core.specs.Left.{steps_ahead}
use Rattle.cfs_core.specs.declared.collecting.CollectFault.TheVariants as faults
use Rattle.cfs_core.specs.declared.collecting.Step.TheVariants as steps
use Rattle.ufs_model.specs.declared.asked.Event.TheVariants as events
use Rattle.cfs_serve.proofs.Logs.{some_same}
use Rattle.cfs_serve.proofs.Owed.{no_some, rescued_runs}

never : true ≡ false → ⊥
never e = cc

gone_less : (after t before s : ℕ) → after + t ≡ before + s → before ≡ 0 → after ≤ s - t
gone_less after t before s all none = omega (arith, all, none)

-- a core has a collection as the state has one
running_as : (a b : Bool) (c : Collection) → is_marking c ≡ a → sweeps_now c ≡ b → is_collecting c ≡ (a || b)
running_as a b c marking sweeping = ap (λ x. x || sweeps_now c) marking ∙ ap (λ y. a || y) sweeping

pub runs_so : {D : Type 0} (g : Ghosts D) (k : Kernel D) (s : State) → ServesIs g k s → collection_runs k.collections.collector ≡ is_collecting s.collection
runs_so g k s serves = at k.collections.collector serves.collecting
  where
    at : (o : Option Collecting) → HasCollection (end_in g k) s o → collection_runs o ≡ is_collecting s.collection
    at None is = sym (ap is_collecting is)
    at (Some collector) is = sym (running_as (marks_in collector.phase) (sweeps_in collector.phase) s.collection is.marking is.sweeping)

abbrev damaged : Option Stop → Bool
damaged o = is_some (option_and_then (λ (x : Stop). x.damage) o)

module _ {D : Type 0} (g : Ghosts D) (old new : Kernel D) (result : Result Step CollectFault) (did : CollectsStep g old new result) where
  -- one that stopped stays as it is
  stood : (stop : Stop) → old.stop ≡ Some stop → new ≡ old
  stood stop is = (did.stopped stop is).0

  -- ---- the event

  made_by : (s : State) (o : Option Event) → HappensOrRests g old new s o → MayMake (λ t. StandsFor g new t) old.words.seed s o
  made_by s None rests = rests.stands
  made_by s (Some e) happens = record { after = happens.after; step = happens.step; standing = happens.stands }

  pub made : (s : State) → StandsFor g old s → MayMake (λ t. StandsFor g new t) old.words.seed s (event_by result)
  made s stands = by result (did.event s stands)
    where
      by : (r : Result Step CollectFault) → IsCollectStep g old new s r → MayMake (λ t. StandsFor g new t) old.words.seed s (event_by r)
      by (Ok step) is = made_by s (event_of step) is
      by (Err faults.Memory) is = is.stands
      by (Err (faults.Disk None)) is = is.stands
      by (Err (faults.Disk (Some moment))) is = made_by s (Some (events.Halted moment)) is
      by (Err (faults.Damaged damage moment)) is = made_by s (Some (events.Halted moment)) is
      by (Err (faults.Stopped moment)) is = subst (λ (k : Kernel D). StandsFor g k s) (sym is) stands

  -- ---- what a crash leaves

  module _ (event : (seed : ℕ) (graph : Graph) (trail : List Event) (marks : List ℕ) (s : State) (a b : D) → replay seed graph trail ≡ Some s → RunSurvives g seed graph trail marks a
      → (e : Event) → Survived g seed s e a b → RunSurvives g seed graph (trail ++ e ∷ []) (marks ++ g.moment b ∷ []) b)
      (none : (seed : ℕ) (graph : Graph) (trail : List Event) (marks : List ℕ) (s : State) (a b : D) → replay seed graph trail ≡ Some s → RunSurvives g seed graph trail marks a
      → CallKeeps g s a b → RunSurvives g seed graph trail marks b) where
    abbrev GoesOnBy : Option Event → Type 0
    GoesOnBy o = MayGoOn (λ k s. StandsFor g k s) (λ (k : Kernel D). g.moment k.disk) (λ k seed graph trail marks. RunSurvives g seed graph trail marks k.disk) old.words.seed old new o

    goes_by : (o : Option Event) → ((s : State) → StandsFor g old s → HappensOrRests g old new s o) → GoesOnBy o
    goes_by None is = λ graph trail marks s legal stands run. none old.words.seed graph trail marks s old.disk new.disk legal run (is s stands).keeps
    goes_by (Some e) is = λ graph trail marks s legal stands run. event old.words.seed graph trail marks s old.disk new.disk legal run e (is s stands).survives

    pub goes_on : GoesOnBy (event_by result)
    goes_on = by result did.event
      where
        by : (r : Result Step CollectFault) → ((s : State) → StandsFor g old s → IsCollectStep g old new s r) → GoesOnBy (event_by r)
        by (Ok step) is = goes_by (event_of step) is
        by (Err faults.Memory) is = goes_by None is
        by (Err (faults.Disk None)) is = goes_by None is
        by (Err (faults.Disk (Some moment))) is = goes_by (Some (events.Halted moment)) is
        by (Err (faults.Damaged damage moment)) is = goes_by (Some (events.Halted moment)) is
        by (Err (faults.Stopped moment)) is = λ graph trail marks s legal stands run. subst (λ (k : Kernel D). RunSurvives g old.words.seed graph trail marks k.disk) (sym (is s stands)) run

  -- ---- what is told of the disk

  pub stays : is_some old.stop ≡ true → is_some new.stop ≡ true
  stays some = at old.stop refl some
    where
      at : (o : Option Stop) → old.stop ≡ o → is_some o ≡ true → is_some new.stop ≡ true
      at (Some stop) is some = rw (stood stop is, is) refl
      at None is some = absurd (cc some)

  pub tells : TellsStep (λ (k : Kernel D). g.faults k.disk) (λ (k : Kernel D). is_some k.stop) (λ (k : Kernel D). damaged k.stop) old new result
  tells = (
    record {
      later = did.calls.faults;
      told = λ is. absurd (cc is);
      stays = stays;
      calm = λ runs none. calm_at result refl runs;
      halts = λ stopped sound. halts_at old.stop refl stopped sound;
    },
    told_at result refl,
  )
    where
      told_at : (r : Result Step CollectFault) → result ≡ r → fails r ≡ true → Rose (g.faults old.disk) (g.faults new.disk)
      told_at (Err (faults.Disk None)) same is = (rw same at did.cause).failed.cause
      told_at (Err (faults.Disk (Some moment))) same is = (rw same at did.cause).0.failed.cause
      told_at r same is = absurd (cc is)

      calm_at : (r : Result Step CollectFault) → result ≡ r → is_some new.stop ≡ false → is_calm_step (event_by r) ≡ true
      calm_at (Ok steps.Idle) same runs = refl
      calm_at (Ok steps.Began) same runs = refl
      calm_at (Ok steps.Took) same runs = refl
      calm_at (Ok steps.Scanned) same runs = refl
      calm_at (Ok (steps.Condemned ids)) same runs = refl
      calm_at (Ok steps.Swept) same runs = refl
      calm_at (Ok steps.Finished) same runs = refl
      calm_at (Err faults.Memory) same runs = refl
      calm_at (Err (faults.Disk None)) same runs = refl
      calm_at (Err (faults.Disk (Some moment))) same runs = absurd (never (sym (ap is_some (rw same at did.stops)) ∙ runs))
      calm_at (Err (faults.Damaged damage moment)) same runs = absurd (never (sym (ap is_some (rw same at did.stops)) ∙ runs))
      calm_at (Err (faults.Stopped moment)) same runs = refl

      halts_in : (r : Result Step CollectFault) → result ≡ r → old.stop ≡ None → is_some new.stop ≡ true → damaged new.stop ≡ false → Rose (g.faults old.disk) (g.faults new.disk)
      halts_in (Ok step) same is stopped sound = absurd (never (sym stopped ∙ ap is_some ((rw same at did.goes_on) ∙ is)))
      halts_in (Err faults.Memory) same is stopped sound = absurd (never (sym stopped ∙ ap is_some ((rw same at did.stops) ∙ is)))
      halts_in (Err (faults.Disk None)) same is stopped sound = absurd (never (sym stopped ∙ ap is_some ((rw same at did.stops) ∙ is)))
      halts_in (Err (faults.Disk (Some moment))) same is stopped sound = told_at (Err (faults.Disk (Some moment))) same refl
      halts_in (Err (faults.Damaged damage moment)) same is stopped sound = absurd (never (sym (ap damaged (rw same at did.stops)) ∙ sound))
      halts_in (Err (faults.Stopped moment)) same is stopped sound = absurd (never (sym stopped ∙ ap is_some ((rw same at did.stops) ∙ is)))

      halts_at : (o : Option Stop) → old.stop ≡ o → is_some new.stop ≡ true → damaged new.stop ≡ false
          → ((is_some old.stop ≡ true) × (damaged old.stop ≡ false)) ⊎ Rose (g.faults old.disk) (g.faults new.disk)
      halts_at (Some stop) is stopped sound = inl (rw (← stood stop is) (stopped, sound))
      halts_at None is stopped sound = inr (halts_in result refl is stopped sound)

  -- no block of a disk that holds the store is found damaged
  pub undamaged : (s : State) → StandsFor g old s → damaged old.stop ≡ false → damaged new.stop ≡ false
  undamaged s stands before = at old.stop refl
    where
      by : old.stop ≡ None → (r : Result Step CollectFault) → result ≡ r → damaged new.stop ≡ false
      by is (Ok step) same = ap damaged (rw same at did.goes_on) ∙ before
      by is (Err (faults.Damaged damage moment)) same = absurd (rw same at did.sound is s stands)
      by is (Err faults.Memory) same = ap damaged (rw same at did.stops) ∙ before
      by is (Err (faults.Disk None)) same = ap damaged (rw same at did.stops) ∙ before
      by is (Err (faults.Disk (Some moment))) same = ap damaged (rw same at did.stops)
      by is (Err (faults.Stopped moment)) same = ap damaged (rw same at did.stops) ∙ before

      at : (o : Option Stop) → old.stop ≡ o → damaged new.stop ≡ false
      at None is = by is result refl
      at (Some stop) is = rw (stood stop is) before

  -- it stops where a call failed
  pub halts : (s : State) → StandsFor g old s → tells_stop_at (event_by result) ≡ true → Rose (g.faults old.disk) (g.faults new.disk)
  halts s stands stops = by result refl stops
    where
      running : old.stop ≡ None → (r : Result Step CollectFault) → result ≡ r → tells_stop_at (event_by r) ≡ true → Rose (g.faults old.disk) (g.faults new.disk)
      running none (Err (faults.Disk (Some moment))) same is = (rw same at did.cause).0.failed.cause
      running none (Err (faults.Damaged damage moment)) same is = absurd (rw same at did.sound none s stands)
      running none (Err faults.Memory) same is = absurd (cc is)
      running none (Err (faults.Disk None)) same is = absurd (cc is)
      running none (Err (faults.Stopped moment)) same is = absurd (cc is)
      running none (Ok steps.Idle) same is = absurd (cc is)
      running none (Ok steps.Began) same is = absurd (cc is)
      running none (Ok steps.Took) same is = absurd (cc is)
      running none (Ok steps.Scanned) same is = absurd (cc is)
      running none (Ok (steps.Condemned ids)) same is = absurd (cc is)
      running none (Ok steps.Swept) same is = absurd (cc is)
      running none (Ok steps.Finished) same is = absurd (cc is)

      by : (r : Result Step CollectFault) → result ≡ r → tells_stop_at (event_by r) ≡ true → Rose (g.faults old.disk) (g.faults new.disk)
      by r same is = at old.stop refl
        where
          at : (o : Option Stop) → old.stop ≡ o → Rose (g.faults old.disk) (g.faults new.disk)
          at None none = running none r same is
          at (Some stop) there = absurd (cc (subst (λ x. tells_stop_at (event_by x) ≡ true) (sym same ∙ (did.stopped stop there).1) is))

  -- ---- why it stopped

  pub stops : MakesStop (λ (k : Kernel D). g.moment k.disk) (λ (k : Kernel D). k.stop) old new (recorded (event_by result)) × TellsStop (refusal_by result) new.stop
  stops = (record { among = (by result refl).0; after = silent (event_by result) (nobodys result); timed = timed old.stop refl }, (by result refl).1)
    where
      -- no reply is among its events
      silent : (made : Option Event) → ((e : Event) → made ≡ Some e → (k : ℕ) → is_of_session k e ≡ false) → AreStoppedReplies (moment_in old.stop) (recorded made)
      silent None nobody = tt
      silent (Some (events.Ask who request reply)) nobody = absurd (cc (eq-eqb who who refl, nobody (events.Ask who request reply) refl who))
      silent (Some e) nobody = (tt, tt)

      timed : (o : Option Stop) → old.stop ≡ o → IsStopTimed old.stop (g.moment old.disk) → IsStopTimed new.stop (g.moment new.disk)
      timed None is was = at_last result refl
        where
          at_last : (r : Result Step CollectFault) → result ≡ r → IsStopTimed new.stop (g.moment new.disk)
          at_last (Ok step) same = rw (rw same at did.goes_on, is) tt
          at_last (Err faults.Memory) same = rw (rw same at did.stops, is) tt
          at_last (Err (faults.Disk None)) same = rw (rw same at did.stops, is) tt
          at_last (Err (faults.Stopped moment)) same = rw (rw same at did.stops, is) tt
          at_last (Err (faults.Disk (Some moment))) same = rw (rw same at did.stops) (rw same at did.cause).1
          at_last (Err (faults.Damaged damage moment)) same = rw (rw same at did.stops) (rw same at did.cause).1
      timed (Some stop) is was = rw (did.stopped stop is).0 was

      Told : Result Step CollectFault → Type 0
      Told r = StopsAmong old.stop new.stop (recorded (event_by r)) × TellsStop (refusal_by r) new.stop

      calm : (step : Step) → stops_in (damage_in new.stop) (recorded (event_of step)) ≡ []
      calm steps.Idle = refl
      calm steps.Began = refl
      calm steps.Took = refl
      calm steps.Scanned = refl
      calm (steps.Condemned ids) = refl
      calm steps.Swept = refl
      calm steps.Finished = refl

      still : (made : List Event) → stops_in (damage_in new.stop) made ≡ [] → new.stop ≡ old.stop → StopsAmong old.stop new.stop made
      still made none same = ap option_to_list same ∙ sym (rw none (append-nil (option_to_list old.stop)))

      -- one that stopped in it ran before
      ran_before : (fault : CollectFault) → result ≡ Err fault → ((moment : ℕ) → fault ≡ faults.Stopped moment → ⊥) → old.stop ≡ None
      ran_before fault same other = at old.stop refl
        where
          at : (o : Option Stop) → old.stop ≡ o → old.stop ≡ None
          at None is = is
          at (Some stop) is = absurd (other stop.moment (cc (same, (did.stopped stop is).1)))

      by : (r : Result Step CollectFault) → result ≡ r → Told r
      by (Ok step) same = (still (recorded (event_of step)) (calm step) (rw same at did.goes_on), tt)
      by (Err faults.Memory) same = (still [] refl (rw same at did.stops), tt)
      by (Err (faults.Disk None)) same = (still [] refl (rw same at did.stops), tt)
      by (Err (faults.Stopped moment)) same = (still [] refl (rw same at did.stops), tt)
      by (Err (faults.Disk (Some moment))) same =
          let is : new.stop ≡ Some (record { moment = moment; damage = None }) = rw same at did.stops in
          (rw (ran_before (faults.Disk (Some moment)) same (λ m e. cc e), is) refl, is)
      by (Err (faults.Damaged damage moment)) same =
          let is : new.stop ≡ Some (record { moment = moment; damage = Some damage }) = rw same at did.stops in
          (rw (ran_before (faults.Damaged damage moment) same (λ m e. cc e), is) refl, is)

  -- ---- what becomes of the collections

  abbrev stopped : Kernel D → Bool
  stopped k = is_some k.stop

  abbrev TalliesBy : State → Option Event → Type 0
  TalliesBy s o = MayTally stopped (tally_of g) old.words.seed old new s o

  -- a step that was made was one of a core that runs, and it runs on
  ran : (step : Step) → result ≡ Ok step → old.stop ≡ None
  ran step same = at old.stop refl
    where
      at : (o : Option Stop) → old.stop ≡ o → old.stop ≡ None
      at None is = is
      at (Some stop) is = absurd (cc (same, (did.stopped stop is).1))

  goes : (step : Step) → result ≡ Ok step → new.stop ≡ None
  goes step same = (rw same at did.goes_on) ∙ ran step same

  serves_old : (step : Step) → result ≡ Ok step → (s : State) → StandsFor g old s → ServesIs g old s
  serves_old step same s stands = subst (Stands g old s) (ran step same) stands

  serves_new : (step : Step) → result ≡ Ok step → (t : State) → StandsFor g new t → ServesIs g new t
  serves_new step same t stands = subst (Stands g new t) (goes step same) stands

  -- it made no event
  rests_so : (step : Step) → result ≡ Ok step → (s : State) → StandsFor g old s → event_of step ≡ None → ServerRests stopped (tally_of g) old new s
  rests_so step same s stands none =
      let rest = subst (λ o. HappensOrRests g old new s o) none (subst (λ r. IsCollectStep g old new s r) same (did.event s stands)) in
      record { lost = λ runs. rest.lost }

  -- the blocks of what is gone, by an event
  lost_so : (s t : State) (e : Event) → Happens g old new s e → is_some new.stop ≡ false → next old.words.seed s e ≡ Some t
      → MayLose e s.graph t.graph (lost_blocks (end_in g old) s.graph) (lost_blocks (end_in g new) t.graph)
  lost_so s t e here runs step =
      subst (λ (u : State). MayLose e s.graph u.graph (lost_blocks (end_in g old) s.graph) (lost_blocks (end_in g new) u.graph)) (some_same here.after t (sym here.step ∙ step)) (here.lost (no_some new.stop runs))

  halted : (s : State) (moment : ℕ) (stop : Stop) → new.stop ≡ Some stop → Tallies stopped (tally_of g) old.words.seed old new s (events.Halted moment)
  halted s moment stop is = record {
    lost = λ runs. absurd (never (sym (ap is_some is) ∙ runs));
  }

  -- objects vanish as a collection marks
  marks_due : (s : State) (ids : List Puid) (o : Option Collecting) → HasCollection (end_in g old) s o → IsNextOf o (steps.Condemned ids) → sweeps_now s.collection ≡ false
  marks_due s ids None has due = absurd due
  marks_due s ids (Some k) has due = has.sweeping ∙ ap sweeps_in due.0

  pub tallies : ((s : State) → ServesIs g old s → sweeps_now s.collection ≡ false → lost_blocks (end_in g old) s.graph ≡ 0) → (s : State) → StandsFor g old s → TalliesBy s (event_by result)
  tallies swept s stands = by result refl
    where
      event : (r : Result Step CollectFault) → result ≡ r → IsCollectStep g old new s r
      event r same = subst (λ x. IsCollectStep g old new s x) same (did.event s stands)

      by : (r : Result Step CollectFault) → result ≡ r → TalliesBy s (event_by r)
      by (Ok steps.Idle) same = rests_so steps.Idle same s stands refl
      by (Ok steps.Took) same = rests_so steps.Took same s stands refl
      by (Ok steps.Scanned) same = rests_so steps.Scanned same s stands refl
      by (Ok steps.Swept) same = rests_so steps.Swept same s stands refl
      by (Ok steps.Began) same = record { lost = λ runs t step. lost_so s t events.Began (event (Ok steps.Began) same) runs step }
      by (Ok (steps.Condemned ids)) same =
          let serves = serves_old (steps.Condemned ids) same s stands in
          let due = marks_due s ids old.collections.collector serves.collecting (rw same at did.due) in
          record { lost = λ runs t step. gone_less _ _ _ _ (lost_so s t (events.Vanish ids) (event (Ok (steps.Condemned ids)) same) runs step) (swept s serves due) }
      by (Ok steps.Finished) same = record { lost = λ runs t step. lost_so s t events.Finished (event (Ok steps.Finished) same) runs step }
      by (Err faults.Memory) same = record { lost = λ runs. (event (Err faults.Memory) same).lost }
      by (Err (faults.Disk None)) same = record { lost = λ runs. (event (Err (faults.Disk None)) same).lost }
      by (Err (faults.Disk (Some moment))) same = halted s moment (record { moment = moment; damage = None }) (rw same at did.stops)
      by (Err (faults.Damaged damage moment)) same = halted s moment (record { moment = moment; damage = Some damage }) (rw same at did.stops)
      by (Err (faults.Stopped moment)) same = subst (λ (k : Kernel D). ServerRests stopped (tally_of g) old k s) (sym (event (Err (faults.Stopped moment)) same)) (record { lost = λ runs. omega arith })

  -- ---- whatever disk it is

  pub passes : PassesStep (λ (k : Kernel D). g.moment k.disk) stopped (tally_of g) old new result
  passes = record {
    later = did.calls.later;
    counts = counts result refl;
    stops = λ tells. stops_at result refl tells;
    begins = λ is. begins_at result refl is;
  }
    where
      as_before : (step : Step) → result ≡ Ok step → new.collections.finished ≡ old.collections.finished → (collection_runs old.collections.collector ≡ true) × (collection_runs new.collections.collector ≡ true) → AsBefore (tally_of g old) (tally_of g new)
      as_before step same finished both = (finished, both.1 ∙ sym both.0)

      unchanged : IsUnchanged g old new → AsBefore (tally_of g old) (tally_of g new)
      unchanged same = (same.finished, rescued_runs old.collections.collector new.collections.collector [] [] same.collector)

      counts : (r : Result Step CollectFault) → result ≡ r → MayCount (event_by r) (tally_of g old) (tally_of g new)
      counts (Ok steps.Idle) same = let both = (rw same at did.goes).runs_by in (ap (λ (x : Collections). x.finished) (rw same at did.counted), both.1 ∙ sym both.0)
      counts (Ok steps.Took) same = as_before steps.Took same (rw same at did.counted).2 (rw same at did.goes).runs_by
      counts (Ok steps.Scanned) same = as_before steps.Scanned same (rw same at did.counted).2 (rw same at did.goes).runs_by
      counts (Ok steps.Swept) same = as_before steps.Swept same (rw same at did.counted).2 (rw same at did.goes).runs_by
      counts (Ok (steps.Condemned ids)) same = as_before (steps.Condemned ids) same (rw same at did.counted).2 (rw same at did.goes).runs_by
      counts (Ok steps.Began) same = let due = rw same at did.due in (due.1, due.0, (rw same at did.counted).2, (rw same at did.goes).runs_by.1)
      counts (Ok steps.Finished) same = let both = (rw same at did.goes).runs_by in (both.0, (rw same at did.counted).2, both.1)
      counts (Err faults.Memory) same = unchanged (rw same at did.still)
      counts (Err (faults.Disk None)) same = unchanged (rw same at did.still)
      counts (Err (faults.Disk (Some moment))) same = tt
      counts (Err (faults.Damaged damage moment)) same = tt
      counts (Err (faults.Stopped moment)) same = subst (λ (k : Kernel D). AsBefore (tally_of g old) (tally_of g k)) (sym (rw same at did.still).0) (refl, refl)

      stops_at : (r : Result Step CollectFault) → result ≡ r → tells_stop_at (event_by r) ≡ true → is_some new.stop ≡ true
      stops_at (Err (faults.Disk (Some moment))) same tells = ap is_some (rw same at did.stops)
      stops_at (Err (faults.Damaged damage moment)) same tells = ap is_some (rw same at did.stops)
      stops_at (Ok steps.Idle) same tells = absurd (cc tells)
      stops_at (Ok steps.Took) same tells = absurd (cc tells)
      stops_at (Ok steps.Scanned) same tells = absurd (cc tells)
      stops_at (Ok steps.Swept) same tells = absurd (cc tells)
      stops_at (Ok (steps.Condemned ids)) same tells = absurd (cc tells)
      stops_at (Ok steps.Began) same tells = absurd (cc tells)
      stops_at (Ok steps.Finished) same tells = absurd (cc tells)
      stops_at (Err faults.Memory) same tells = absurd (cc tells)
      stops_at (Err (faults.Disk None)) same tells = absurd (cc tells)
      stops_at (Err (faults.Stopped moment)) same tells = absurd (cc tells)

      begins_at : (r : Result Step CollectFault) → result ≡ r → event_by r ≡ Some events.Began → is_some new.stop ≡ false
      begins_at (Ok steps.Began) same is = ap is_some (goes steps.Began same)
      begins_at (Ok steps.Idle) same is = absurd (cc is)
      begins_at (Ok steps.Took) same is = absurd (cc is)
      begins_at (Ok steps.Scanned) same is = absurd (cc is)
      begins_at (Ok steps.Swept) same is = absurd (cc is)
      begins_at (Ok (steps.Condemned ids)) same is = absurd (cc is)
      begins_at (Ok steps.Finished) same is = absurd (cc is)
      begins_at (Err faults.Memory) same is = absurd (cc is)
      begins_at (Err (faults.Disk None)) same is = absurd (cc is)
      begins_at (Err (faults.Disk (Some moment))) same is = absurd (cc is)
      begins_at (Err (faults.Damaged damage moment)) same is = absurd (cc is)
      begins_at (Err (faults.Stopped moment)) same is = absurd (cc is)

  -- a step leaves fewer
  pub spends : SpendsStep (tally_of g old) (tally_of g new) result
  spends = by result refl
    where
      spent : (step : Step) → result ≡ Ok step → ¬ (step ≡ steps.Idle) → ((tally_of g new).steps < (tally_of g old).steps) × ((tally_of g new).events + length (option_to_list (event_of step)) ≤ (tally_of g old).events)
      spent step same other =
          let left = rw same at did.goes in (
            subst (λ n. steps_ahead n new.collections < steps_ahead (g.blocks old.disk) old.collections) (sym did.calls.same.size) (left.fewer other),
            omega (arith, left.events),
          )

      by : (r : Result Step CollectFault) → result ≡ r → SpendsStep (tally_of g old) (tally_of g new) r
      by (Ok steps.Idle) same = tt
      by (Ok steps.Took) same = spent steps.Took same (λ e. cc)
      by (Ok steps.Scanned) same = spent steps.Scanned same (λ e. cc)
      by (Ok steps.Swept) same = spent steps.Swept same (λ e. cc)
      by (Ok (steps.Condemned ids)) same = spent (steps.Condemned ids) same (λ e. cc)
      by (Ok steps.Began) same = spent steps.Began same (λ e. cc)
      by (Ok steps.Finished) same = spent steps.Finished same (λ e. cc)
      by (Err fault) same = tt

  -- nothing is left to do once all that were called for are finished
  idle : result ≡ Ok steps.Idle → (is_some new.stop ≡ false) × (new.collections.finished ≡ new.collections.called)
  idle same =
      let due = rw same at did.due in
      let stays = rw same at did.counted in
      (ap is_some (goes steps.Idle same), ap (λ (c : Collections). c.finished) stays ∙ due.1 ∙ sym (ap (λ (c : Collections). c.called) stays))

  -- memory is wanted where a collection would begin
  ran_on : (fault : CollectFault) → result ≡ Err fault → ((moment : ℕ) → fault ≡ faults.Stopped moment → ⊥) → is_some old.stop ≡ false
  ran_on fault same other = at old.stop refl
    where
      at : (o : Option Stop) → old.stop ≡ o → is_some old.stop ≡ false
      at None is = ap is_some is
      at (Some stop) is = absurd (other stop.moment (cc (same, (did.stopped stop is).1)))

  pub ends : EndsCollecting stopped (tally_of g) old new result
  ends = by result refl
    where
      by : (r : Result Step CollectFault) → result ≡ r → EndsCollecting stopped (tally_of g) old new r
      by (Ok steps.Idle) same = idle same
      by (Err faults.Memory) same = let due = did.wants same in (ran_on faults.Memory same (λ m e. cc e), due.0, due.1)
      by r same = tt
