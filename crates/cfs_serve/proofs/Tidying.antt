-- A part of a commit, as a turn of the collector: a step that is no event.
use Rattle.std.proofs.Common.{◌≡◌, ◌⊎◌, inl, inr, ℕ, ◌<◌, Bool, true, false, List, [], ◌∷◌, ◌++◌, Option, Some, None, Result, Ok, Err, IsSome, is_some, refl, sym, ap, ◌∙◌, subst, arith}
use Rattle.cfs_serve.specs.Ending.{AreStoppedReplies, IsStopTimed, MakesStop, moment_in}
use Rattle.cfs_serve.proofs.Cited.{AsBefore, CallKeeps, CollectFault, Collections, EndsCollecting, Event, Ghosts, Graph, Kernel, MayCount, MayGoOn, MayMake, MayTally, PassesStep, ServerRests, Rose, RunSurvives, StandsFor, State, Step, Stop, StopsAmong, Survived, TellsStep, TellsStop, append-nil, event_by, fails, is_calm_step, option_and_then, option_to_list, recorded, refusal_by, replay, tally_of, tells_stop_at}
use Rattle.cfs_core.specs.Kernel.{collection_runs}
use Rattle.cfs_core.specs.Left.{events_ahead, steps_ahead}
use Rattle.cfs_core.specs.Tidy.{IsTidyResult, TidiesVolume}
use Rattle.cfs_core.specs.declared.tidying.Tidy.{Tidy}
use Rattle.cfs_core.specs.declared.tidying.Tidy.TheVariants as tidies
use Rattle.cfs_core.specs.declared.tidying.TidyFault.{TidyFault}
use Rattle.cfs_core.specs.declared.tidying.TidyFault.TheVariants as faults
use Rattle.cyl_alloc.specs.Left.{LeftCommit, after_in, after_next, parts_left}
use Rattle.ufs_model.specs.declared.asked.Event.TheVariants as events
use Rattle.cfs_serve.specs.Calls.{SpendsTurn, as_step}
use Rattle.cfs_serve.specs.Turns.{part_made}

never : true ≡ false → ⊥
never e = cc

abbrev damaged : Option Stop → Bool
damaged o = is_some (option_and_then (λ (x : Stop). x.damage) o)

-- a part leaves fewer
parts_less : (l : LeftCommit) (copied : Bool) (rest : List ℕ) → l.copied ≡ copied → l.rest ≡ rest → parts_left (after_in l copied rest) < parts_left (Some l)
parts_less l false rest once same = rw once (omega arith)
parts_less l true [] once same = rw (once, same) (omega arith)
parts_less l true (n ∷ ns) once same = rw (once, same) (omega arith)

pub fewer_parts : (o : Option LeftCommit) → IsSome o → parts_left (after_next o) < parts_left o
fewer_parts None some = absurd (cc some)
fewer_parts (Some l) some = parts_less l l.copied l.rest refl refl

module _ {D : Type 0} (g : Ghosts D) (old new : Kernel D) (made : Result Tidy TidyFault) (did : TidiesVolume g old new made) where
  -- what is told of it, as of a step
  abbrev told : Result Tidy TidyFault → Result Step CollectFault
  told r = as_step (part_made r)

  stood : (stop : Stop) → old.stop ≡ Some stop → new ≡ old
  stood stop is = (did.stopped stop is).0

  -- ---- the event

  pub made_so : (s : State) → StandsFor g old s → MayMake (λ t. StandsFor g new t) old.words.seed s (event_by (told made))
  made_so s stands = by made (did.event s stands)
    where
      by : (r : Result Tidy TidyFault) → IsTidyResult g old new s r → MayMake (λ t. StandsFor g new t) old.words.seed s (event_by (told r))
      by (Ok tidy) is = is.stands
      by (Err (faults.Disk None)) is = is.stands
      by (Err (faults.Disk (Some moment))) is = record { after = is.after; step = is.step; standing = is.stands }
      by (Err (faults.Damaged damage moment)) is = record { after = is.after; step = is.step; standing = is.stands }
      by (Err (faults.Stopped moment)) is = subst (λ (k : Kernel D). StandsFor g k s) (sym is) stands

  -- ---- what a crash leaves

  module _ (event : (seed : ℕ) (graph : Graph) (trail : List Event) (marks : List ℕ) (s : State) (a b : D) → replay seed graph trail ≡ Some s → RunSurvives g seed graph trail marks a
      → (e : Event) → Survived g seed s e a b → RunSurvives g seed graph (trail ++ e ∷ []) (marks ++ g.moment b ∷ []) b)
      (none : (seed : ℕ) (graph : Graph) (trail : List Event) (marks : List ℕ) (s : State) (a b : D) → replay seed graph trail ≡ Some s → RunSurvives g seed graph trail marks a
      → CallKeeps g s a b → RunSurvives g seed graph trail marks b) where
    abbrev GoesOnBy : Option Event → Type 0
    GoesOnBy o = MayGoOn (λ k s. StandsFor g k s) (λ (k : Kernel D). g.moment k.disk) (λ k seed graph trail marks. RunSurvives g seed graph trail marks k.disk) old.words.seed old new o

    pub goes_on : GoesOnBy (event_by (told made))
    goes_on = by made did.event
      where
        by : (r : Result Tidy TidyFault) → ((s : State) → StandsFor g old s → IsTidyResult g old new s r) → GoesOnBy (event_by (told r))
        by (Ok tidy) is = λ graph trail marks s legal stands run. none old.words.seed graph trail marks s old.disk new.disk legal run (is s stands).keeps
        by (Err (faults.Disk None)) is = λ graph trail marks s legal stands run. none old.words.seed graph trail marks s old.disk new.disk legal run (is s stands).keeps
        by (Err (faults.Disk (Some moment))) is = λ graph trail marks s legal stands run. event old.words.seed graph trail marks s old.disk new.disk legal run (events.Halted moment) (is s stands).survives
        by (Err (faults.Damaged damage moment)) is = λ graph trail marks s legal stands run. event old.words.seed graph trail marks s old.disk new.disk legal run (events.Halted moment) (is s stands).survives
        by (Err (faults.Stopped moment)) is = λ graph trail marks s legal stands run. subst (λ (k : Kernel D). RunSurvives g old.words.seed graph trail marks k.disk) (sym (is s stands)) run

  -- ---- what is told of the disk

  stays : is_some old.stop ≡ true → is_some new.stop ≡ true
  stays some = at old.stop refl some
    where
      at : (o : Option Stop) → old.stop ≡ o → is_some o ≡ true → is_some new.stop ≡ true
      at (Some stop) is some = rw (stood stop is, is) refl
      at None is some = absurd (cc some)

  pub tells : TellsStep (λ (k : Kernel D). g.faults k.disk) (λ (k : Kernel D). is_some k.stop) (λ (k : Kernel D). damaged k.stop) old new (told made)
  tells = (
    record {
      later = did.calls.faults;
      told = λ is. absurd (cc is);
      stays = stays;
      calm = λ runs none. calm_at made refl runs;
      halts = λ halted sound. halts_at old.stop refl halted sound;
    },
    told_at made refl,
  )
    where
      told_at : (r : Result Tidy TidyFault) → made ≡ r → fails (told r) ≡ true → Rose (g.faults old.disk) (g.faults new.disk)
      told_at (Err (faults.Disk None)) same is = (rw same at did.cause).failed.cause
      told_at (Err (faults.Disk (Some moment))) same is = (rw same at did.cause).0.failed.cause
      told_at (Err (faults.Damaged damage moment)) same is = absurd (cc is)
      told_at (Err (faults.Stopped moment)) same is = absurd (cc is)
      told_at (Ok tidy) same is = absurd (cc is)

      calm_at : (r : Result Tidy TidyFault) → made ≡ r → is_some new.stop ≡ false → is_calm_step (event_by (told r)) ≡ true
      calm_at (Ok tidy) same runs = refl
      calm_at (Err (faults.Disk None)) same runs = refl
      calm_at (Err (faults.Disk (Some moment))) same runs = absurd (never (sym (ap is_some (rw same at did.stops)) ∙ runs))
      calm_at (Err (faults.Damaged damage moment)) same runs = absurd (never (sym (ap is_some (rw same at did.stops)) ∙ runs))
      calm_at (Err (faults.Stopped moment)) same runs = refl

      halts_in : (r : Result Tidy TidyFault) → made ≡ r → old.stop ≡ None → is_some new.stop ≡ true → damaged new.stop ≡ false → Rose (g.faults old.disk) (g.faults new.disk)
      halts_in (Ok tidy) same is halted sound = absurd (never (sym halted ∙ ap is_some ((rw same at did.goes_on) ∙ is)))
      halts_in (Err (faults.Disk None)) same is halted sound = absurd (never (sym halted ∙ ap is_some ((rw same at did.stops) ∙ is)))
      halts_in (Err (faults.Disk (Some moment))) same is halted sound = told_at (Err (faults.Disk (Some moment))) same refl
      halts_in (Err (faults.Damaged damage moment)) same is halted sound = absurd (never (sym (ap damaged (rw same at did.stops)) ∙ sound))
      halts_in (Err (faults.Stopped moment)) same is halted sound = absurd (never (sym halted ∙ ap is_some ((rw same at did.stops) ∙ is)))

      halts_at : (o : Option Stop) → old.stop ≡ o → is_some new.stop ≡ true → damaged new.stop ≡ false
          → ((is_some old.stop ≡ true) × (damaged old.stop ≡ false)) ⊎ Rose (g.faults old.disk) (g.faults new.disk)
      halts_at (Some stop) is halted sound = inl (rw (← stood stop is) (halted, sound))
      halts_at None is halted sound = inr (halts_in made refl is halted sound)

  pub undamaged : (s : State) → StandsFor g old s → damaged old.stop ≡ false → damaged new.stop ≡ false
  undamaged s stands before = at old.stop refl
    where
      by : old.stop ≡ None → (r : Result Tidy TidyFault) → made ≡ r → damaged new.stop ≡ false
      by is (Ok tidy) same = ap damaged (rw same at did.goes_on) ∙ before
      by is (Err (faults.Damaged damage moment)) same = absurd (rw same at did.sound is s stands)
      by is (Err (faults.Disk None)) same = ap damaged (rw same at did.stops) ∙ before
      by is (Err (faults.Disk (Some moment))) same = ap damaged (rw same at did.stops)
      by is (Err (faults.Stopped moment)) same = ap damaged (rw same at did.stops) ∙ before

      at : (o : Option Stop) → old.stop ≡ o → damaged new.stop ≡ false
      at None is = by is made refl
      at (Some stop) is = rw (stood stop is) before

  -- it stops where a call failed
  pub halts : (s : State) → StandsFor g old s → tells_stop_at (event_by (told made)) ≡ true → Rose (g.faults old.disk) (g.faults new.disk)
  halts s stands stops = by made refl stops
    where
      running : old.stop ≡ None → (r : Result Tidy TidyFault) → made ≡ r → tells_stop_at (event_by (told r)) ≡ true → Rose (g.faults old.disk) (g.faults new.disk)
      running none (Err (faults.Disk (Some moment))) same is = (rw same at did.cause).0.failed.cause
      running none (Err (faults.Damaged damage moment)) same is = absurd (rw same at did.sound none s stands)
      running none (Err (faults.Disk None)) same is = absurd (cc is)
      running none (Err (faults.Stopped moment)) same is = absurd (cc is)
      running none (Ok tidy) same is = absurd (cc is)

      by : (r : Result Tidy TidyFault) → made ≡ r → tells_stop_at (event_by (told r)) ≡ true → Rose (g.faults old.disk) (g.faults new.disk)
      by r same is = at old.stop refl
        where
          at : (o : Option Stop) → old.stop ≡ o → Rose (g.faults old.disk) (g.faults new.disk)
          at None none = running none r same is
          at (Some stop) there = absurd (cc (subst (λ x. tells_stop_at (event_by (told x)) ≡ true) (sym same ∙ (did.stopped stop there).1) is))

  -- ---- why it stopped

  pub stops : MakesStop (λ (k : Kernel D). g.moment k.disk) (λ (k : Kernel D). k.stop) old new (recorded (event_by (told made))) × TellsStop (refusal_by (told made)) new.stop
  stops = (record { among = (by made refl).0; after = silent made; timed = timed old.stop refl }, (by made refl).1)
    where
      -- no reply is among its events
      silent : (r : Result Tidy TidyFault) → AreStoppedReplies (moment_in old.stop) (recorded (event_by (told r)))
      silent (Ok tidy) = tt
      silent (Err (faults.Disk None)) = tt
      silent (Err (faults.Stopped moment)) = tt
      silent (Err (faults.Disk (Some moment))) = (tt, tt)
      silent (Err (faults.Damaged damage moment)) = (tt, tt)

      timed : (o : Option Stop) → old.stop ≡ o → IsStopTimed old.stop (g.moment old.disk) → IsStopTimed new.stop (g.moment new.disk)
      timed None is was = at_last made refl
        where
          at_last : (r : Result Tidy TidyFault) → made ≡ r → IsStopTimed new.stop (g.moment new.disk)
          at_last (Ok tidy) same = rw (rw same at did.goes_on, is) tt
          at_last (Err (faults.Disk None)) same = rw (rw same at did.stops, is) tt
          at_last (Err (faults.Stopped moment)) same = rw (rw same at did.stops, is) tt
          at_last (Err (faults.Disk (Some moment))) same = rw (rw same at did.stops) (rw same at did.cause).1
          at_last (Err (faults.Damaged damage moment)) same = rw (rw same at did.stops) (rw same at did.cause).1
      timed (Some stop) is was = rw (did.stopped stop is).0 was

      Told : Result Tidy TidyFault → Type 0
      Told r = StopsAmong old.stop new.stop (recorded (event_by (told r))) × TellsStop (refusal_by (told r)) new.stop

      still : new.stop ≡ old.stop → StopsAmong old.stop new.stop []
      still same = ap option_to_list same ∙ sym (append-nil (option_to_list old.stop))

      -- one that stopped in it ran before
      ran_before : (fault : TidyFault) → made ≡ Err fault → ((moment : ℕ) → fault ≡ faults.Stopped moment → ⊥) → old.stop ≡ None
      ran_before fault same other = at old.stop refl
        where
          at : (o : Option Stop) → old.stop ≡ o → old.stop ≡ None
          at None is = is
          at (Some stop) is = absurd (other stop.moment (cc (same, (did.stopped stop is).1)))

      by : (r : Result Tidy TidyFault) → made ≡ r → Told r
      by (Ok tidy) same = (still (rw same at did.goes_on), tt)
      by (Err (faults.Disk None)) same = (still (rw same at did.stops), tt)
      by (Err (faults.Stopped moment)) same = (still (rw same at did.stops), tt)
      by (Err (faults.Disk (Some moment))) same =
          let is : new.stop ≡ Some (record { moment = moment; damage = None }) = rw same at did.stops in
          (rw (ran_before (faults.Disk (Some moment)) same (λ m e. cc e), is) refl, is)
      by (Err (faults.Damaged damage moment)) same =
          let is : new.stop ≡ Some (record { moment = moment; damage = Some damage }) = rw same at did.stops in
          (rw (ran_before (faults.Damaged damage moment) same (λ m e. cc e), is) refl, is)

  -- ---- the collections are as they were

  called_same : new.collections ≡ old.collections
  called_same = ap (λ (k : Kernel D). k.collections) did.same

  pub called : (tally_of g new).called ≡ (tally_of g old).called
  called = ap (λ (c : Collections). c.called) called_same

  pub seed : new.words.seed ≡ old.words.seed
  seed = ap (λ (k : Kernel D). k.words.seed) did.same

  pub drawn : new.words.drawn ≡ old.words.drawn
  drawn = ap (λ (k : Kernel D). k.words.drawn) did.same

  as_before : AsBefore (tally_of g old) (tally_of g new)
  as_before = (ap (λ (c : Collections). c.finished) called_same, ap (λ (c : Collections). collection_runs c.collector) called_same)

  pub passes : PassesStep (λ (k : Kernel D). g.moment k.disk) (λ (k : Kernel D). is_some k.stop) (tally_of g) old new (told made)
  passes = record {
    later = did.calls.later;
    counts = counts made;
    stops = λ tells. stops_at made refl tells;
    begins = λ is. begins_at made is;
  }
    where
      counts : (r : Result Tidy TidyFault) → MayCount (event_by (told r)) (tally_of g old) (tally_of g new)
      counts (Ok tidy) = as_before
      counts (Err (faults.Disk None)) = as_before
      counts (Err (faults.Disk (Some moment))) = tt
      counts (Err (faults.Damaged damage moment)) = tt
      counts (Err (faults.Stopped moment)) = as_before

      stops_at : (r : Result Tidy TidyFault) → made ≡ r → tells_stop_at (event_by (told r)) ≡ true → is_some new.stop ≡ true
      stops_at (Err (faults.Disk (Some moment))) same tells = ap is_some (rw same at did.stops)
      stops_at (Err (faults.Damaged damage moment)) same tells = ap is_some (rw same at did.stops)
      stops_at (Err (faults.Disk None)) same tells = absurd (cc tells)
      stops_at (Err (faults.Stopped moment)) same tells = absurd (cc tells)
      stops_at (Ok tidy) same tells = absurd (cc tells)

      begins_at : (r : Result Tidy TidyFault) → event_by (told r) ≡ Some events.Began → is_some new.stop ≡ false
      begins_at (Ok tidy) is = absurd (cc is)
      begins_at (Err (faults.Disk None)) is = absurd (cc is)
      begins_at (Err (faults.Disk (Some moment))) is = absurd (cc is)
      begins_at (Err (faults.Damaged damage moment)) is = absurd (cc is)
      begins_at (Err (faults.Stopped moment)) is = absurd (cc is)

  pub spends : IsSome old.space.left → SpendsTurn (λ (k : Kernel D). parts_left k.space.left) (tally_of g) old new (part_made made)
  spends some = by made refl
    where
      part : (tidy : Tidy) → made ≡ Ok tidy → parts_left new.space.left < parts_left old.space.left
      part tidies.Idle same = let none : old.space.left ≡ None = (rw same at did.part).0 in absurd (cc (rw none at some))
      part tidies.Step same = let after = (rw same at did.part).1 in subst (λ o. parts_left o < parts_left old.space.left) (sym after) (fewer_parts old.space.left some)

      by : (r : Result Tidy TidyFault) → made ≡ r → SpendsTurn (λ (k : Kernel D). parts_left k.space.left) (tally_of g) old new (part_made r)
      by (Ok tidy) same = (
        part tidy same,
        ap (λ n. steps_ahead n new.collections) did.calls.same.size ∙ ap (λ c. steps_ahead (g.blocks old.disk) c) called_same,
        ap events_ahead called_same,
      )
      by (Err fault) same = tt

  abbrev TalliesBy : State → Option Event → Type 0
  TalliesBy s o = MayTally (λ (k : Kernel D). is_some k.stop) (tally_of g) old.words.seed old new s o

  pub tallies : (s : State) → StandsFor g old s → TalliesBy s (event_by (told made))
  tallies s stands = by made refl
    where
      event : (r : Result Tidy TidyFault) → made ≡ r → IsTidyResult g old new s r
      event r same = subst (λ x. IsTidyResult g old new s x) same (did.event s stands)

      by : (r : Result Tidy TidyFault) → made ≡ r → TalliesBy s (event_by (told r))
      by (Ok tidy) same = record { lost = λ runs. (event (Ok tidy) same).lost }
      by (Err (faults.Disk None)) same = record { lost = λ runs. (event (Err (faults.Disk None)) same).lost }
      by (Err (faults.Disk (Some moment))) same = record { lost = λ runs. absurd (never (sym (ap is_some (rw same at did.stops)) ∙ runs)) }
      by (Err (faults.Damaged damage moment)) same = record { lost = λ runs. absurd (never (sym (ap is_some (rw same at did.stops)) ∙ runs)) }
      by (Err (faults.Stopped moment)) same = subst (λ (k : Kernel D). ServerRests (λ (x : Kernel D). is_some x.stop) (tally_of g) old k s) (sym (event (Err (faults.Stopped moment)) same)) (record { lost = λ runs. omega arith })

  pub ends : EndsCollecting (λ (k : Kernel D). is_some k.stop) (tally_of g) old new (told made)
  ends = by made
    where
      by : (r : Result Tidy TidyFault) → EndsCollecting (λ (k : Kernel D). is_some k.stop) (tally_of g) old new (told r)
      by (Ok tidy) = tt
      by (Err (faults.Disk doubt)) = tt
      by (Err (faults.Damaged damage moment)) = tt
      by (Err (faults.Stopped moment)) = tt
