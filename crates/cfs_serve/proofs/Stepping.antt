-- A step of the collector keeps what the logged server keeps.
use Rattle.std.proofs.Common.{◌≡◌, ℕ, ◌==◌, Bool, true, false, List, [], ◌++◌, Option, Some, None, Result, Ok, Err, refl, sym, ap, ◌∙◌, subst, ◌||◌}
use Rattle.cfs_serve.proofs.Cited.{CollectFault, Event, Graph, IsExactEvent, IsRun, Lasts, MayGoOn, MayMake, MayTally, State, Step, Tally, Terms, append-nil, event_by, is_of_session, is_quiet_fault, list_any, recorded, refusal_by, stamps, tells_disk, wants_memory}
use Rattle.cfs_core.specs.declared.collecting.CollectFault.TheVariants as faults
use Rattle.cfs_serve.specs.Calls.{SpendsStep, SpendsTurn, as_step}
use Rattle.cfs_serve.specs.Events.{is_no_step}
use Rattle.cfs_serve.specs.Logs.{is_progress_made, is_step}
use Rattle.cfs_serve.specs.declared.logged.CollectorTurn.{CollectorTurn}
use Rattle.cfs_serve.specs.declared.logged.CollectorTurn.TheVariants as progresses
use Rattle.cfs_core.specs.declared.collecting.Step.TheVariants as steps
use Rattle.ufs_model.specs.declared.asked.Event.TheVariants as events
use Rattle.cfs_serve.proofs.Logs.{any-push, lasts_on, lasts_rests, run_on, run_rests}
use Rattle.cfs_serve.proofs.Sessions.{test_refl}

some_event : (a b : Event) → Some a ≡ Some b → a ≡ b
some_event a b e = cc

-- it is an event of no session
pub nobodys : (result : Result Step CollectFault) (e : Event) → event_by result ≡ Some e → (k : ℕ) → is_of_session k e ≡ false
nobodys (Ok steps.Began) e is k = subst (λ x. is_of_session k x ≡ false) (some_event events.Began e is) refl
nobodys (Ok (steps.Condemned ids)) e is k = subst (λ x. is_of_session k x ≡ false) (some_event (events.Vanish ids) e is) refl
nobodys (Ok steps.Finished) e is k = subst (λ x. is_of_session k x ≡ false) (some_event events.Finished e is) refl
nobodys (Err (faults.Disk (Some moment))) e is k = subst (λ x. is_of_session k x ≡ false) (some_event (events.Halted moment) e is) refl
nobodys (Err (faults.Damaged damage moment)) e is k = subst (λ x. is_of_session k x ≡ false) (some_event (events.Halted moment) e is) refl
nobodys (Ok steps.Idle) e is k = absurd (cc is)
nobodys (Ok steps.Took) e is k = absurd (cc is)
nobodys (Ok steps.Scanned) e is k = absurd (cc is)
nobodys (Ok steps.Swept) e is k = absurd (cc is)
nobodys (Err faults.Memory) e is k = absurd (cc is)
nobodys (Err (faults.Disk None)) e is k = absurd (cc is)
nobodys (Err (faults.Stopped moment)) e is k = absurd (cc is)

-- one that was refused for a failed call without a doubt
pub quiet_made : (made : Result Step CollectFault) → is_quiet_fault (refusal_by made) ≡ true → made ≡ Err (faults.Disk None)
quiet_made (Err (faults.Disk None)) quiet = refl
quiet_made (Err (faults.Disk (Some moment))) quiet = absurd (cc quiet)
quiet_made (Err faults.Memory) quiet = absurd (cc quiet)
quiet_made (Err (faults.Damaged damage moment)) quiet = absurd (cc quiet)
quiet_made (Err (faults.Stopped moment)) quiet = absurd (cc quiet)
quiet_made (Ok step) quiet = absurd (cc quiet)

pub wanting_made : (made : Result Step CollectFault) → refusal_by made ≡ Some faults.Memory → made ≡ Err faults.Memory
wanting_made (Err fault) is = ap (λ (f : CollectFault). Err f) (the_fault fault is)
  where
    the_fault : (x : CollectFault) → Some x ≡ Some faults.Memory → x ≡ faults.Memory
    the_fault x e = cc e
wanting_made (Ok step) is = absurd (cc is)

never : (who : ℕ) → (who == who) ≡ false → ⊥
never who other = absurd (cc (other, test_refl who))

exact_nobody : (cylinders lost : ℕ) (s : State) (e : Event) → ((k : ℕ) → is_of_session k e ≡ false) → IsExactEvent cylinders lost s e
exact_nobody cylinders lost s (events.Ask who request reply) nobody = absurd (never who (nobody who))
exact_nobody cylinders lost s e nobody = tt

pub unwanting : (e : Event) → ((k : ℕ) → is_of_session k e ≡ false) → wants_memory e ≡ false
unwanting (events.Ask who request reply) nobody = absurd (never who (nobody who))
unwanting (events.Unread who why) nobody = absurd (never who (nobody who))
unwanting e nobody = refl

pub silent : (e : Event) → ((k : ℕ) → is_of_session k e ≡ false) → tells_disk e ≡ false
silent (events.Ask who request reply) nobody = absurd (never who (nobody who))
silent e nobody = refl

module _ (trail : List Event) where
  -- what sessions alone tell
  pub silent_step : (test : Event → Bool) → ((e : Event) → ((k : ℕ) → is_of_session k e ≡ false) → test e ≡ false) → (o : Option Event)
      → ((e : Event) → o ≡ Some e → (k : ℕ) → is_of_session k e ≡ false) → list_any test trail ≡ list_any test (trail ++ recorded o)
  silent_step test silent None nobody = ap (λ es. list_any test es) (sym (append-nil trail))
  silent_step test silent (Some e) nobody = sym (any-push test trail e ∙ ap (λ b. b || list_any test trail) (silent e (nobody e refl)))

  module _ {A : Type 0} (stands : A → State → Type 0) (has_stopped is_damaged : A → Bool) (tally : A → Tally) (t : Terms A) (old new : A) (was : IsRun stands has_stopped is_damaged tally t old trail)
      (o : Option Event) (nobody : (e : Event) → o ≡ Some e → (k : ℕ) → is_of_session k e ≡ false) where
    pub run_step : (has_stopped old ≡ true → has_stopped new ≡ true) → ((s : State) → stands old s → is_damaged old ≡ false → is_damaged new ≡ false)
        → ((s : State) → stands old s → MayMake (stands new) t.seed s o) → ((s : State) → stands old s → MayTally has_stopped tally t.seed old new s o)
        → IsRun stands has_stopped is_damaged tally t new (trail ++ recorded o)
    run_step stays sound makes tallies = by o nobody makes tallies
      where
        by : (x : Option Event) → ((e : Event) → x ≡ Some e → (k : ℕ) → is_of_session k e ≡ false) → ((s : State) → stands old s → MayMake (stands new) t.seed s x)
            → ((s : State) → stands old s → MayTally has_stopped tally t.seed old new s x) → IsRun stands has_stopped is_damaged tally t new (trail ++ recorded x)
        by None nobody makes tallies = subst (λ es. IsRun stands has_stopped is_damaged tally t new es) (sym (append-nil trail)) (run_rests stands has_stopped is_damaged tally t trail old new was stays sound makes tallies)
        by (Some e) nobody makes tallies =
            run_on stands has_stopped is_damaged tally t trail old new was stays sound e makes (λ s standing some lost least. exact_nobody t.cylinders lost s e (nobody e refl)) tallies

    pub lasts_step : (clock : A → ℕ) (lasts : A → ℕ → Graph → List Event → List ℕ → Type 0) (moments : List ℕ) → Lasts stands clock lasts t old trail moments → MayGoOn stands clock lasts t.seed old new o
        → Lasts stands clock lasts t new (trail ++ recorded o) (moments ++ stamps o (clock new))
    lasts_step clock lasts moments before goes = by o goes
      where
        by : (x : Option Event) → MayGoOn stands clock lasts t.seed old new x → Lasts stands clock lasts t new (trail ++ recorded x) (moments ++ stamps x (clock new))
        by None goes =
            subst (λ es. Lasts stands clock lasts t new es (moments ++ [])) (sym (append-nil trail))
            (subst (λ ms. Lasts stands clock lasts t new trail ms) (sym (append-nil moments)) (lasts_rests stands has_stopped is_damaged tally clock lasts t trail moments old new was before goes))
        by (Some e) goes = lasts_on stands has_stopped is_damaged tally clock lasts t trail moments old new e was before goes

-- a part that was made is no step
pub tidied_only : {A : Type 0} (progress : CollectorTurn) → is_progress_made progress ≡ true → progress ≡ progresses.Tidied → A
tidied_only progress made is = let no : false ≡ true = rw is at made in absurd (cc no)

-- a step leaves fewer, or none was made
pub spends_as : {A : Type 0} (unfinished : A → ℕ) (tally : A → Tally) (old new : A) (result : Result (Option Step) CollectFault) → (result ≡ Ok None → SpendsStep (tally old) (tally new) (as_step result)) → SpendsTurn unfinished tally old new result
    → SpendsStep (tally old) (tally new) (as_step result)
spends_as unfinished tally old new (Ok None) none spends = none refl
spends_as unfinished tally old new (Ok (Some step)) none spends = spends.0
spends_as unfinished tally old new (Err fault) none spends = tt

-- a refusal is recorded as a stop, if it is
halts_alone : (fault : CollectFault) (e : Event) → event_by (Err fault) ≡ Some e → is_no_step e ≡ true
halts_alone (faults.Disk (Some moment)) e is = subst (λ x. is_no_step x ≡ true) (some_event (events.Halted moment) e is) refl
halts_alone (faults.Damaged damage moment) e is = subst (λ x. is_no_step x ≡ true) (some_event (events.Halted moment) e is) refl
halts_alone faults.Memory e is = absurd (cc is)
halts_alone (faults.Disk None) e is = absurd (cc is)
halts_alone (faults.Stopped moment) e is = absurd (cc is)

pub stop_only : (progress : CollectorTurn) (made : Result (Option Step) CollectFault) → (progress ≡ progresses.Tidied → made ≡ Ok None) → ((fault : CollectFault) → progress ≡ progresses.Refused fault → made ≡ Err fault)
    → is_step progress ≡ false → (e : Event) → event_by (as_step made) ≡ Some e → is_no_step e ≡ true
stop_only progresses.Tidied made part refused is e there = absurd (cc (subst (λ x. event_by (as_step x) ≡ Some e) (part refl) there))
stop_only (progresses.Refused fault) made part refused is e there = halts_alone fault e (subst (λ x. event_by (as_step x) ≡ Some e) (refused fault refl) there)
stop_only progresses.Idle made part refused is e there = absurd (cc is)
stop_only progresses.Quiet made part refused is e there = absurd (cc is)
stop_only progresses.Recorded made part refused is e there = absurd (cc is)
stop_only progresses.Finished made part refused is e there = absurd (cc is)
