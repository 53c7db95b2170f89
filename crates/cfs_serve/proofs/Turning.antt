-- A turn of a core's collector: a part of a commit, or a step.
use Rattle.std.proofs.Common.{◌≡◌, ℕ, ◌++◌, ◌∷◌, [], Bool, true, false, List, Option, Some, Result, Ok, Err, is_some, refl, ap, ◌∙◌}
use Rattle.cfs_serve.proofs.Cited.{CallKeeps, CollectFault, EndsCollecting, Event, Ghosts, Graph, Kernel, MayGoOn, MayMake, MayTally, PassesStep, Rose, RunSurvives, ServesIs, StandsFor, State, Step, Stop, Survived, TellsStep, TellsStop, end_in, event_by, sweeps_now, lost_blocks, option_and_then, recorded, refusal_by, replay, tally_of, tells_stop_at}
use Rattle.cyl_alloc.specs.Left.{parts_left}
use Rattle.cfs_serve.specs.Calls.{SpendsTurn, as_step}
use Rattle.cfs_serve.specs.Ending.{MakesStop}
use Rattle.cfs_serve.specs.Turns.{Stepped, TakesTurn, Tidied, step_made}
use Rattle.cfs_serve.proofs.Collecting as stepping
use Rattle.cfs_serve.proofs.Tidying as tidying

as_made : (r : Result Step CollectFault) → as_step (step_made r) ≡ r
as_made (Ok step) = refl
as_made (Err fault) = refl

module _ {D : Type 0} (g : Ghosts D) (old new : Kernel D) (result : Result (Option Step) CollectFault) where
  abbrev halted : Kernel D → Bool
  halted k = is_some k.stop

  abbrev damaged : Option Stop → Bool
  damaged o = is_some (option_and_then (λ (x : Stop). x.damage) o)

  abbrev unfinished : Kernel D → ℕ
  unfinished k = parts_left k.space.left

  pub made : TakesTurn g old new result → (s : State) → StandsFor g old s → MayMake (λ t. StandsFor g new t) old.words.seed s (event_by (as_step result))
  made (Tidied one is some did) s stands = rw is (tidying.made_so g old new one did s stands)
  made (Stepped one is none did) s stands = rw (is, as_made one) (stepping.made g old new one did s stands)

  module _ (event : (seed : ℕ) (graph : Graph) (trail : List Event) (marks : List ℕ) (s : State) (a b : D) → replay seed graph trail ≡ Some s → RunSurvives g seed graph trail marks a
      → (e : Event) → Survived g seed s e a b → RunSurvives g seed graph (trail ++ e ∷ []) (marks ++ g.moment b ∷ []) b)
      (none : (seed : ℕ) (graph : Graph) (trail : List Event) (marks : List ℕ) (s : State) (a b : D) → replay seed graph trail ≡ Some s → RunSurvives g seed graph trail marks a
      → CallKeeps g s a b → RunSurvives g seed graph trail marks b) where
    pub goes_on : TakesTurn g old new result
        → MayGoOn (λ k s. StandsFor g k s) (λ (k : Kernel D). g.moment k.disk) (λ k seed graph trail marks. RunSurvives g seed graph trail marks k.disk) old.words.seed old new (event_by (as_step result))
    goes_on (Tidied one is some did) = rw is (tidying.goes_on g old new one did event none)
    goes_on (Stepped one is left did) = rw (is, as_made one) (stepping.goes_on g old new one did event none)

  pub tells : TakesTurn g old new result → TellsStep (λ (k : Kernel D). g.faults k.disk) halted (λ (k : Kernel D). damaged k.stop) old new (as_step result)
  tells (Tidied one is some did) = rw is (tidying.tells g old new one did)
  tells (Stepped one is none did) = rw (is, as_made one) (stepping.tells g old new one did)

  pub stops : TakesTurn g old new result → MakesStop (λ (k : Kernel D). g.moment k.disk) (λ (k : Kernel D). k.stop) old new (recorded (event_by (as_step result)))
      × TellsStop (refusal_by (as_step result)) new.stop
  stops (Tidied one is some did) = rw is (tidying.stops g old new one did)
  stops (Stepped one is none did) = rw (is, as_made one) (stepping.stops g old new one did)

  pub undamaged : TakesTurn g old new result → (s : State) → StandsFor g old s → damaged old.stop ≡ false → damaged new.stop ≡ false
  undamaged (Tidied one is some did) s stands = tidying.undamaged g old new one did s stands
  undamaged (Stepped one is none did) s stands = stepping.undamaged g old new one did s stands

  pub halts : TakesTurn g old new result → (s : State) → StandsFor g old s → tells_stop_at (event_by (as_step result)) ≡ true → Rose (g.faults old.disk) (g.faults new.disk)
  halts (Tidied one is some did) s stands = rw is (tidying.halts g old new one did s stands)
  halts (Stepped one is none did) s stands = rw (is, as_made one) (stepping.halts g old new one did s stands)

  pub tallies : TakesTurn g old new result → ((s : State) → ServesIs g old s → sweeps_now s.collection ≡ false → lost_blocks (end_in g old) s.graph ≡ 0) → (s : State) → StandsFor g old s
      → MayTally halted (tally_of g) old.words.seed old new s (event_by (as_step result))
  tallies (Tidied one is some did) swept s stands = rw is (tidying.tallies g old new one did s stands)
  tallies (Stepped one is none did) swept s stands = rw (is, as_made one) (stepping.tallies g old new one did swept s stands)

  pub passes : TakesTurn g old new result → PassesStep (λ (k : Kernel D). g.moment k.disk) halted (tally_of g) old new (as_step result)
  passes (Tidied one is some did) = rw is (tidying.passes g old new one did)
  passes (Stepped one is none did) = rw (is, as_made one) (stepping.passes g old new one did)

  pub ends : TakesTurn g old new result → EndsCollecting halted (tally_of g) old new (as_step result)
  ends (Tidied one is some did) = rw is (tidying.ends g old new one did)
  ends (Stepped one is none did) = rw (is, as_made one) (stepping.ends g old new one did)

  pub spends : TakesTurn g old new result → SpendsTurn unfinished (tally_of g) old new result
  spends (Tidied one is some did) = rw is (tidying.spends g old new one did some)
  spends (Stepped (Ok step) is none did) = rw is (stepping.spends g old new (Ok step) did, ap parts_left none, ap parts_left (did.left ∙ none))
  spends (Stepped (Err fault) is none did) = rw is tt

  pub size : TakesTurn g old new result → g.blocks new.disk ≡ g.blocks old.disk
  size (Tidied one is some did) = did.calls.same.size
  size (Stepped one is none did) = did.calls.same.size

  pub called : TakesTurn g old new result → (tally_of g new).called ≡ (tally_of g old).called
  called (Tidied one is some did) = tidying.called g old new one did
  called (Stepped one is none did) = did.called

  pub seed : TakesTurn g old new result → new.words.seed ≡ old.words.seed
  seed (Tidied one is some did) = tidying.seed g old new one did
  seed (Stepped one is none did) = ap (λ w. w.seed) did.words

  pub drawn : TakesTurn g old new result → new.words.drawn ≡ old.words.drawn
  drawn (Tidied one is some did) = tidying.drawn g old new one did
  drawn (Stepped one is none did) = ap (λ w. w.drawn) did.words
