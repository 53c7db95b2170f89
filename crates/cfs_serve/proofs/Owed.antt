-- A reply that is owed is exact.
use Rattle.std.proofs.Common.{◌≡◌, ◌⊎◌, inl, inr, ℕ, ◌+◌, ◌<◌, ◌≤◌, Bool, true, false, ◌&&◌, Option, List, [], ◌∷◌, Some, None, refl, sym, ap, ◌∙◌, subst, arith, length, ◌||◌, is_some}
use Rattle.cfs_core.specs.Asked.{IsToldCause}
use Rattle.cfs_serve.specs.Ending.{IsStopTimed, IsStoppedReply, MakesStop, moment_in}
use Rattle.cfs_serve.proofs.Cited.{AreRescued, ByOutcome, ByRefusal, ByWant, Collecting, FitsRoom, FitsLine, Ghosts, Happens, Image, IsAsked, IsExact, IsOwed, IsPlainReply, IsRoom, IsShortContent, Kernel, Need, Owes, Puid, SessionPasses, Reply, Request, Rescue, Rose, ServesIs, Stands, StandsFor, State, Stop, StopsAmong, Tallies, TellsEvent, allowed_if, answered, append-nil, by_outcome, cases_lt, end_in, free_to_come, goes_through, is_calm, is_direct_delete, is_full, is_none, is_outcome, is_running, sweeps_now, lost_blocks, marks_in, need_of, option_and_then, option_to_list, outcome_of, outcome_plain, refusal_of, reserve, collection_runs, stopped_by, sweeps_in, tally_of, tells_disk, tells_outcome}
use Rattle.cfs_core.specs.Asked.{Asks}
use Rattle.cfs_core.specs.Left.{AddsNone, steps_ahead}
use Rattle.ufs_model.specs.declared.asked.Event.TheVariants as events
use Rattle.ufs_model.specs.declared.asked.Reply.TheVariants as replies
use Rattle.cfs_serve.proofs.Logs.{some_same}

-- ---- what is answered by its outcome, or is Full, wasn't refused

allowed : (b : Bool) (s t : State) → allowed_if b s ≡ Some t → b ≡ true
allowed true s t is = refl
allowed false s t is = absurd (cc)

left : (a b : Bool) → (a && b) ≡ true → a ≡ true
left true b is = refl
left false b is = absurd (cc)

right : (a b : Bool) → (a && b) ≡ true → b ≡ true
right true b is = is
right false b is = absurd (cc)

none_of : {A : Type 0} (o : Option A) → is_none o ≡ true → o ≡ None
none_of None is = refl
none_of (Some x) is = absurd (cc)

module _ (seed : ℕ) (s : State) (who : ℕ) (request : Request) (t : State) where
  through : goes_through s who request ≡ true → refusal_of s who request ≡ None
  through goes = none_of (refusal_of s who request) (right (is_running s) (is_none (refusal_of s who request)) goes)

  by_it : (reply : Reply) → by_outcome seed s who request reply ≡ Some t → refusal_of s who request ≡ None
  by_it reply is = through (left (goes_through s who request) _ (left _ _ (allowed (is_outcome seed s who request reply) _ t is)))

  pub outcome_goes : (reply : Reply) → tells_outcome reply ≡ true → answered seed s who request reply ≡ Some t → refusal_of s who request ≡ None
  outcome_goes replies.Done told is = by_it replies.Done is
  outcome_goes (replies.Id id) told is = by_it (replies.Id id) is
  outcome_goes (replies.Grant u) told is = by_it (replies.Grant u) is
  outcome_goes (replies.Number n) told is = by_it (replies.Number n) is
  outcome_goes (replies.Content bytes) told is = by_it (replies.Content bytes) is
  outcome_goes reply told is = absurd (cc told)

  pub full_goes : (need : Need) → answered seed s who request (replies.Full need) ≡ Some t → refusal_of s who request ≡ None
  full_goes need is = through (left (goes_through s who request) _ (left _ _ (left _ _ (allowed (is_full s who request need) s t is))))

-- ---- exact

plain_not_full : (need : Need) (reply : Reply) → reply ≡ replies.Full need → IsPlainReply reply → ⊥
plain_not_full need reply is plain = rw is at plain

module _ (seed : ℕ) (s : State) (who : ℕ) (request : Request) (image : Image) (cylinders free gone lost : ℕ) (room : IsRoom cylinders s (free + gone)) (least : gone ≤ lost)
    (calm : sweeps_now s.collection ≡ false → IsRoom cylinders s free) (plain : refusal_of s who request ≡ None → (b : ℕ) → IsPlainReply (outcome_of seed s who request b).0) where
  fits : FitsRoom cylinders lost s free
  fits = record { room = free + gone; is_room = room; most = omega arith; least = omega (arith, least); all = λ none. omega (arith, calm none, room) }

  owed_full : (need : Need) → refusal_of s who request ≡ None → IsOwed seed s who request image free (replies.Full need) → FitsRoom cylinders lost s need.free
  owed_full need none (ByRefusal is) = absurd (cc (none, is))
  owed_full need none (ByWant allowed short is) = let same : need.free ≡ free = ap free_of is in rw same fits
    where
      free_of : Reply → ℕ
      free_of (replies.Full n) = n.free
      free_of reply = 0
  owed_full need none (ByOutcome allowed done) = absurd (plain_not_full need (outcome_of seed s who request done.block).0 (sym done.reply_is) (plain allowed done.block))

  owed_done : (reply : Reply) → tells_outcome reply ≡ true → refusal_of s who request ≡ None → is_direct_delete request ≡ false → IsOwed seed s who request image free reply
      → need_of s who request + reserve ≤ free
  owed_done reply told none kept (ByRefusal is) = absurd (cc (none, is))
  owed_done reply told none kept (ByWant allowed short is) = absurd (not_full (rw is at told))
    where
      not_full : false ≡ true → ⊥
      not_full e = cc
  owed_done reply told none kept (ByOutcome allowed done) = not_less (need_of s who request + reserve) free (λ few. done.room (record { delete = kept; few = few }))
    where
      not_less : (a b : ℕ) → (b < a → ⊥) → a ≤ b
      not_less a b never = elim (cases_lt b a) [
        | inl less ↦ absurd (never less)
        | inr enough ↦ enough
      ]

  outcome_exact : (reply : Reply) (t : State) → tells_outcome reply ≡ true → ((n : Need) → reply ≡ replies.Full n → ⊥) → answered seed s who request reply ≡ Some t
      → IsOwed seed s who request image free reply → IsExact cylinders lost s who request reply
  outcome_exact reply t told other step owed = record {
    full = λ need is. absurd (other need is);
    done = λ _ kept n is.
        let enough = owed_done reply told (outcome_goes seed s who request t reply told step) kept owed in
        omega (arith, enough, is, room);
  }

  nothing_told : (reply : Reply) → ((n : Need) → reply ≡ replies.Full n → ⊥) → tells_outcome reply ≡ false → IsExact cylinders lost s who request reply
  nothing_told reply other untold = record { full = λ need is. absurd (other need is); done = λ told. absurd (cc (told, untold)) }

  pub exact : (reply : Reply) (t : State) → answered seed s who request reply ≡ Some t → Owes seed s who request image free reply → IsExact cylinders lost s who request reply
  exact (replies.Full need) t step owed = record {
    full = λ n is. let same : need ≡ n = cc is in subst (λ (m : Need). FitsRoom cylinders lost s m.free) same (owed_full need (full_goes seed s who request t need step) owed);
    done = λ told. absurd (cc told);
  }
  exact replies.Done t step owed = outcome_exact replies.Done t refl (λ n is. absurd (cc is)) step owed
  exact (replies.Id id) t step owed = outcome_exact (replies.Id id) t refl (λ n is. absurd (cc is)) step owed
  exact (replies.Grant u) t step owed = outcome_exact (replies.Grant u) t refl (λ n is. absurd (cc is)) step owed
  exact (replies.Number n) t step owed = outcome_exact (replies.Number n) t refl (λ m is. absurd (cc is)) step owed
  exact (replies.Content bytes) t step owed = outcome_exact (replies.Content bytes) t refl (λ n is. absurd (cc is)) step owed
  exact reply t step owed = nothing_told reply (λ n is. absurd (cc is)) refl

-- ---- of the core

pub no_some : {A : Type 0} (o : Option A) → is_some o ≡ false → o ≡ None
no_some None is = refl
no_some (Some x) is = absurd (cc is)

-- rescues and drafts that end leave a collection running, or not
pub rescued_runs : (a b : Option Collecting) (more : List Rescue) (over : List Puid) → AreRescued a b more over → collection_runs b ≡ collection_runs a
rescued_runs None None more over is = refl
rescued_runs (Some k) (Some l) more over is = ap (λ p. marks_in p || sweeps_in p) is.phase
rescued_runs None (Some l) more over is = absurd is
rescued_runs (Some k) None more over is = absurd is

module _ {D : Type 0} (g : Ghosts D) (old new : Kernel D) (who : ℕ) (request : Request) (reply : Reply) (asks : Asks g old new who request reply) where
  pub asked : (s : State) → StandsFor g old s → IsAsked (λ t. StandsFor g new t) old.words.seed s who request reply
  asked s stands =
      let e = asks.event s stands in
      record { after = e.after; step = e.step; standing = e.stands }

  pub exact_of : (s : State) (lost : ℕ) → (ServesIs g old s → IsRoom (length old.space.free) s (free_to_come g old + lost_blocks (end_in g old) s.graph))
      → (ServesIs g old s → sweeps_now s.collection ≡ false → IsRoom (length old.space.free) s (free_to_come g old))
      → (is_some old.stop ≡ false → lost_blocks (end_in g old) s.graph ≤ lost) → StandsFor g old s → IsExact (length old.space.free) lost s who request reply
  exact_of s lost room calm least stands = by_stop old.stop refl
    where
      by_stop : (o : Option Stop) → old.stop ≡ o → IsExact (length old.space.free) lost s who request reply
      by_stop None is =
          let serves = subst (Stands g old s) is stands in
          exact old.words.seed s who request (end_in g old) (length old.space.free) (free_to_come g old) (lost_blocks (end_in g old) s.graph) lost (room serves) (least (rw is refl)) (calm serves)
          (λ none b. outcome_plain old.words.seed s who request b serves.state none) reply (asks.event s stands).after (asks.event s stands).step (asks.owed is s stands)
      by_stop (Some stop) is = rw (asks.stopped stop is).1 (record { full = λ n same. absurd (cc same); done = λ told. absurd (cc told) })

  -- ---- what is told of the disk

  -- a core that stopped stays as it is
  stood : (stop : Stop) → old.stop ≡ Some stop → new ≡ old
  stood stop is = (asks.stopped stop is).0

  pub tells : TellsEvent (λ (k : Kernel D). g.faults k.disk) (λ (k : Kernel D). is_some k.stop) (λ (k : Kernel D). is_some (option_and_then (λ (x : Stop). x.damage) k.stop)) old new (events.Ask who request reply)
  tells = record {
    later = asks.faults;
    told = λ is. told_at reply refl is;
    stays = λ is. by_old old.stop refl is;
    calm = λ runs none. calm_at reply refl runs none;
    halts = λ stopped sound. halts_at old.stop refl stopped sound;
  }
    where
      by_old : (o : Option Stop) → old.stop ≡ o → is_some o ≡ true → is_some new.stop ≡ true
      by_old (Some stop) is some = rw (stood stop is, is) refl
      by_old None is some = absurd (cc some)

      told_in : (o : Option Stop) → old.stop ≡ o → (doubt : Option ℕ) → reply ≡ replies.Disk doubt → Rose (g.faults old.disk) (g.faults new.disk)
      told_in (Some stop) is doubt same = absurd (cc (same, (asks.stopped stop is).1))
      told_in None is None same = (rw same at asks.cause is).failed.cause
      told_in None is (Some moment) same = (rw same at asks.cause is).0.failed.cause

      told_at : (r : Reply) → reply ≡ r → tells_disk (events.Ask who request r) ≡ true → Rose (g.faults old.disk) (g.faults new.disk)
      told_at (replies.Disk doubt) same is = told_in old.stop refl doubt same
      told_at r same is = absurd (cc is)

      calm_in : (o : Option Stop) → old.stop ≡ o → (r : Reply) → reply ≡ r → is_some new.stop ≡ false → tells_disk (events.Ask who request r) ≡ false → is_calm (events.Ask who request r) ≡ true
      calm_in (Some stop) is r same runs none = absurd (cc (runs, by_old (Some stop) is refl))
      calm_in None is (replies.Disk doubt) same runs none = absurd (cc none)
      calm_in None is (replies.Damaged damage moment) same runs none = absurd (cc (runs, asks.stops is, same))
      calm_in None is (replies.Stopped moment) same runs none = absurd (rw same at asks.cause is)
      calm_in None is r same runs none = refl

      calm_at : (r : Reply) → reply ≡ r → is_some new.stop ≡ false → tells_disk (events.Ask who request reply) ≡ false → is_calm (events.Ask who request reply) ≡ true
      calm_at r same runs none = rw same (calm_in old.stop refl r same runs (rw same at none))

      damaged : Option Stop → Bool
      damaged o = is_some (option_and_then (λ (x : Stop). x.damage) o)

      halts_in : (r : Reply) → reply ≡ r → old.stop ≡ None → new.stop ≡ stopped_by r None → is_some new.stop ≡ true → damaged new.stop ≡ false → Rose (g.faults old.disk) (g.faults new.disk)
      halts_in (replies.Disk (Some moment)) same is so stopped sound = told_in None is (Some moment) same
      halts_in (replies.Damaged damage moment) same is so stopped sound = absurd (cc (rw so at sound))
      halts_in r same is so stopped sound = absurd (cc (rw so at stopped))

      halts_at : (o : Option Stop) → old.stop ≡ o → is_some new.stop ≡ true → damaged new.stop ≡ false
          → ((is_some old.stop ≡ true) × (damaged old.stop ≡ false)) ⊎ Rose (g.faults old.disk) (g.faults new.disk)
      halts_at (Some stop) is stopped sound = inl (rw (← stood stop is) (stopped, sound))
      halts_at None is stopped sound = inr (halts_in reply refl is (asks.stops is) stopped sound)

  -- why it stopped
  pub stops : MakesStop (λ (k : Kernel D). g.moment k.disk) (λ (k : Kernel D). k.stop) old new (events.Ask who request reply ∷ [])
  stops = record { among = among old.stop refl; after = (after old.stop refl, tt); timed = timed old.stop refl }
    where
      among : (o : Option Stop) → old.stop ≡ o → StopsAmong old.stop new.stop (events.Ask who request reply ∷ [])
      among None is = rw is (ap option_to_list (asks.stops is) ∙ sym (append-nil (option_to_list (stopped_by reply None))))
      among (Some stop) is =
          let stood = asks.stopped stop is in
          rw stood.1 (ap (λ (k : Kernel D). option_to_list k.stop) stood.0 ∙ sym (append-nil (option_to_list old.stop)))

      -- one that ran doesn't tell that it has stopped
      never : (r : Reply) → IsToldCause g old new request r → IsStoppedReply None (events.Ask who request r)
      never (replies.Stopped moment) cause = absurd cause
      never r cause = tt

      after : (o : Option Stop) → old.stop ≡ o → IsStoppedReply (moment_in old.stop) (events.Ask who request reply)
      after None is = subst (λ (o : Option Stop). IsStoppedReply (moment_in o) (events.Ask who request reply)) (sym is) (never reply (asks.cause is))
      after (Some stop) is = subst (λ r. IsStoppedReply (moment_in old.stop) (events.Ask who request r)) (sym (asks.stopped stop is).1) (ap moment_in is)

      -- one that stops does so at the last call, and makes none from then on
      at_last : (r : Reply) → IsToldCause g old new request r → IsStopTimed (stopped_by r None) (g.moment new.disk)
      at_last (replies.Disk None) cause = tt
      at_last (replies.Disk (Some moment)) cause = cause.1
      at_last (replies.Damaged damage moment) cause = cause.1
      at_last r cause = tt

      timed : (o : Option Stop) → old.stop ≡ o → IsStopTimed old.stop (g.moment old.disk) → IsStopTimed new.stop (g.moment new.disk)
      timed None is was = rw (asks.stops is) (at_last reply (asks.cause is))
      timed (Some stop) is was = rw (asks.stopped stop is).0 was

  -- what becomes of the collections
  pub tallied : (s : State) → StandsFor g old s → Tallies (λ (k : Kernel D). is_some k.stop) (tally_of g) old.words.seed old new s (events.Ask who request reply)
  tallied s stands = record {
    lost = λ runs t step.
        let here = asks.event s stands in
        subst (λ (u : State). lost_blocks (end_in g new) u.graph ≤ lost_blocks (end_in g old) s.graph) (some_same here.after t (sym here.step ∙ step)) (here.lost (no_some new.stop runs));
  }

  -- and of the clock
  pub passes : SessionPasses (λ (k : Kernel D). g.moment k.disk) (tally_of g) old new
  passes = record {
    later = asks.later;
    counts = (asks.finished, asks.waits.running);
    steps = subst (λ n. steps_ahead n new.collections ≤ steps_ahead (g.blocks old.disk) old.collections + 1) (sym asks.size) asks.waits.more;
    events = omega (arith, asks.waits.events);
  }

  -- no block of a disk that holds the store is found damaged
  pub undamaged : (s : State) → StandsFor g old s → is_some (option_and_then (λ (x : Stop). x.damage) old.stop) ≡ false → is_some (option_and_then (λ (x : Stop). x.damage) new.stop) ≡ false
  undamaged s stands before = at old.stop refl
    where
      by_reply : old.stop ≡ None → (r : Reply) → reply ≡ r → is_some (option_and_then (λ (x : Stop). x.damage) (stopped_by r None)) ≡ false
      by_reply is (replies.Damaged damage moment) same = absurd (rw same at asks.owed is s stands)
      by_reply is (replies.Disk None) same = refl
      by_reply is (replies.Disk (Some moment)) same = refl
      by_reply is r same = refl

      at : (o : Option Stop) → old.stop ≡ o → is_some (option_and_then (λ (x : Stop). x.damage) new.stop) ≡ false
      at None is = rw (asks.stops is) (by_reply is reply refl)
      at (Some stop) is = rw (stood stop is) before

pub short_fits : (reply : Reply) → IsShortContent reply → FitsLine reply
short_fits (replies.Content bytes) short = short
short_fits reply short = tt

-- ---- a session leaves

pub left_tallies : {D : Type 0} (g : Ghosts D) (old new : Kernel D) (who : ℕ) (stopped : Option ℕ) (s : State) → Happens g old new s (events.Leave who stopped)
    → Tallies (λ (k : Kernel D). is_some k.stop) (tally_of g) old.words.seed old new s (events.Leave who stopped)
left_tallies g old new who stopped s here = record {
  lost = λ runs t step.
      subst (λ (u : State). lost_blocks (end_in g new) u.graph ≤ lost_blocks (end_in g old) s.graph) (some_same here.after t (sym here.step ∙ step)) (here.lost (no_some new.stop runs));
}

pub left_passes : {D : Type 0} (g : Ghosts D) (old new : Kernel D) → new.collections.finished ≡ old.collections.finished → AddsNone (g.blocks old.disk) old.collections new.collections → g.blocks new.disk ≡ g.blocks old.disk → g.moment old.disk ≤ g.moment new.disk
    → SessionPasses (λ (k : Kernel D). g.moment k.disk) (tally_of g) old new
left_passes g old new finished waits size later = record {
  later = later;
  counts = (finished, waits.running);
  steps = subst (λ n. steps_ahead n new.collections ≤ steps_ahead (g.blocks old.disk) old.collections + 1) (sym size) (omega (arith, waits.no_more));
  events = omega (arith, waits.events);
}
