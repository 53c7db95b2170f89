-- A turn raises the count of failed calls as its event tells.
use Rattle.std.proofs.Common.{◌≡◌, inl, inr, ℕ, ◌≤◌, Bool, true, false, cond, List, [], ◌∷◌, ◌++◌, Option, Some, None, Result, refl, sym, ap, ◌∙◌, subst, arith, ◌||◌, IsSome}
use Rattle.cfs_serve.proofs.Cited.{CountsFaults, CollectFault, Event, IsRun, ServerLog, Raises, Reply, Request, Rose, State, Step, Tally, Terms, append-nil, count_after, event_by, fails, faults_after, first_fault, is_quiet_fault, list_any, recorded, tells_disk, tells_fault, tells_stop, tells_stop_at}
use Rattle.ufs_model.specs.declared.asked.Event.TheVariants as events
use Rattle.cfs_serve.proofs.Logs.{or_true}
use Rattle.cfs_serve.proofs.Stepping.{nobodys, silent}

same_event : (a b : Event) → Some a ≡ Some b → b ≡ a
same_event a b is = cc is

-- ---- one turn

module _ {A : Type 0} (faults : A → ℕ) (stands : A → State → Type 0) (t : Terms A) (old new : ServerLog A) where
  -- with an event that tells nothing
  pub never_raised : (e : Event) → new.events ≡ old.events ++ e ∷ [] → faults old.server ≤ faults new.server → tells_disk e ≡ false → tells_stop e ≡ false → Raises faults stands t old new
  never_raised e made later disk stop = record {
    made = Some e;
    recorded = made;
    later = later;
    disk = λ x is tells. absurd (cc (subst (λ (y : Event). tells_disk y ≡ true) (same_event e x is) tells, disk));
    stops = λ x is tells begun graph at standing. absurd (cc (subst (λ (y : Event). tells_stop y ≡ true) (same_event e x is) tells, stop));
  }

  pub asked_raised : (who : ℕ) (request : Request) (reply : Reply) → new.events ≡ old.events ++ events.Ask who request reply ∷ [] → faults old.server ≤ faults new.server
      → (tells_disk (events.Ask who request reply) ≡ true → Rose (faults old.server) (faults new.server)) → Raises faults stands t old new
  asked_raised who request reply made later told = record {
    made = Some (events.Ask who request reply);
    recorded = made;
    later = later;
    disk = λ x is tells. told (subst (λ (e : Event). tells_disk e ≡ true) (same_event (events.Ask who request reply) x is) tells);
    stops = λ x is tells begun graph at standing. absurd (cc (subst (λ (e : Event). tells_stop e ≡ true) (same_event (events.Ask who request reply) x is) tells));
  }

module _ {A : Type 0} (stands : A → State → Type 0) (has_stopped is_damaged : A → Bool) (tally : A → Tally) (faults : A → ℕ) (t : Terms A) (old new : ServerLog A) where
  pub left_raised : (who : ℕ) (stopped : Option ℕ) → IsRun stands has_stopped is_damaged tally t old.server old.events → new.events ≡ old.events ++ events.Leave who stopped ∷ []
      → faults old.server ≤ faults new.server → ((s : State) → stands old.server s → IsSome stopped → Rose (faults old.server) (faults new.server)) → Raises faults stands t old new
  left_raised who stopped run made later halts = record {
    made = Some (events.Leave who stopped);
    recorded = made;
    later = later;
    disk = λ x is tells. absurd (cc (subst (λ (e : Event). tells_disk e ≡ true) (same_event (events.Leave who stopped) x is) tells));
    stops = λ x is tells begun graph at standing.
        let r = run begun graph at standing in
        halts r.last r.standing (some_moment stopped (subst (λ (e : Event). tells_stop e ≡ true) (same_event (events.Leave who stopped) x is) tells));
  }
    where
      some_moment : (o : Option ℕ) → tells_stop (events.Leave who o) ≡ true → IsSome o
      some_moment None tells = absurd (cc tells)
      some_moment (Some moment) tells = refl

  pub step_raised : (result : Result Step CollectFault) → IsRun stands has_stopped is_damaged tally t old.server old.events → new.events ≡ old.events ++ recorded (event_by result)
      → faults old.server ≤ faults new.server → (fails result ≡ true → Rose (faults old.server) (faults new.server))
      → ((s : State) → stands old.server s → tells_stop_at (event_by result) ≡ true → Rose (faults old.server) (faults new.server)) → Raises faults stands t old new
  step_raised result run made later told halts = record {
    made = event_by result;
    recorded = made;
    later = later;
    disk = λ x is tells. absurd (cc (sym tells ∙ silent x (nobodys result x is)));
    stops = λ x is tells begun graph at standing.
        let r = run begun graph at standing in
        halts r.last r.standing (ap tells_stop_at is ∙ tells);
  }

-- ---- the whole trail

module _ (counts : Event → Bool) where
  counted_push : (trail : List Event) (e : Event) (n : ℕ) → faults_after counts (trail ++ e ∷ []) n ≡ cond (counts e) (count_after (faults_after counts trail n)) (faults_after counts trail n)
  counted_push [] e n = refl
  counted_push (x ∷ trail) e n = counted_push trail e (cond (counts x) (count_after n) n)

  -- up to the last number of a u64 the count doesn't fall
  pub counted_least : (trail : List Event) (n m : ℕ) → count_after n ≤ m → count_after n ≤ faults_after counts trail m
  counted_least [] n m least = least
  counted_least (e ∷ trail) n m least = elim (counts e) as (λ b. count_after n ≤ faults_after counts trail (cond b (count_after m) m)) [
    | true ↦ counted_least trail n (count_after m) (omega (arith, least))
    | false ↦ counted_least trail n m least
  ]

  pub counted_some : (trail : List Event) (n : ℕ) → list_any counts trail ≡ true → count_after n ≤ faults_after counts trail n
  counted_some [] n some = absurd (cc some)
  counted_some (e ∷ trail) n some = elim (counts e) as (λ b. (b || list_any counts trail) ≡ true → count_after n ≤ faults_after counts trail (cond b (count_after n) n)) [
    | true ↦ λ yes. counted_least trail n (count_after n) (omega arith)
    | false ↦ λ later. counted_some trail n later
  ] some

  counted_more : (trail : List Event) (n : ℕ) → faults_after counts trail (count_after n) ≡ count_after (faults_after counts trail n)
  counted_more [] n = refl
  counted_more (e ∷ trail) n =
      elim (counts e) as (λ b. faults_after counts trail (cond b (count_after (count_after n)) (count_after n)) ≡ count_after (faults_after counts trail (cond b (count_after n) n))) [
        | true ↦ counted_more trail (count_after n)
        | false ↦ counted_more trail n
      ]

  counted_on : (trail : List Event) (made : Option Event) (n old new : ℕ) → faults_after counts trail n ≤ old → old ≤ new → ((e : Event) → made ≡ Some e → counts e ≡ true → Rose old new)
      → faults_after counts (trail ++ recorded made) n ≤ new
  counted_on trail None n old new was later rose = rw (append-nil trail) (omega (arith, was, later))
  counted_on trail (Some e) n old new was later rose = rw (counted_push trail e n) (by (counts e) refl)
    where
      by : (b : Bool) → counts e ≡ b → cond b (count_after (faults_after counts trail n)) (faults_after counts trail n) ≤ new
      by true is = let more = rose e refl is in omega (arith, was, more)
      by false is = omega (arith, was, later)

module _ {A : Type 0} (faults : A → ℕ) (stands : A → State → Type 0) (t : Terms A) (old new : ServerLog A) (raises : Raises faults stands t old new) where
  pub counted_turn : (first : ℕ → ℕ) → CountsFaults faults stands t first old.server old.events → CountsFaults faults stands t first new.server new.events
  counted_turn first was = rw raises.recorded (record {
    told = λ begun at. counted_on tells_disk old.events raises.made (first (faults begun)) (faults old.server) (faults new.server) (was.told begun at) raises.later raises.disk;
    stops = λ begun graph at standing.
        counted_on tells_fault old.events raises.made (first (faults begun)) (faults old.server) (faults new.server) (was.stops begun graph at standing) raises.later
        (λ e is counts. elim (or_true (tells_disk e) (tells_stop e) counts) [
          | inl disk ↦ raises.disk e is disk
          | inr stop ↦ raises.stops e is stop begun graph at standing
        ]);
  })

  -- a step of the collector, which may be refused
  pub counted_step : (refused : Option CollectFault) → CountsFaults faults stands t (first_fault None) old.server old.events
      → (is_quiet_fault refused ≡ true → Rose (faults old.server) (faults new.server) × (new.events ≡ old.events)) → CountsFaults faults stands t (first_fault refused) new.server new.events
  counted_step refused was quiet = by (is_quiet_fault refused) refl
    where
      by : (b : Bool) → is_quiet_fault refused ≡ b → CountsFaults faults stands t (λ n. cond b (count_after n) n) new.server new.events
      by true is =
          let two = quiet is in
          rw two.1 (record {
            told = λ begun at. let before = was.told begun at in rw (counted_more tells_disk old.events (faults begun)) (omega (arith, before, two.0));
            stops = λ begun graph at standing. let before = was.stops begun graph at standing in rw (counted_more tells_fault old.events (faults begun)) (omega (arith, before, two.0));
          })
      by false is = counted_turn (λ n. n) was
