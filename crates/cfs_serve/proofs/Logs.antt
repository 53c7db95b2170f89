-- A call keeps the run.
use Rattle.std.proofs.Common.{◌≡◌, ◌⊎◌, inl, inr, ℕ, ◌+◌, ◌<◌, ◌≤◌, Bool, true, false, cond, List, [], ◌∷◌, ◌++◌, length, filter, Option, Some, None, refl, sym, ap, ◌∙◌, subst, arith, ◌||◌}
use Rattle.cfs_serve.proofs.Cited.{AreExact, Event, CrashesGoOn, Graph, IsExactEvent, IsRun, IsTold, Lasts, MakesServed, MayGoOn, ServerRests, Rose, State, Tallies, Tally, TellsEvent, TellsSo, Terms, Told, Unread, append-nil, is_calm, is_calm_step, list_all, list_all-append, list_any, lost_by, lost_in, next, opening, option_and_then, option_map_or, recorded, replay_from, replay_from-push, tells_disk}
use Rattle.ufs_model.specs.declared.asked.Event.TheVariants as events

-- ---- lists with one event more

pub any-push : (test : Event → Bool) (trail : List Event) (e : Event) → list_any test (trail ++ e ∷ []) ≡ (test e || list_any test trail)
any-push test [] e = refl
any-push test (x ∷ trail) e = ap (λ b. test x || b) (any-push test trail e) ∙ swapped (test x) (test e) (list_any test trail)
  where
    swapped : (a b c : Bool) → (a || (b || c)) ≡ (b || (a || c))
    swapped true true c = refl
    swapped true false c = refl
    swapped false b c = refl

pub all-push : {A : Type 0} (test : A → Bool) (trail : List A) (e : A) → list_all test trail ≡ true → test e ≡ true → list_all test (trail ++ e ∷ []) ≡ true
all-push test trail e all one = rw (list_all-append test trail (e ∷ []), all, one) refl

pub some_same : {A : Type 0} (a b : A) → Some a ≡ Some b → a ≡ b
some_same a b e = cc

-- how many pass a test
count_push : (test : Event → Bool) (trail : List Event) (e : Event) → length (filter test (trail ++ e ∷ [])) ≡ length (filter test trail) + cond (test e) 1 0
count_push test [] e = elim (test e) as (λ b. length (cond b (e ∷ []) []) ≡ 0 + cond b 1 0) [ true ↦ refl | false ↦ refl ]
count_push test (x ∷ trail) e =
    let rest = count_push test trail e in
    elim (test x) as (λ b. length (cond b (x ∷ filter test (trail ++ e ∷ [])) (filter test (trail ++ e ∷ []))) ≡ length (cond b (x ∷ filter test trail) (filter test trail)) + cond (test e) 1 0) [
      | true ↦ omega (arith, rest)
      | false ↦ rest
    ]

pub push_in : (test : Event → Bool) (trail : List Event) (e : Event) → test e ≡ true → length (filter test (trail ++ e ∷ [])) ≡ length (filter test trail) + 1
push_in test trail e is = count_push test trail e ∙ ap (λ b. length (filter test trail) + cond b 1 0) is

pub push_out : (test : Event → Bool) (trail : List Event) (e : Event) → test e ≡ false → length (filter test (trail ++ e ∷ [])) ≡ length (filter test trail)
push_out test trail e is =
    let more : length (filter test (trail ++ e ∷ [])) ≡ length (filter test trail) + 0 = count_push test trail e ∙ ap (λ b. length (filter test trail) + cond b 1 0) is in
    omega (arith, more)

-- ---- the blocks of what is gone

module _ (seed : ℕ) where
  lost_step : (lost : ℕ) (s t : State) (e : Event) (trail : List Event) → next seed s e ≡ Some t → lost_in seed lost s (e ∷ trail) ≡ lost_in seed (lost_by e s t lost) t trail
  lost_step lost s t e trail step = ap (λ o. option_map_or (λ u. lost_in seed (lost_by e s u lost) u trail) o 0) step

  lost_push : (lost : ℕ) (s last t : State) (trail : List Event) (e : Event) → replay_from seed s trail ≡ Some last → next seed last e ≡ Some t
      → lost_in seed lost s (trail ++ e ∷ []) ≡ lost_by e last t (lost_in seed lost s trail)
  lost_push lost s last t [] e legal step =
      let same : s ≡ last = some_same s last legal in
      lost_step lost s t e [] (ap (λ u. next seed u e) same ∙ step) ∙ ap (λ u. lost_by e u t lost) same
  lost_push lost s last t (x ∷ trail) e legal step = by_next (next seed s x) refl legal (λ u on. lost_push (lost_by x s u lost) u last t trail e on step)
    where
      by_next : (o : Option State) → next seed s x ≡ o → option_and_then (λ u. replay_from seed u trail) o ≡ Some last
          → ((u : State) → replay_from seed u trail ≡ Some last → lost_in seed (lost_by x s u lost) u (trail ++ e ∷ []) ≡ lost_by e last t (lost_in seed (lost_by x s u lost) u trail))
          → lost_in seed lost s (x ∷ (trail ++ e ∷ [])) ≡ lost_by e last t (lost_in seed lost s (x ∷ trail))
      by_next None is on rest = absurd (cc on)
      by_next (Some u) is on rest = lost_step lost s u x (trail ++ e ∷ []) is ∙ rest u on ∙ ap (λ n. lost_by e last t n) (sym (lost_step lost s u x trail is))

lost_more : (e : Event) (s t : State) (m n : ℕ) → m ≤ n → lost_by e s t m ≤ lost_by e s t n
lost_more (events.Vanish ids) s t m n less = omega arith
lost_more e s t m n less = less

-- one answer more, from the state in which the others end
pub exact_on : (cylinders seed lost : ℕ) (s last : State) (trail : List Event) (e : Event) → replay_from seed s trail ≡ Some last → AreExact cylinders seed lost s trail
    → IsExactEvent cylinders (lost_in seed lost s trail) last e → AreExact cylinders seed lost s (trail ++ e ∷ [])
exact_on cylinders seed lost s last [] e legal all one = (subst (λ t. IsExactEvent cylinders lost t e) (sym (some_same s last legal)) one, λ t step. tt)
exact_on cylinders seed lost s last (x ∷ trail) e legal all one = (
  all.0,
  λ t step.
      exact_on cylinders seed (lost_by x s t lost) t last trail e (sym (ap (λ o. option_and_then (λ u. replay_from seed u trail) o) step) ∙ legal) (all.1 t step)
      (subst (λ n. IsExactEvent cylinders n last e) (lost_step seed lost s t x trail step) one),
)

-- ---- the run

pub was_running : (a b : Bool) → (a ≡ true → b ≡ true) → b ≡ false → a ≡ false
was_running true b stays is = absurd (cc (stays refl, is))
was_running false b stays is = refl

module _ {A : Type 0} (stands : A → State → Type 0) (has_stopped is_damaged : A → Bool) (tally : A → Tally) (t : Terms A) (trail : List Event) (old new : A)
    (was : IsRun stands has_stopped is_damaged tally t old trail) (stays : has_stopped old ≡ true → has_stopped new ≡ true) (sound : (s : State) → stands old s → is_damaged old ≡ false → is_damaged new ≡ false) where
  -- by one event, from each state that the server stood for
  pub run_on : (e : Event) → ((s : State) → stands old s → MakesServed (stands new) t.seed s e)
      → ((s : State) → stands old s → 0 < t.cylinders → (lost : ℕ) → (has_stopped old ≡ false → (tally old).lost s.graph ≤ lost) → IsExactEvent t.cylinders lost s e)
      → ((s : State) → stands old s → Tallies has_stopped tally t.seed old new s e) → IsRun stands has_stopped is_damaged tally t new (trail ++ e ∷ [])
  run_on e makes exact tallies = λ begun graph is began.
      let run = was begun graph is began in
      let call = makes run.last run.standing in
      let counted = tallies run.last run.standing in
      record {
        last = call.after;
        legal = replay_from-push t.seed (opening graph) trail e ∙ ap (option_and_then (λ u. next t.seed u e)) run.legal ∙ call.step;
        standing = call.standing;
        exact = λ some. exact_on t.cylinders t.seed 0 (opening graph) run.last trail e run.legal (run.exact some) (exact run.last run.standing some (lost_in t.seed 0 (opening graph) trail) run.lost);
        undamaged = λ none. sound run.last run.standing (run.undamaged none);
        lost = λ runs.
            let less = lost_more e run.last call.after ((tally old).lost run.last.graph) (lost_in t.seed 0 (opening graph) trail) (run.lost (running runs)) in
            omega (arith, counted.lost runs call.after call.step, less, lost_push t.seed 0 (opening graph) run.last call.after trail e run.legal call.step);
      }
    where
      running : has_stopped new ≡ false → has_stopped old ≡ false
      running runs = was_running (has_stopped old) (has_stopped new) stays runs

  -- and by a call that makes none
  pub run_rests : ((s : State) → stands old s → stands new s) → ((s : State) → stands old s → ServerRests has_stopped tally old new s) → IsRun stands has_stopped is_damaged tally t new trail
  run_rests on rests = λ begun graph is began.
      let run = was begun graph is began in
      let rest = rests run.last run.standing in
      record {
        last = run.last;
        legal = run.legal;
        standing = on run.last run.standing;
        exact = run.exact;
        undamaged = λ none. sound run.last run.standing (run.undamaged none);
        lost = λ runs. omega (arith, rest.lost runs, run.lost (was_running (has_stopped old) (has_stopped new) stays runs));
      }

pub or_true : (a b : Bool) → (a || b) ≡ true → (a ≡ true) ⊎ (b ≡ true)
or_true true b is = inl refl
or_true false b is = inr is

pub or_false : (a b : Bool) → (a || b) ≡ false → (a ≡ false) × (b ≡ false)
or_false true b is = absurd (cc is)
or_false false b is = (refl, is)

-- what the trail tells of the disk, by one call more
module _ {A : Type 0} (faults : A → ℕ) (has_stopped is_damaged : A → Bool) (t : Terms A) (trail : List Event) (old new : A)
    (was : IsTold faults has_stopped is_damaged t old trail) where
  halts_on : (begun : A) (fault calms : Bool) → Told faults has_stopped is_damaged begun old trail
      → TellsSo faults has_stopped is_damaged old new fault calms
      → has_stopped new ≡ true → is_damaged new ≡ false → Rose (faults begun) (faults new)
  halts_on begun fault calms before one stopped sound = elim (one.halts stopped sound) [
    | inl earlier ↦ let rose = before.halts earlier.0 earlier.1 in omega (arith, rose, one.later)
    | inr here ↦ omega (arith, here, before.later)
  ]

  told_by : (e : Event) (fault : Bool) → (tells_disk e ≡ false → fault ≡ false)
      → TellsSo faults has_stopped is_damaged old new fault (is_calm e) → IsTold faults has_stopped is_damaged t new (trail ++ e ∷ [])
  told_by e fault silent one = record {
    since = λ begun is.
        let before = was.since begun is in
        record {
          later = omega (arith, before.later, one.later);
          calm = λ runs none.
              let two = or_false (tells_disk e) (list_any tells_disk trail) (sym (any-push tells_disk trail e) ∙ none) in
              let earlier = before.calm (was_running (has_stopped old) (has_stopped new) one.stays runs) two.1 in
              all-push is_calm trail e earlier (one.calm runs (silent two.0));
          halts = halts_on begun fault (is_calm e) before one;
        };
  }

  pub told_on : (e : Event) → TellsEvent faults has_stopped is_damaged old new e → IsTold faults has_stopped is_damaged t new (trail ++ e ∷ [])
  told_on e one = told_by e (tells_disk e) (λ silent. silent) one

  -- by a call that makes none
  pub told_rests : TellsSo faults has_stopped is_damaged old new false true → IsTold faults has_stopped is_damaged t new trail
  told_rests one = record {
    since = λ begun is.
        let before = was.since begun is in
        record {
          later = omega (arith, before.later, one.later);
          calm = λ runs none. before.calm (was_running (has_stopped old) (has_stopped new) one.stays runs) none;
          halts = halts_on begun false true before one;
        };
  }

  -- by a step of the collector
  pub told_step : (o : Option Event) → TellsSo faults has_stopped is_damaged old new false (is_calm_step o)
      → IsTold faults has_stopped is_damaged t new (trail ++ recorded o)
  told_step (Some e) one = told_by e false (λ silent. refl) one
  told_step None one = subst (IsTold faults has_stopped is_damaged t new) (sym (append-nil trail)) (told_rests one)

-- a call that changes nothing of what is told
pub tells_same : {A : Type 0} (faults : A → ℕ) (has_stopped is_damaged : A → Bool) (old new : A) → faults new ≡ faults old → has_stopped new ≡ has_stopped old → is_damaged new ≡ is_damaged old
    → TellsSo faults has_stopped is_damaged old new false true
tells_same faults has_stopped is_damaged old new count stopped damaged = record {
  later = omega (arith, count);
  told = λ is. absurd (cc is);
  stays = λ is. stopped ∙ is;
  calm = λ runs none. refl;
  halts = λ is sound. inl (sym stopped ∙ is, sym damaged ∙ sound);
}

pub unread_tells : {A : Type 0} (faults : A → ℕ) (has_stopped is_damaged : A → Bool) (server : A) (who : ℕ) (why : Unread) → TellsEvent faults has_stopped is_damaged server server (events.Unread who why)
unread_tells faults has_stopped is_damaged server who why = tells_same faults has_stopped is_damaged server server refl refl refl

-- what is known of crashes goes on by one event
pub lasts_on : {A : Type 0} (stands : A → State → Type 0) (has_stopped is_damaged : A → Bool) (tally : A → Tally) (clock : A → ℕ) (lasts : A → ℕ → Graph → List Event → List ℕ → Type 0)
    (t : Terms A) (trail : List Event) (moments : List ℕ) (old new : A) (e : Event) → IsRun stands has_stopped is_damaged tally t old trail
    → Lasts stands clock lasts t old trail moments → CrashesGoOn stands clock lasts t.seed old new e → Lasts stands clock lasts t new (trail ++ e ∷ []) (moments ++ clock new ∷ [])
lasts_on stands has_stopped is_damaged tally clock lasts t trail moments old new e run was goes = λ begun graph is began first.
    let r = run begun graph is began in
    goes graph trail (clock begun ∷ moments) r.last r.legal r.standing (was begun graph is began first)

-- and by a call that makes none
pub lasts_rests : {A : Type 0} (stands : A → State → Type 0) (has_stopped is_damaged : A → Bool) (tally : A → Tally) (clock : A → ℕ) (lasts : A → ℕ → Graph → List Event → List ℕ → Type 0)
    (t : Terms A) (trail : List Event) (moments : List ℕ) (old new : A) → IsRun stands has_stopped is_damaged tally t old trail
    → Lasts stands clock lasts t old trail moments → MayGoOn stands clock lasts t.seed old new None → Lasts stands clock lasts t new trail moments
lasts_rests stands has_stopped is_damaged tally clock lasts t trail moments old new run was goes = λ begun graph is began first.
    let r = run begun graph is began in
    goes graph trail (clock begun ∷ moments) r.last r.legal r.standing (was begun graph is began first)

-- a line that is no request changes nothing
pub unread_makes : {A : Type 0} (stands : A → State → Type 0) (seed : ℕ) (server : A) (who : ℕ) (why : Unread) (s : State) → stands server s
    → MakesServed (stands server) seed s (events.Unread who why)
unread_makes stands seed server who why s standing = record { after = s; step = refl; standing = standing }

pub unread_tallies : {A : Type 0} (has_stopped : A → Bool) (tally : A → Tally) (seed : ℕ) (server : A) (s : State) (who : ℕ) (why : Unread) → Tallies has_stopped tally seed server server s (events.Unread who why)
unread_tallies has_stopped tally seed server s who why = record {
  lost = λ runs t step. subst (λ (u : State). (tally server).lost u.graph ≤ (tally server).lost s.graph) (some_same s t step) (omega arith);
}

none_is : (n : ℕ) → n ≡ 0 → (m : ℕ) → n ≤ m
none_is n is m = omega (arith, is)

-- as it begins
pub begins : {A : Type 0} (stands : A → State → Type 0) (has_stopped is_damaged : A → Bool) (tally : A → Tally) (t : Terms A) (server : A) → t.began ≡ Some server
    → ((graph : Graph) → stands server (opening graph) → (tally server).lost graph ≡ 0)
    → IsRun stands has_stopped is_damaged tally t server []
begins stands has_stopped is_damaged tally t server is swept = λ begun graph at standing.
    let here = subst (λ a. stands a (opening graph)) (some_same begun server (sym at ∙ is)) standing in
    record {
      last = opening graph;
      legal = refl;
      standing = here;
      exact = λ some. tt;
      undamaged = λ none. subst (λ a. is_damaged a ≡ false) (some_same begun server (sym at ∙ is)) none;
      lost = λ runs. none_is ((tally server).lost graph) (swept graph here) 0;
    }

pub told_begins : {A : Type 0} (faults : A → ℕ) (has_stopped is_damaged : A → Bool) (t : Terms A) (server : A) → t.began ≡ Some server → has_stopped server ≡ false
    → IsTold faults has_stopped is_damaged t server []
told_begins faults has_stopped is_damaged t server is runs = record {
  since = λ begun at.
      subst (λ a. Told faults has_stopped is_damaged a server []) (some_same server begun (sym is ∙ at))
      (record { later = omega arith; calm = λ none no. refl; halts = λ stopped sound. absurd (cc (stopped, runs)) });
}

pub lasts_begins : {A : Type 0} (stands : A → State → Type 0) (clock : A → ℕ) (lasts : A → ℕ → Graph → List Event → List ℕ → Type 0) (t : Terms A) (server : A)
    → t.began ≡ Some server → Lasts stands clock lasts t server [] []
lasts_begins stands clock lasts t server is = λ begun graph at standing first.
    subst (λ a. lasts a t.seed graph [] (clock begun ∷ [])) (some_same begun server (sym at ∙ is)) first
