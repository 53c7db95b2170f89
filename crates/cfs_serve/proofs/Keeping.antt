-- What a logged server keeps whatever disk it is: how many collections began, and the moments of the events.
use Rattle.std.proofs.Common.{◌≡◌, ℕ, ◌+◌, ◌<◌, ◌≤◌, Bool, true, false, cond, List, [], ◌∷◌, ◌++◌, Option, Some, None, Result, refl, sym, ap, ◌∙◌, subst, arith}
use Rattle.cfs_serve.proofs.Cited.{AsBefore, CollectFault, Event, IsLogKept, IsTallied, IsWanting, MayCount, SessionPasses, PassesStep, MomentsRise, Step, Tally, Terms, append-nil, begins_in, begun_so_far, event_by, finishes_in, is_begin, is_finish, recorded, stamps, tells_stop_at}
use Rattle.ufs_model.specs.declared.asked.Event.TheVariants as events
use Rattle.cfs_serve.specs.Calls.{Counts}
use Rattle.cfs_serve.proofs.Logs.{push_in, push_out, some_same, was_running}

-- ---- the moments

rise_on : (first : ℕ) (moments : List ℕ) (last now : ℕ) → MomentsRise first moments last → last ≤ now → MomentsRise first (moments ++ now ∷ []) now
rise_on first [] last now rise later = (omega (arith, rise, later), omega arith)
rise_on first (m ∷ moments) last now rise later = (rise.0, rise_on m moments last now rise.1 later)

rise_more : (first : ℕ) (moments : List ℕ) (last now : ℕ) → MomentsRise first moments last → last ≤ now → MomentsRise first moments now
rise_more first [] last now rise later = omega (arith, rise, later)
rise_more first (m ∷ moments) last now rise later = (rise.0, rise_more m moments last now rise.1 later)

-- ---- collections are counted on

abbrev pub is_halt : Event → Bool
is_halt (events.Halted moment) = true
is_halt e = false

pub begun_same : (c d : Tally) → AsBefore c d → begun_so_far d ≡ begun_so_far c
begun_same c d same =
    let first : begun_so_far d ≡ c.finished + cond d.running 1 0 = ap (λ n. n + cond d.running 1 0) same.0 in
    let second : c.finished + cond d.running 1 0 ≡ begun_so_far c = ap (λ b. c.finished + cond b 1 0) same.1 in
    first ∙ second

pub same_tally : (e : Event) (c d : Tally) (trail : List Event) → is_begin e ≡ false → is_finish e ≡ false → AsBefore c d → IsTallied c trail → IsTallied d (trail ++ e ∷ [])
same_tally e c d trail begins finishes same was =
    (push_out is_begin trail e begins ∙ was.0 ∙ sym (begun_same c d same), push_out is_finish trail e finishes ∙ was.1 ∙ sym same.0)

pub tallied_on : (e : Event) (c d : Tally) (trail : List Event) → ¬ (is_halt e ≡ true) → Counts e c d → IsTallied c trail → IsTallied d (trail ++ e ∷ [])
tallied_on events.Began c d trail other to was =
    let before : begun_so_far c ≡ c.finished + 0 = ap (λ b. c.finished + cond b 1 0) to.1 in
    let after : begun_so_far d ≡ d.finished + 1 = ap (λ b. d.finished + cond b 1 0) to.3 in (
      omega (arith, push_in is_begin trail events.Began refl, was.0, before, after, to.2),
      push_out is_finish trail events.Began refl ∙ was.1 ∙ sym to.2,
    )
tallied_on events.Finished c d trail other to was =
    let before : begun_so_far c ≡ c.finished + 1 = ap (λ b. c.finished + cond b 1 0) to.0 in
    let after : begun_so_far d ≡ d.finished + 0 = ap (λ b. d.finished + cond b 1 0) to.2 in (
      omega (arith, push_out is_begin trail events.Finished refl, was.0, before, after, to.1),
      omega (arith, push_in is_finish trail events.Finished refl, was.1, to.1),
    )
tallied_on (events.Halted moment) c d trail other to was = absurd (other refl)
tallied_on (events.Vanish ids) c d trail other to was = same_tally (events.Vanish ids) c d trail refl refl to was
tallied_on (events.Unread who why) c d trail other to was = same_tally (events.Unread who why) c d trail refl refl to was
tallied_on (events.Leave who stopped) c d trail other to was = same_tally (events.Leave who stopped) c d trail refl refl to was
tallied_on (events.Ask who request reply) c d trail other to was = same_tally (events.Ask who request reply) c d trail refl refl to was

pub none_begun : (c : Tally) → (c.finished ≡ 0) × (c.running ≡ false) → begun_so_far c ≡ 0
none_begun c idle =
    let first : begun_so_far c ≡ 0 + cond c.running 1 0 = ap (λ n. n + cond c.running 1 0) idle.0 in
    let second : 0 + cond c.running 1 0 ≡ 0 + 0 = ap (λ b. 0 + cond b 1 0) idle.1 in
    omega (arith, first, second)

pub as_tallied : (c d : Tally) (trail : List Event) → AsBefore c d → IsTallied c trail → IsTallied d trail
as_tallied c d trail same now = (now.0 ∙ sym (begun_same c d same), now.1 ∙ sym same.0)

module _ {A : Type 0} (clock : A → ℕ) (has_stopped : A → Bool) (tally : A → Tally) (t : Terms A) (trail : List Event) (moments : List ℕ) where
  -- a server that runs, and for which nothing is left to do
  pub collected_at : (server : A) → IsLogKept clock has_stopped tally t server trail moments → has_stopped server ≡ false → (tally server).finished ≡ (tally server).called → finishes_in trail ≡ (tally server).called
  collected_at server kept runs all = (kept.tallied runs).1 ∙ all

  -- where no collection runs, and more were called for
  pub wanting_at : (server : A) → IsLogKept clock has_stopped tally t server trail moments → has_stopped server ≡ false → (tally server).running ≡ false
      → (tally server).finished < (tally server).called → IsWanting (tally server).called trail
  wanting_at server kept runs none more =
      let tallied = kept.tallied runs in
      let count : begun_so_far (tally server) ≡ (tally server).finished + 0 = ap (λ b. (tally server).finished + cond b 1 0) none in
      (omega (arith, tallied.0, tallied.1, count), omega (arith, tallied.1, more))

  module _ (old new : A) (was : IsLogKept clock has_stopped tally t old trail moments) (stays : has_stopped old ≡ true → has_stopped new ≡ true) (called : (tally new).called ≡ (tally old).called) where
    running : has_stopped new ≡ false → has_stopped old ≡ false
    running runs = was_running (has_stopped old) (has_stopped new) stays runs

    -- a session's call
    pub kept_on : SessionPasses clock tally old new → (e : Event) → is_begin e ≡ false → is_finish e ≡ false → IsLogKept clock has_stopped tally t new (trail ++ e ∷ []) (moments ++ clock new ∷ [])
    kept_on passes e begins finishes = record {
      few = omega (arith, push_out is_begin trail e begins, was.few, called);
      tallied = λ runs. same_tally e (tally old) (tally new) trail begins finishes passes.counts (was.tallied (running runs));
      rise = λ first at. rise_on (clock first) moments (clock old) (clock new) (was.rise first at) passes.later;
    }

    -- a step of the collector
    module _ (later : clock old ≤ clock new) where
      few_on : (e : Event) (c d : Tally) → begins_in trail ≤ c.called → (is_begin e ≡ true → IsTallied c trail) → Counts e c d → begins_in (trail ++ e ∷ []) ≤ c.called
      few_on events.Began c d few tallied to =
          let before : begun_so_far c ≡ c.finished + 0 = ap (λ b. c.finished + cond b 1 0) to.1 in
          omega (arith, push_in is_begin trail events.Began refl, (tallied refl).0, before, to.0)
      few_on events.Finished c d few tallied to = omega (arith, push_out is_begin trail events.Finished refl, few)
      few_on (events.Halted moment) c d few tallied to = omega (arith, push_out is_begin trail (events.Halted moment) refl, few)
      few_on (events.Vanish ids) c d few tallied to = omega (arith, push_out is_begin trail (events.Vanish ids) refl, few)
      few_on (events.Unread who why) c d few tallied to = omega (arith, push_out is_begin trail (events.Unread who why) refl, few)
      few_on (events.Leave who stopped) c d few tallied to = omega (arith, push_out is_begin trail (events.Leave who stopped) refl, few)
      few_on (events.Ask who request reply) c d few tallied to = omega (arith, push_out is_begin trail (events.Ask who request reply) refl, few)

      begin_is : (e : Event) → is_begin e ≡ true → e ≡ events.Began
      begin_is events.Began is = refl
      begin_is events.Finished is = absurd (cc is)
      begin_is (events.Halted moment) is = absurd (cc is)
      begin_is (events.Vanish ids) is = absurd (cc is)
      begin_is (events.Unread who why) is = absurd (cc is)
      begin_is (events.Leave who stopped) is = absurd (cc is)
      begin_is (events.Ask who request reply) is = absurd (cc is)

      no_halt : (e : Event) → (tells_stop_at (Some e) ≡ true → has_stopped new ≡ true) → has_stopped new ≡ false → ¬ (is_halt e ≡ true)
      no_halt (events.Halted moment) stops runs is = absurd (cc (stops refl, runs))
      no_halt events.Began stops runs is = absurd (cc is)
      no_halt events.Finished stops runs is = absurd (cc is)
      no_halt (events.Vanish ids) stops runs is = absurd (cc is)
      no_halt (events.Unread who why) stops runs is = absurd (cc is)
      no_halt (events.Leave who stopped) stops runs is = absurd (cc is)
      no_halt (events.Ask who request reply) stops runs is = absurd (cc is)

      by_event : (o : Option Event) → MayCount o (tally old) (tally new) → (tells_stop_at o ≡ true → has_stopped new ≡ true) → (o ≡ Some events.Began → has_stopped new ≡ false)
          → IsLogKept clock has_stopped tally t new (trail ++ recorded o) (moments ++ stamps o (clock new))
      by_event None counts stops begins =
          subst (λ es. IsLogKept clock has_stopped tally t new es (moments ++ [])) (sym (append-nil trail))
          (subst (λ ms. IsLogKept clock has_stopped tally t new trail ms) (sym (append-nil moments)) (record {
            few = omega (arith, was.few, called);
            tallied = λ runs. as_tallied (tally old) (tally new) trail counts (was.tallied (running runs));
            rise = λ first at. rise_more (clock first) moments (clock old) (clock new) (was.rise first at) later;
          }))
      by_event (Some e) counts stops begins = record {
        few = omega (arith, called, few_on e (tally old) (tally new) was.few (λ is. was.tallied (running (begins (ap Some (begin_is e is))))) counts);
        tallied = λ runs. tallied_on e (tally old) (tally new) trail (no_halt e stops runs) counts (was.tallied (running runs));
        rise = λ first at. rise_on (clock first) moments (clock old) (clock new) (was.rise first at) later;
      }

    pub kept_step : (made : Result Step CollectFault) → PassesStep clock has_stopped tally old new made
        → IsLogKept clock has_stopped tally t new (trail ++ recorded (event_by made)) (moments ++ stamps (event_by made) (clock new))
    kept_step made passes = by_event passes.later (event_by made) passes.counts passes.stops passes.begins

  -- one collection more is called for
  pub kept_called : (old new : A) → IsLogKept clock has_stopped tally t old trail moments → has_stopped new ≡ has_stopped old → clock new ≡ clock old
      → (tally new).called ≡ (tally old).called + 1 → AsBefore (tally old) (tally new) → IsLogKept clock has_stopped tally t new trail moments
  kept_called old new was stopped still called counts = record {
    few = omega (arith, was.few, called);
    tallied = λ runs. as_tallied (tally old) (tally new) trail counts (was.tallied (sym stopped ∙ runs));
    rise = λ first at. rise_more (clock first) moments (clock old) (clock new) (was.rise first at) (omega (arith, still));
  }

-- a line that is no request
pub unread_passes : {A : Type 0} (clock : A → ℕ) (tally : A → Tally) (server : A) → SessionPasses clock tally server server
unread_passes clock tally server = record { later = omega arith; counts = (refl, refl); steps = omega arith; events = omega arith }

-- as it begins
pub kept_begins : {A : Type 0} (clock : A → ℕ) (has_stopped : A → Bool) (tally : A → Tally) (t : Terms A) (server : A) → t.began ≡ Some server
    → ((tally server).finished ≡ 0) × ((tally server).running ≡ false) → IsLogKept clock has_stopped tally t server [] []
kept_begins clock has_stopped tally t server is idle = record {
  few = let none : begins_in [] ≡ 0 = refl in omega (arith, none);
  tallied = λ runs. (sym (none_begun (tally server) idle), sym idle.0);
  rise = λ first at. subst (λ a. clock first ≤ clock a) (some_same first server (sym at ∙ is)) (omega arith);
}
