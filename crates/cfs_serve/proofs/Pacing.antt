-- What a conversation keeps by a turn of its collector, by a call for a collection and by an event of its session.
use Rattle.std.proofs.Common.{◌≡◌, ◌⊎◌, inl, inr, ℕ, zero, suc, ◌+◌, ◌-◌, ◌*◌, ◌<◌, ◌≤◌, ◌==◌, Bool, true, false, cond, List, [], ◌∷◌, ◌++◌, length, Option, Some, None, Result, Ok, Err, refl, sym, ap, ◌∙◌, subst, arith, append_assoc, length-append}
use Rattle.std.proofs.Math.Nat.{div-le_self}
use Rattle.std.proofs.lemmas.Nat.{le-div}
use Rattle.cfs_base.specs.Outside.{Rose}
use Rattle.cfs_core.specs.declared.collecting.CollectFault.TheVariants as faults
use Rattle.cfs_core.specs.declared.collecting.Step.TheVariants as steps
use Rattle.ufs_model.specs.declared.asked.Event.TheVariants as events
use Rattle.cfs_serve.specs.Calls.{CallsOne, as_step}
use Rattle.cfs_serve.specs.Limits.{most_lines}
use Rattle.cfs_serve.specs.Logs.{CountsTurn, StaysStopped, finishes, is_finished, is_step, refusal_in}
use Rattle.cfs_serve.specs.Talk.{most_calls}
use Rattle.cfs_serve.specs.Talking.{CallsNext, CollectsLast, HasBegunAll, KeepsPace, KeepsTalk, MakesTurns, MovesBeside, Talking, called_in, collector_ahead, due_after, events_to_make, work_left, work_of}
use Rattle.cfs_serve.specs.declared.logged.CollectorTurn.TheVariants as progresses
use Rattle.cfs_serve.specs.declared.server.Server as servers
use Rattle.cfs_serve.specs.declared.talk.Pace.{Pace}
use Rattle.cfs_serve.proofs.Cited.{AsBefore, CollectFault, CollectorTurn, CountsFaults, Departs, Event, IsWanting, LogSteps, MayCount, PortReading, Raises, ServerLog, SessionPasses, SpendsOne, Step, Tally, TellsStop, Terms, Turned, append-nil, begun_so_far, event_by, events_of_session, finishes_in, first_fault, is_no_step, is_of_session, is_progress_made, is_quiet_fault, is_recorded, list_all, recorded, refusal_by}
use Rattle.cfs_serve.proofs.Keeping.{as_tallied, begun_same, same_tally, tallied_on}
use Rattle.cfs_serve.proofs.Logs.{all-push}
use Rattle.cfs_serve.proofs.Raising.{counted_step, counted_turn}
use Rattle.cfs_serve.proofs.Sessions.{filter_out, no_end, of_session, test_apart, wanting_by}
use Rattle.cfs_serve.proofs.Stopping.{tells_on}
use Rattle.cfs_serve.proofs.Workers.{one_at_most}

-- ---- a turn counts the collections on

module _ (c d : Tally) (trail : List Event) where
  no_more : (progress : CollectorTurn) → d.finished ≡ c.finished → false ≡ is_finished progress → d.finished ≡ c.finished + cond (is_finished progress) 1 0
  no_more progress same over =
      let none : c.finished + 0 ≡ c.finished + cond (is_finished progress) 1 0 = ap (λ b. c.finished + cond b 1 0) over in
      omega (arith, same, none)

  counts_none : (progress : CollectorTurn) → AsBefore c d → false ≡ is_finished progress → CountsTurn c d trail (trail ++ []) progress
  counts_none progress same over = record {
    tallied = λ was. rw (append-nil trail) (as_tallied c d trail same was);
    begun = λ few. omega (arith, few, begun_same c d same);
    finished = no_more progress same.0 over;
  }

  pub counts_turn : (made : Result (Option Step) CollectFault) (progress : CollectorTurn) (now : List Event) → now ≡ trail ++ recorded (event_by (as_step made)) → refusal_by (as_step made) ≡ None
      → MayCount (event_by (as_step made)) c d → finishes (event_by (as_step made)) ≡ is_finished progress → CountsTurn c d trail now progress
  counts_turn (Ok None) progress now is none counts fin = rw is (counts_none progress counts fin)
  counts_turn (Ok (Some steps.Idle)) progress now is none counts fin = rw is (counts_none progress counts fin)
  counts_turn (Ok (Some steps.Took)) progress now is none counts fin = rw is (counts_none progress counts fin)
  counts_turn (Ok (Some steps.Scanned)) progress now is none counts fin = rw is (counts_none progress counts fin)
  counts_turn (Ok (Some steps.Swept)) progress now is none counts fin = rw is (counts_none progress counts fin)
  counts_turn (Ok (Some steps.Began)) progress now is none counts fin = rw is (record {
    tallied = tallied_on events.Began c d trail (λ halt. absurd (cc halt)) counts;
    begun = λ few.
        let after : begun_so_far d ≡ d.finished + 1 = ap (λ b. d.finished + cond b 1 0) counts.3 in
        omega (arith, counts.0, counts.2, after);
    finished = no_more progress counts.2 fin;
  })
  counts_turn (Ok (Some (steps.Condemned ids))) progress now is none counts fin = rw is (record {
    tallied = tallied_on (events.Vanish ids) c d trail (λ halt. absurd (cc halt)) counts;
    begun = λ few. omega (arith, few, begun_same c d counts);
    finished = no_more progress counts.0 fin;
  })
  counts_turn (Ok (Some steps.Finished)) progress now is none counts fin = rw is (record {
    tallied = tallied_on events.Finished c d trail (λ halt. absurd (cc halt)) counts;
    begun = λ few.
        let before : begun_so_far c ≡ c.finished + 1 = ap (λ b. c.finished + cond b 1 0) counts.0 in
        let after : begun_so_far d ≡ d.finished + 0 = ap (λ b. d.finished + cond b 1 0) counts.2 in
        omega (arith, few, before, after, counts.1);
    finished = (let one : c.finished + 1 ≡ c.finished + cond (is_finished progress) 1 0 = ap (λ b. c.finished + cond b 1 0) fin in omega (arith, counts.1, one));
  })
  counts_turn (Err fault) progress now is none counts fin = absurd (cc none)

-- ---- how many may be called for

pub few_calls : (every : ℕ) → most_calls every ≤ most_lines + 1
few_calls zero = omega arith
few_calls (suc n) = omega (arith, div-le_self most_lines (suc n))

pub one_call : (every calls : ℕ) → 0 < every → calls * every ≤ most_lines → calls < most_calls every
one_call zero calls some fits = absurd (omega (arith, some))
one_call (suc n) calls some fits = omega (arith, le-div calls most_lines (suc n) some fits)

-- ---- what is left to do

pub on_if : (refused : Option CollectFault) (due : Bool) (steps parts : ℕ) → 0 < work_left refused due steps parts → refused ≡ None
on_if None due steps parts some = refl
on_if (Some fault) due steps parts some = absurd (omega (arith, some))

due_if : (refused : Option CollectFault) (due : Bool) (steps parts : ℕ) → 0 < work_left refused due steps parts → parts ≡ 0 → due ≡ true
due_if None true steps parts some none = refl
due_if None false steps parts some none = absurd (omega (arith, some, none))
due_if (Some fault) due steps parts some none = absurd (omega (arith, some))

-- where nothing is left no collection is due, and no part of a commit is left
pub done_if : (due : Bool) (steps parts : ℕ) → work_left None due steps parts ≡ 0 → (due ≡ false) × (parts ≡ 0)
done_if true steps parts none = absurd (omega (arith, none))
done_if false steps parts none = (refl, none)

ahead_less : (refused : Option CollectFault) (m n calls : ℕ) → m ≤ n → collector_ahead refused m calls ≤ collector_ahead refused n calls
ahead_less None m n calls less = omega (arith, less)
ahead_less (Some fault) m n calls less = omega arith

-- ---- a turn of the collector

-- what a turn leaves: fewer events ahead by those that it made
spent : (progress : CollectorTurn) (event : Option Event) (c d : Tally) (calls : ℕ) → (is_recorded progress ≡ false → event ≡ None) → (is_progress_made progress ≡ true → SpendsOne c d (is_recorded progress))
    → (progress ≡ progresses.Tidied → d.events ≡ c.events) → ¬ (progress ≡ progresses.Idle) → collector_ahead (refusal_in progress) d.events calls + length (recorded event) ≤ collector_ahead None c.events calls
spent progresses.Tidied event c d calls none spends tidied idle = rw (none refl) (omega (arith, tidied refl))
spent progresses.Idle event c d calls none spends tidied idle = absurd (idle refl)
spent progresses.Quiet event c d calls none spends tidied idle = rw (none refl) (let one = spends refl in omega (arith, one.1))
spent progresses.Recorded event c d calls none spends tidied idle = let one = spends refl in omega (arith, one.1, one_at_most event)
spent progresses.Finished event c d calls none spends tidied idle = let one = spends refl in omega (arith, one.1, one_at_most event)
spent (progresses.Refused fault) event c d calls none spends tidied idle = omega (arith, one_at_most event)

lowered : (progress : CollectorTurn) (due : Bool) (c d : Tally) (parts left : ℕ) → 0 < work_left None due c.steps parts → (is_step progress ≡ true → (parts ≡ 0) × (left ≡ 0))
    → (is_progress_made progress ≡ true → SpendsOne c d (is_recorded progress)) → (progress ≡ progresses.Tidied → (left < parts) × (d.steps ≡ c.steps)) → ¬ (progress ≡ progresses.Idle)
    → work_left (refusal_in progress) (due_after due progress) d.steps left < work_left None due c.steps parts
lowered progresses.Tidied true c d parts left some settled spends tidied idle = let part = tidied refl in omega (arith, part.0, part.1)
lowered progresses.Tidied false c d parts left some settled spends tidied idle = let part = tidied refl in omega (arith, part.0)
lowered progresses.Idle due c d parts left some settled spends tidied idle = absurd (idle refl)
lowered progresses.Quiet true c d parts left some settled spends tidied idle = let two = settled refl in let one = spends refl in omega (arith, two.0, two.1, one.0)
lowered progresses.Quiet false c d parts left some settled spends tidied idle = let two = settled refl in absurd (omega (arith, some, two.0))
lowered progresses.Recorded true c d parts left some settled spends tidied idle = let two = settled refl in let one = spends refl in omega (arith, two.0, two.1, one.0)
lowered progresses.Recorded false c d parts left some settled spends tidied idle = let two = settled refl in absurd (omega (arith, some, two.0))
lowered progresses.Finished due c d parts left some settled spends tidied idle = let two = settled refl in omega (arith, some, two.1)
lowered (progresses.Refused fault) due c d parts left some settled spends tidied idle = some

due_on : (progress : CollectorTurn) (due : Bool) (finished called now : ℕ) → (is_step progress ≡ true → due ≡ true) → refusal_in progress ≡ None → finished + cond due 1 0 ≡ called
    → now ≡ finished + cond (is_finished progress) 1 0 → now + cond (due_after due progress) 1 0 ≡ called
due_on progresses.Tidied due finished called now acts none was is = omega (arith, was, is)
due_on progresses.Idle due finished called now acts none was is = omega (arith, was, is)
due_on progresses.Quiet due finished called now acts none was is = omega (arith, was, is)
due_on progresses.Recorded due finished called now acts none was is = omega (arith, was, is)
due_on progresses.Finished due finished called now acts none was is =
    let one : finished + cond due 1 0 ≡ finished + 1 = ap (λ b. finished + cond b 1 0) (acts refl) in
    omega (arith, was, is, one)
due_on (progresses.Refused fault) due finished called now acts none was is = absurd (cc none)

quiet_on : (called : ℕ) (trail : List Event) (event : Option Event) → ((e : Event) → event ≡ Some e → is_no_step e ≡ true) → list_all is_no_step trail ≡ true → list_all is_no_step (trail ++ recorded event) ≡ true
quiet_on called trail None is all = rw (append-nil trail) all
quiet_on called trail (Some e) is all = all-push is_no_step trail e all (is e refl)

pub beside_by : (trail : List Event) (event : Option Event) → ((e : Event) → event ≡ Some e → (k : ℕ) → is_of_session k e ≡ false) → (k : ℕ) → events_of_session k (trail ++ recorded event) ≡ events_of_session k trail
beside_by trail None nobody k = ap (λ es. events_of_session k es) (append-nil trail)
beside_by trail (Some e) nobody k = filter_out (is_of_session k) trail e (nobody e refl k)

module _ {A : Type 0} (v : servers.Ghosts A) (t : Terms A) (old : Talking A) (log : ServerLog A) (progress : CollectorTurn) (kept : KeepsTalk v t old) (some : 0 < work_of v old)
    (steps : LogSteps v.clock old.logged log progress) (called : (v.tally log.server).called ≡ called_in v old) (idle : progress ≡ progresses.Idle → finishes_in log.events ≡ (v.tally log.server).called)
    (spends : is_progress_made progress ≡ true → SpendsOne (v.tally old.logged.server) (v.tally log.server) (is_recorded progress))
    (tidied : progress ≡ progresses.Tidied → (v.unfinished log.server < v.unfinished old.logged.server) × ((v.tally log.server).steps ≡ (v.tally old.logged.server).steps) × ((v.tally log.server).events ≡ (v.tally old.logged.server).events))
    (settled : is_step progress ≡ true → (v.unfinished old.logged.server ≡ 0) × (v.unfinished log.server ≡ 0)) where
  abbrev turned : Talking A
  turned = record {
    logged = log;
    port = old.port;
    pace = record old.pace { due = due_after old.pace.due progress };
    refused = refusal_in progress;
    lines = old.lines;
  }

  on : old.refused ≡ None
  on = on_if old.refused old.pace.due (v.tally old.logged.server).steps (v.unfinished old.logged.server) some

  acts : is_step progress ≡ true → old.pace.due ≡ true
  acts step = due_if old.refused old.pace.due (v.tally old.logged.server).steps (v.unfinished old.logged.server) some (settled step).0

  -- the collection that is due isn't finished, so that something is left to do
  no_idle : ¬ (progress ≡ progresses.Idle)
  no_idle is =
      let due : (v.tally old.logged.server).finished + cond old.pace.due 1 0 ≡ (v.tally old.logged.server).finished + 1 = ap (λ b. (v.tally old.logged.server).finished + cond b 1 0) (acts (rw is refl)) in
      let same : finishes_in log.events ≡ finishes_in old.logged.events = ap finishes_in (steps.events ∙ ap (λ o. old.logged.events ++ recorded o) (steps.none (rw is refl)) ∙ append-nil old.logged.events) in
      absurd (omega (arith, due, same, idle is, called, kept.due on, (kept.tallied on).1))

  ahead : events_to_make v turned + length (recorded steps.event) ≤ events_to_make v old
  ahead =
      let less : collector_ahead (refusal_in progress) (v.tally log.server).events (most_calls old.pace.every - called_in v old) + length (recorded steps.event) ≤ collector_ahead None (v.tally old.logged.server).events (most_calls old.pace.every - called_in v old)
      = spent progress steps.event (v.tally old.logged.server) (v.tally log.server) (most_calls old.pace.every - called_in v old) steps.none spends (λ is. (tidied is).2) no_idle in
      rw (called, on) (omega (arith, less))

  pub kept_turn : Raises v.faults v.stands t old.logged log → TellsStop (refusal_in progress) (v.stop log.server)
      → (is_quiet_fault (refusal_in progress) ≡ true → Rose (v.faults old.logged.server) (v.faults log.server) × (log.events ≡ old.logged.events))
      → (refusal_in progress ≡ Some faults.Memory → IsWanting (v.tally log.server).called log.events)
      → (refusal_in progress ≡ None → CountsTurn (v.tally old.logged.server) (v.tally log.server) old.logged.events log.events progress) → KeepsTalk v t turned
  kept_turn raised tells quiet wanting counts = record {
    unread = kept.unread;
    room = omega (arith, ahead, kept.room, steps.room);
    few = omega (arith, ahead, kept.few, ap length steps.events, length-append old.logged.events (recorded steps.event));
    quiet = λ none. rw steps.events (quiet_on (called_in v old) old.logged.events steps.event (steps.stop (no_step (sym called ∙ none))) (kept.quiet (sym called ∙ none)));
    tallied = λ none. (counts none).tallied (kept.tallied on);
    begun = λ none. omega (arith, (counts none).begun (kept.begun on), called);
    due = λ none. due_on progress old.pace.due (v.tally old.logged.server).finished (v.tally log.server).called (v.tally log.server).finished acts none (kept.due on ∙ sym called) (counts none).finished;
    counted = counted_step v.faults v.stands t old.logged log raised (refusal_in progress) (subst (λ o. CountsFaults v.faults v.stands t (first_fault o) old.logged.server old.logged.events) on kept.counted) quiet;
    tells = tells;
    wanting = wanting;
    alone = λ k past. ap (λ es. events_of_session k es) steps.events ∙ beside_by old.logged.events steps.event steps.nobody k ∙ kept.alone k past;
  }
    where
      no_step : called_in v old ≡ 0 → is_step progress ≡ false
      no_step none = at (is_step progress) refl
        where
          at : (b : Bool) → is_step progress ≡ b → is_step progress ≡ false
          at true is =
              let due : (v.tally old.logged.server).finished + cond old.pace.due 1 0 ≡ (v.tally old.logged.server).finished + 1 = ap (λ b. (v.tally old.logged.server).finished + cond b 1 0) (acts is) in
              absurd (omega (arith, due, none, kept.due on))
          at false is = is

  pub made_turn : MakesTurns v old turned
  made_turn = record {
    beside = record {
      events = λ k. ap (λ es. events_of_session k es) steps.events ∙ beside_by old.logged.events steps.event steps.nobody k;
      port = refl;
      lines = refl;
      every = refl;
    };
    made = recorded steps.event;
    recorded = steps.events;
    since = refl;
    called = called;
    refused = λ none. on;
  }

  pub less_turn : work_of v turned < work_of v old
  less_turn =
      let less : work_left (refusal_in progress) (due_after old.pace.due progress) (v.tally log.server).steps (v.unfinished log.server) < work_left None old.pace.due (v.tally old.logged.server).steps (v.unfinished old.logged.server)
      = lowered progress old.pace.due (v.tally old.logged.server) (v.tally log.server) (v.unfinished old.logged.server) (v.unfinished log.server) (rw on at some) settled spends (λ is. let part = tidied is in (part.0, part.1)) no_idle in
      rw on less

-- ---- turns follow one another

pub still : {A : Type 0} (v : servers.Ghosts A) (talk : Talking A) → MakesTurns v talk talk
still v talk = record {
  beside = record { events = λ k. refl; port = refl; lines = refl; every = refl };
  made = [];
  recorded = sym (append-nil talk.logged.events);
  since = refl;
  called = refl;
  refused = λ none. none;
}

beside_then : {A : Type 0} (a b c : Talking A) → MovesBeside a b → MovesBeside b c → MovesBeside a c
beside_then a b c one two = record {
  events = λ k. two.events k ∙ one.events k;
  port = two.port ∙ one.port;
  lines = two.lines ∙ one.lines;
  every = two.every ∙ one.every;
}

pub turns_then : {A : Type 0} (v : servers.Ghosts A) (a b c : Talking A) → MakesTurns v a b → MakesTurns v b c → MakesTurns v a c
turns_then v a b c one two = record {
  beside = beside_then a b c one.beside two.beside;
  made = one.made ++ two.made;
  recorded = two.recorded ∙ ap (λ es. es ++ two.made) one.recorded ∙ append_assoc a.logged.events one.made two.made;
  since = two.since ∙ one.since;
  called = two.called ∙ one.called;
  refused = λ none. one.refused (two.refused none);
}

pub same_product : (a b c d : ℕ) → a ≡ b → c ≡ d → a * c ≡ b * d
same_product a b c d one two = cc

pub at_pace : {A : Type 0} (v : servers.Ghosts A) (a b : Talking A) → MakesTurns v a b → KeepsPace v a b
at_pace v a b made = record {
  beside = made.beside;
  spread = omega (arith, same_product (called_in v b) (called_in v a) b.pace.every a.pace.every made.called made.beside.every, made.since);
  none = λ never. made.called;
}

pub pace_then : {A : Type 0} (v : servers.Ghosts A) (a b c : Talking A) → KeepsPace v a b → KeepsPace v b c → KeepsPace v a c
pace_then v a b c one two = record {
  beside = beside_then a b c one.beside two.beside;
  spread = omega (arith, one.spread, two.spread);
  none = λ never. two.none (one.beside.every ∙ never) ∙ one.none never;
}

-- ---- a call

-- one more of so many lines each, where as many have come
one_more : (calls every since : ℕ) → every ≤ since → (calls + 1) * every + 0 ≤ calls * every + since
one_more calls every since enough = omega (arith, product)
  where
    product : (calls + 1) * every ≡ calls * every + every
    product = grind arith

beside_called : {A : Type 0} (v : servers.Ghosts A) (old new : Talking A) → CallsNext v old new → MovesBeside old new
beside_called v old new calls = record {
  events = λ k. ap (λ es. events_of_session k es) calls.events;
  port = calls.rest.0;
  lines = calls.rest.1;
  every = ap (λ (p : Pace). p.every) calls.pace;
}

pub called_at_pace : {A : Type 0} (v : servers.Ghosts A) (old new : Talking A) → 0 < old.pace.every → old.pace.every ≤ old.pace.since → CallsNext v old new → KeepsPace v old new
called_at_pace v old new some enough calls = record {
  beside = beside_called v old new calls;
  spread = rw (calls.called, calls.pace) (one_more (called_in v old) old.pace.every old.pace.since enough);
  none = λ never. absurd (omega (arith, some, never));
}

module _ {A : Type 0} (v : servers.Ghosts A) (t : Terms A) (old : Talking A) (server : A) (kept : KeepsTalk v t old) (calls : CallsOne v.stands v.tally old.logged.server server)
    (idle : old.pace.due ≡ false) (goes : old.refused ≡ None) (few : called_in v old < most_calls old.pace.every) where
  abbrev called : Talking A
  called = record old { logged = record old.logged { server = server }; pace = record old.pace { since = 0; due = true } }

  ahead_called : collector_ahead None (v.tally server).events (most_calls old.pace.every - (called_in v old + 1)) ≤ collector_ahead None (v.tally old.logged.server).events (most_calls old.pace.every - called_in v old)
  ahead_called = omega (arith, calls.events, few)

  ahead_once : events_to_make v called ≤ events_to_make v old
  ahead_once = rw (calls.called, goes) (omega (arith, ahead_called))

  pub kept_call : v.stop server ≡ v.stop old.logged.server → v.faults server ≡ v.faults old.logged.server → KeepsTalk v t called
  kept_call stop faults = record {
    unread = kept.unread;
    room = omega (arith, ahead_once, kept.room);
    few = omega (arith, ahead_once, kept.few);
    quiet = λ none. absurd (omega (arith, calls.called, none));
    tallied = λ none. as_tallied (v.tally old.logged.server) (v.tally server) old.logged.events calls.counts (kept.tallied none);
    begun = λ none. omega (arith, begun_same (v.tally old.logged.server) (v.tally server) calls.counts, kept.begun none, calls.called);
    due = λ none.
        let was : (v.tally old.logged.server).finished + cond old.pace.due 1 0 ≡ (v.tally old.logged.server).finished + 0 = ap (λ b. (v.tally old.logged.server).finished + cond b 1 0) idle in
        omega (arith, was, kept.due none, calls.called, calls.counts.0);
    counted = record {
      told = λ begun at. rw faults (kept.counted.told begun at);
      stops = λ begun graph at standing. rw faults (kept.counted.stops begun graph at standing);
    };
    tells = rw stop kept.tells;
    wanting = λ wants. absurd (cc (wants, goes));
    alone = kept.alone;
  }

-- once the session has left: what was left, a call, and what is left of that
pub collects_last : {A : Type 0} (v : servers.Ghosts A) (old mid called new : Talking A) → MakesTurns v old mid → CallsNext v mid called → MakesTurns v called new → 0 < mid.pace.every
    → work_of v new ≡ 0 → HasBegunAll v new → CollectsLast v old new
collects_last v old mid called new first calls last some done begun = record {
  beside = beside_then old called new (beside_then old mid called first.beside (beside_called v mid called calls)) last.beside;
  made = first.made ++ last.made;
  recorded = last.recorded ∙ ap (λ es. es ++ last.made) (calls.events ∙ first.recorded) ∙ append_assoc old.logged.events first.made last.made;
  most = omega (arith, last.called, calls.called, first.called);
  none = λ never. absurd (omega (arith, some, first.beside.every, never));
  refused = λ none. first.refused (sym calls.rest.2 ∙ last.refused none);
  begun = λ every none. omega (arith, begun none, last.called, calls.called, first.called);
  done = done;
}

-- ---- an event of the session

module _ {A : Type 0} (v : servers.Ghosts A) (t : Terms A) (old : Talking A) (log : ServerLog A) (p q : PortReading) (since lines : ℕ) (e : Event) (kept : KeepsTalk v t old)
    (kind : Turned 0 p q e ⊎ Departs 0 p q e) (recorded : log.events ≡ old.logged.events ++ e ∷ []) (room : log.room + 1 ≡ old.logged.room)
    (fewer : lines + cond q.has_left 0 1 + 1 ≤ old.lines + cond old.port.has_left 0 1) (passes : SessionPasses v.clock v.tally old.logged.server log.server)
    (same : (v.tally log.server).called ≡ called_in v old) where
  abbrev moved : Talking A
  moved = record { logged = log; port = q; pace = record old.pace { since = since }; refused = old.refused; lines = lines }

  ahead_moved : events_to_make v moved + 1 ≤ events_to_make v old
  ahead_moved =
      let less : collector_ahead old.refused (v.tally log.server).events (most_calls old.pace.every - called_in v old) ≤ collector_ahead old.refused (v.tally old.logged.server).events (most_calls old.pace.every - called_in v old)
      = ahead_less old.refused (v.tally log.server).events (v.tally old.logged.server).events (most_calls old.pace.every - called_in v old) passes.events in
      rw same (omega (arith, less, fewer))

  mine : Turned 0 p q e ⊎ Departs 0 p q e → is_no_step e ≡ true
  mine (inl turn) = of_session 0 e turn.whole
  mine (inr leave) = rw leave.is refl

  pub kept_event : q.lines ≡ [] → ((k : ℕ) → (0 == k) ≡ false → is_of_session k e ≡ false) → StaysStopped v.stop old.logged log → Raises v.faults v.stands t old.logged log → KeepsTalk v t moved
  kept_event unread others stays raised = record {
    unread = unread;
    room = omega (arith, ahead_moved, kept.room, room);
    few = omega (arith, ahead_moved, kept.few, ap length recorded, length-append old.logged.events (e ∷ []));
    quiet = λ none. rw recorded (all-push is_no_step old.logged.events e (kept.quiet (sym same ∙ none)) (mine kind));
    tallied = λ none. rw recorded (let none_of = no_end 0 p q e kind in same_tally e (v.tally old.logged.server) (v.tally log.server) old.logged.events none_of.0 none_of.1 passes.counts (kept.tallied none));
    begun = λ none. omega (arith, begun_same (v.tally old.logged.server) (v.tally log.server) passes.counts, kept.begun none, same);
    due = λ none. omega (arith, kept.due none, passes.counts.0, same);
    counted = counted_turn v.faults v.stands t old.logged log raised (first_fault old.refused) kept.counted;
    tells = tells_on old.refused (v.stop old.logged.server) (v.stop log.server) stays kept.tells;
    wanting = λ wants. rw (recorded, same) (wanting_by (called_in v old) old.logged.events 0 p q e kind (kept.wanting wants));
    alone = λ k past. ap (λ es. events_of_session k es) recorded ∙ filter_out (is_of_session k) old.logged.events e (others k (test_apart 0 k (λ is. absurd (omega (arith, past, is))))) ∙ kept.alone k past;
  }

-- a line that is no request line
pub kept_passed : {A : Type 0} (v : servers.Ghosts A) (t : Terms A) (old : Talking A) (lines : ℕ) → KeepsTalk v t old → lines ≤ old.lines → KeepsTalk v t (record old { lines = lines })
kept_passed v t old lines kept fewer = record {
  unread = kept.unread;
  room = omega (arith, kept.room, fewer);
  few = omega (arith, kept.few, fewer);
  quiet = kept.quiet;
  tallied = kept.tallied;
  begun = kept.begun;
  due = kept.due;
  counted = kept.counted;
  tells = kept.tells;
  wanting = kept.wanting;
  alone = kept.alone;
}
