-- A turn of a worker, of a session or of the collector.
use Rattle.std.proofs.Common.{◌≡◌, ◌≢◌, inl, inr, ℕ, zero, suc, ◌+◌, ◌<◌, ◌≤◌, ◌==◌, Bool, true, false, cond, List, [], ◌∷◌, ◌++◌, Option, Some, None, length, slice_get, refl, sym, ap, ◌∙◌, subst, arith, length-append}
use Rattle.cfs_serve.proofs.Cited.{AreHeard, CollectFault, Event, HasNoCollector, Hearing, is_no_step, IsSessionTurn, IsTurn, ServerLog, CollectorTurn, PortReading, LogSteps, Terms, append-nil, has_left_at, is_done_in, is_of_session, turns_left_in, nat_tests, recorded, slice_get_within, sum_by, turns_left, turns_left_at, turns_now}
use Rattle.cfs_serve.specs.Machine.{parts_now}
use Rattle.cfs_serve.specs.Calls.{Tally}
use Rattle.cfs_serve.specs.Machine.{HasTurns}
use Rattle.cfs_serve.specs.Logs.{is_progress_made, is_recorded, is_step, refusal_in}
use Rattle.cfs_serve.specs.declared.logged.CollectorTurn.TheVariants as progresses
use Rattle.cfs_serve.proofs.Sessions as sessions
use Rattle.cfs_serve.proofs.Sessions.{heard_beside}

-- what is known of a worker, by which one it is
pub session_done : (ports : List PortReading) (turns w : ℕ) → w ≢ length ports → is_done_in ports turns w ≡ has_left_at (slice_get ports w)
session_done [] turns zero apart = absurd (apart refl)
session_done [] turns (suc w) apart = refl
session_done (p ∷ ports) turns zero apart = refl
session_done (p ∷ ports) turns (suc w) apart = session_done ports turns w (λ same. apart (ap (λ n. suc n) same))

pub session_left : (ports : List PortReading) (turns w : ℕ) → w ≢ length ports → turns_left_in ports turns w ≡ turns_left_at (slice_get ports w)
session_left [] turns zero apart = absurd (apart refl)
session_left [] turns (suc w) apart = refl
session_left (p ∷ ports) turns zero apart = refl
session_left (p ∷ ports) turns (suc w) apart = session_left ports turns w (λ same. apart (ap (λ n. suc n) same))

pub collector_done : (ports : List PortReading) (turns : ℕ) → is_done_in ports turns (length ports) ≡ (turns == 0)
collector_done [] turns = refl
collector_done (p ∷ ports) turns = collector_done ports turns

pub collector_left : (ports : List PortReading) (turns : ℕ) → turns_left_in ports turns (length ports) ≡ turns
collector_left [] turns = refl
collector_left (p ∷ ports) turns = collector_left ports turns

no_collector : {A : Type 0} (clock : A → ℕ) (i : ℕ) (old new : Hearing A) → IsSessionTurn clock i old new → i ≢ length old.ports
no_collector clock i old new turn = λ same. absurd (omega (arith, slice_get_within old.ports i turn.before turn.at, same))

pub as_many : {A : Type 0} (clock : A → ℕ) (i : ℕ) (old new : Hearing A) → IsTurn clock i old new → length new.ports ≡ length old.ports
as_many clock i old new (inl turn) = sessions.as_many clock i old new turn
as_many clock i old new (inr (is, step)) = ap length step.ports

-- it has less to do
pub less_left : {A : Type 0} (clock : A → ℕ) (i : ℕ) (old new : Hearing A) → IsTurn clock i old new → turns_left_in new.ports new.turns i < turns_left_in old.ports old.turns i
less_left clock i old new (inl turn) =
    let here = no_collector clock i old new turn in
    let there : i ≢ length new.ports = (λ same. here (same ∙ sessions.as_many clock i old new turn)) in
    omega (arith, session_left new.ports new.turns i there, session_left old.ports old.turns i here, sessions.less_left clock i old new turn)
less_left clock i old new (inr (is, step)) =
    let before : turns_left_in old.ports old.turns i ≡ old.turns = ap (λ w. turns_left_in old.ports old.turns w) is ∙ collector_left old.ports old.turns in
    let after : turns_left_in new.ports new.turns i ≡ new.turns = ap (λ w. turns_left_in new.ports new.turns w) (is ∙ sym (ap length step.ports)) ∙ collector_left new.ports new.turns in
    omega (arith, before, after, step.turns)

-- and those before it are as they were
pub others_stay : {A : Type 0} (clock : A → ℕ) (i : ℕ) (old new : Hearing A) → IsTurn clock i old new → (w : ℕ) → w < i → is_done_in new.ports new.turns w ≡ is_done_in old.ports old.turns w
others_stay clock i old new (inl turn) w below =
    let within = slice_get_within old.ports i turn.before turn.at in
    let apart : w ≢ i = (λ same. absurd (omega (arith, below, same))) in
    let there : w ≢ length old.ports = (λ same. absurd (omega (arith, below, within, same))) in
    let here : w ≢ length new.ports = (λ same. there (same ∙ sessions.as_many clock i old new turn)) in
    session_done new.ports new.turns w here ∙ sessions.others_stay clock i old new turn w apart ∙ sym (session_done old.ports old.turns w there)
others_stay clock i old new (inr (is, step)) w below =
    let other : w ≢ length old.ports = (λ same. absurd (omega (arith, below, is, same))) in
    ap (λ (ps : List PortReading). is_done_in ps new.turns w) step.ports ∙ session_done old.ports new.turns w other ∙ sym (session_done old.ports old.turns w other)

-- one that isn't done has a turn to make
pub collector_stays : (ports : List PortReading) (turns w : ℕ) → w ≡ length ports → is_done_in ports turns w ≡ false → 0 < turns
collector_stays ports turns w is stays =
    let none : (turns == 0) ≡ false = sym (ap (λ v. is_done_in ports turns v) is ∙ collector_done ports turns) ∙ stays in
    grind (arith, nat_tests)

pub session_stays : (ports : List PortReading) (turns w : ℕ) → w ≢ length ports → is_done_in ports turns w ≡ false → (w < length ports) × (has_left_at (slice_get ports w) ≡ false)
session_stays [] turns zero apart stays = absurd (apart refl)
session_stays [] turns (suc w) apart stays = absurd (cc stays)
session_stays (p ∷ ports) turns zero apart stays = (omega arith, stays)
session_stays (p ∷ ports) turns (suc w) apart stays = let rest = session_stays ports turns w (λ same. apart (ap (λ n. suc n) same)) stays in (omega (arith, rest.0), rest.1)

-- a session of a machine whose workers are done has left
pub all_done : (ports : List PortReading) (turns : ℕ) → ((w : ℕ) → is_done_in ports turns w ≡ true) → (k : ℕ) → has_left_at (slice_get ports k) ≡ true
all_done [] turns done k = refl
all_done (p ∷ ports) turns done zero = done 0
all_done (p ∷ ports) turns done (suc k) = all_done ports turns (λ w. done (suc w)) k

-- ---- a step of the collector

-- one that was refused has no turn to make, so one that has one was refused none
pub not_refused : (refused : Option CollectFault) (resting : Bool) (steps parts : ℕ) → (0 < steps → refused ≡ None) → 0 < turns_now resting steps (parts_now refused parts) → refused ≡ None
not_refused None resting steps parts on some = refl
not_refused (Some fault) true steps parts on some = absurd (omega (arith, some))
not_refused (Some fault) false steps parts on some = on (omega (arith, some))

-- where no part is left it has a step to make, and doesn't rest
pub acts : (resting : Bool) (steps parts : ℕ) → parts ≡ 0 → 0 < turns_now resting steps parts → (resting ≡ false) × (0 < steps)
acts true steps parts none some = absurd (omega (arith, none, some))
acts false steps parts none some = (refl, omega (arith, none, some))

pub fewer_now : (resting after : Bool) (steps less parts left : ℕ) → parts ≡ 0 → left ≡ 0 → 0 < turns_now resting steps parts → less < steps → turns_now after less left < turns_now resting steps parts
fewer_now true after steps less parts left none over some fewer = absurd (omega (arith, none, some))
fewer_now false true steps less parts left none over some fewer = omega (arith, none, over, some)
fewer_now false false steps less parts left none over some fewer = omega (arith, none, over, fewer)

-- a part that was made leaves one turn less
pub fewer_parts : (resting : Bool) (steps parts left : ℕ) → left < parts → turns_now resting steps left < turns_now resting steps parts
fewer_parts true steps parts left less = less
fewer_parts false steps parts left less = omega (arith, less)

now_at_most : (resting : Bool) (steps parts : ℕ) → turns_now resting steps parts ≤ steps + parts
now_at_most true steps parts = omega arith
now_at_most false steps parts = omega arith

none_now : (resting : Bool) → turns_now resting 0 0 ≡ 0
none_now true = refl
none_now false = refl

-- a turn leaves less to make, now and in all
module _ (resting after : Bool) (steps left parts now : ℕ) (refused : Option CollectFault) (some : 0 < turns_now resting steps parts) where
  abbrev IsLess : Type 0
  IsLess = (turns_now after left (parts_now refused now) < turns_now resting steps parts) × (left + parts_now refused now < steps + parts)

  by_step : refused ≡ None → parts ≡ 0 → now ≡ 0 → left < steps → IsLess
  by_step none whole settled fewer = rw none (fewer_now resting after steps left parts now whole settled some fewer, omega (arith, whole, settled, fewer))

  pub turns_less : (progress : CollectorTurn) → (progress ≡ progresses.Tidied → (now < parts) × (left ≡ steps) × (after ≡ resting)) → (is_step progress ≡ true → (parts ≡ 0) × (now ≡ 0) × (left < steps))
      → ((fault : CollectFault) → progress ≡ progresses.Refused fault → left ≡ 0) → refused ≡ refusal_in progress → IsLess
  turns_less progresses.Tidied tidied step over is = let made = tidied refl in rw (is, made.1, made.2) (fewer_parts resting steps parts now made.0, omega (arith, made.0))
  turns_less (progresses.Refused fault) tidied step over is =
      let none = over fault refl in
      rw (is, none) (omega (arith, none_now after, some), omega (arith, some, now_at_most resting steps parts))
  turns_less progresses.Idle tidied step over is = let made = step refl in by_step is made.0 made.1 made.2
  turns_less progresses.Quiet tidied step over is = let made = step refl in by_step is made.0 made.1 made.2
  turns_less progresses.Recorded tidied step over is = let made = step refl in by_step is made.0 made.1 made.2
  turns_less progresses.Finished tidied step over is = let made = step refl in by_step is made.0 made.1 made.2

-- what was made is a step
pub made_step : (progress : CollectorTurn) → is_progress_made progress ≡ true → is_step progress ≡ true
made_step progresses.Tidied made = made
made_step (progresses.Refused fault) made = made
made_step progresses.Idle made = refl
made_step progresses.Quiet made = refl
made_step progresses.Recorded made = refl
made_step progresses.Finished made = refl

-- and enough turns still
pub turns_on : (progress : CollectorTurn) (steps events left now lines : ℕ) (c d : Tally) → HasTurns steps events lines c → (progress ≡ progresses.Tidied → (left ≡ steps) × (now ≡ events) × (d.steps ≡ c.steps) × (d.events ≡ c.events))
    → (is_step progress ≡ true → 0 < left → (d.steps < c.steps) × (d.events + cond (is_recorded progress) 1 0 ≤ c.events) × (left + 1 ≡ steps) × (now + cond (is_recorded progress) 1 0 ≡ events))
    → ((fault : CollectFault) → progress ≡ progresses.Refused fault → left ≡ 0) → HasTurns left now lines d
turns_on progresses.Tidied steps events left now lines c d was tidied step over =
    let made = tidied refl in (λ more. let had = was (omega (arith, more, made.0)) in (omega (arith, had.0, made.0, made.2), omega (arith, had.1, made.1, made.3)))
turns_on (progresses.Refused fault) steps events left now lines c d was tidied step over = λ more. absurd (omega (arith, more, over fault refl))
turns_on progresses.Idle steps events left now lines c d was tidied step over =
    λ more. let made = step refl more in let had = was (omega (arith, more, made.2)) in (omega (arith, had.0, made.0, made.2), omega (arith, had.1, made.1, made.3))
turns_on progresses.Quiet steps events left now lines c d was tidied step over =
    λ more. let made = step refl more in let had = was (omega (arith, more, made.2)) in (omega (arith, had.0, made.0, made.2), omega (arith, had.1, made.1, made.3))
turns_on progresses.Recorded steps events left now lines c d was tidied step over =
    λ more. let made = step refl more in let had = was (omega (arith, more, made.2)) in (omega (arith, had.0, made.0, made.2), omega (arith, had.1, made.1, made.3))
turns_on progresses.Finished steps events left now lines c d was tidied step over =
    λ more. let made = step refl more in let had = was (omega (arith, more, made.2)) in (omega (arith, had.0, made.0, made.2), omega (arith, had.1, made.1, made.3))

-- a part that was made makes no event, and where no step is left as many collections are finished as were called for
pub finished_on : (progress : CollectorTurn) (left finished all : ℕ) → (progress ≡ progresses.Tidied → finished ≡ all) → (is_step progress ≡ true → left ≡ 0 → finished ≡ all) → refusal_in progress ≡ None → left ≡ 0 → finished ≡ all
finished_on progresses.Tidied left finished all tidied step none over = tidied refl
finished_on (progresses.Refused fault) left finished all tidied step none over = absurd (cc none)
finished_on progresses.Idle left finished all tidied step none over = step refl over
finished_on progresses.Quiet left finished all tidied step none over = step refl over
finished_on progresses.Recorded left finished all tidied step none over = step refl over
finished_on progresses.Finished left finished all tidied step none over = step refl over

pub one_at_most : (o : Option Event) → length (recorded o) ≤ 1
one_at_most None = omega arith
one_at_most (Some e) = omega arith

-- no more than is told
pub as_told : (b : Bool) (o : Option Event) → (b ≡ false → o ≡ None) → length (recorded o) ≤ cond b 1 0
as_told true o none = one_at_most o
as_told false o none = rw (none refl) (omega arith)

-- what the machine keeps, where the collector has a turn left
module _ {A : Type 0} (t : Terms A) (clock : A → ℕ) (old new : ServerLog A) (ports : List PortReading) (progress : CollectorTurn) (turns events : ℕ)
    (heard : AreHeard t old.events ports) (room : sum_by turns_left ports + events ≤ old.room) (few : length old.events + sum_by turns_left ports + events < 4294967295)
    (some : is_step progress ≡ true → 0 < turns) (quiet : HasNoCollector t turns) (steps : LogSteps clock old new progress) where
  -- where no collection is called for it is no step
  no_step : t.collections ≡ 0 → is_step progress ≡ false
  no_step none = at (is_step progress) refl
    where
      at : (b : Bool) → is_step progress ≡ b → is_step progress ≡ false
      at true is = absurd (omega (arith, some is, quiet none))
      at false is = is

  pub heard_on : AreHeard t new.events ports
  heard_on = rw steps.events (by steps.event steps.nobody steps.stop)
    where
      by : (o : Option Event) → ((e : Event) → o ≡ Some e → (k : ℕ) → is_of_session k e ≡ false) → (is_step progress ≡ false → (e : Event) → o ≡ Some e → is_no_step e ≡ true) → AreHeard t (old.events ++ recorded o) ports
      by None nobody stop = subst (λ es. AreHeard t es ports) (sym (append-nil old.events)) heard
      by (Some e) nobody stop = heard_beside t old.events ports heard e (nobody e refl) (λ none. stop (no_step none) e refl)

  pub room_on : (left : ℕ) → left + length (recorded steps.event) ≤ events → sum_by turns_left ports + left ≤ new.room
  room_on left less = omega (arith, room, less, steps.room)

  pub few_on : (left : ℕ) → left + length (recorded steps.event) ≤ events → length new.events + sum_by turns_left ports + left < 4294967295
  few_on left less = omega (arith, few, less, ap length steps.events, length-append old.events (recorded steps.event))
