-- An event keeps what the machine keeps of its sessions.
use Rattle.std.proofs.Common.{◌≡◌, ◌≢◌, ◌⊎◌, inl, inr, ℕ, ◌+◌, ◌<◌, ◌≤◌, ◌==◌, Bool, true, false, not, cond, List, [], ◌∷◌, ◌++◌, length, filter, set, get_or, Option, Some, None, slice_get, refl, sym, ap, ◌∙◌, subst, arith, append_assoc, length-append, length-set}
use Rattle.cfs_serve.proofs.Cited.{AreHeard, Departs, Event, Hearing, Hears, IsLeave, IsSession, IsSessionTurn, IsWanting, Names, Puid, Replied, Request, Client, TakesLine, Terms, Turned, Unread, Wrote, all_forms, append-nil, finishes_in, get_or_from_slice_get, has_left_at, is_begin, is_finish, is_of_session, is_no_step, is_turn_of, name_spoken, names_after, names_after_reply, names_of, nat_tests, no_names, printed, printed_replies, reading_of, slice_get-get_or, slice_get_within, sum_by, sum_by-set, then, then_some, turn_of, turns_from, turns_in, turns_left, turns_left_at, words_of}
use Rattle.ufs_model.specs.declared.asked.Event.TheVariants as events
use Rattle.ufs_model.specs.declared.asked.Reply.TheVariants as replies
use Rattle.ufs_model.specs.declared.asked.Unread.TheVariants as unread
use Rattle.ufs_model.specs.Spoken.{Reading}
use Rattle.cfs_ports.specs.declared.hearing.Heard.TheVariants as heard
use Rattle.cfs_ports.specs.Port.{TellsWhy}
use Rattle.cfs_ports.specs.Port as ports
use Rattle.cfs_serve.proofs.Logs.{all-push, push_out, some_same}
use Rattle.cfs_serve.proofs.Lists.{get-set_other, get-set_same}

-- ---- numbers and lists

pub test_refl : (n : ℕ) → (n == n) ≡ true
test_refl n = grind (arith, nat_tests)

pub test_apart : (i k : ℕ) → k ≢ i → (i == k) ≡ false
test_apart i k h = grind (arith, nat_tests)

pub filter_in : (test : Event → Bool) (es : List Event) (e : Event) → test e ≡ true → filter test (es ++ e ∷ []) ≡ filter test es ++ e ∷ []
filter_in test [] e is = rw is refl
filter_in test (x ∷ es) e is = elim (test x) as (λ b. cond b (x ∷ filter test (es ++ e ∷ [])) (filter test (es ++ e ∷ [])) ≡ cond b (x ∷ filter test es) (filter test es) ++ e ∷ []) [
  | true ↦ ap (λ w. x ∷ w) (filter_in test es e is)
  | false ↦ filter_in test es e is
]

pub filter_out : (test : Event → Bool) (es : List Event) (e : Event) → test e ≡ false → filter test (es ++ e ∷ []) ≡ filter test es
filter_out test [] e is = rw is refl
filter_out test (x ∷ es) e is = elim (test x) as (λ b. cond b (x ∷ filter test (es ++ e ∷ [])) (filter test (es ++ e ∷ [])) ≡ cond b (x ∷ filter test es) (filter test es)) [
  | true ↦ ap (λ w. x ∷ w) (filter_out test es e is)
  | false ↦ filter_out test es e is
]

printed_push : (i : ℕ) (es : List Event) (e : Event) → printed_replies i (es ++ e ∷ []) ≡ printed_replies i es ++ printed i e
printed_push i [] e = append-nil (printed i e)
printed_push i (x ∷ es) e = ap (λ text. printed i x ++ text) (printed_push i es e) ∙ sym (append_assoc (printed i x) (printed_replies i es) (printed i e))

-- another's event writes nothing, and is no turn
other_prints : (i : ℕ) (e : Event) → is_of_session i e ≡ false → printed i e ≡ []
other_prints i (events.Unread who why) is = rw is refl
other_prints i (events.Ask who request reply) is = rw is refl
other_prints i (events.Leave who stopped) is = refl
other_prints i events.Began is = refl
other_prints i (events.Vanish ids) is = refl
other_prints i events.Finished is = refl
other_prints i (events.Halted moment) is = refl

no_turn_prints : (i : ℕ) (e : Event) → is_turn_of i e ≡ false → printed i e ≡ []
no_turn_prints i (events.Unread who why) is = rw is refl
no_turn_prints i (events.Ask who request reply) is = rw is refl
no_turn_prints i (events.Leave who stopped) is = refl
no_turn_prints i events.Began is = refl
no_turn_prints i (events.Vanish ids) is = refl
no_turn_prints i events.Finished is = refl
no_turn_prints i (events.Halted moment) is = refl

pub other_turns : (i : ℕ) (e : Event) → is_of_session i e ≡ false → is_turn_of i e ≡ false
other_turns i (events.Unread who why) is = is
other_turns i (events.Ask who request reply) is = is
other_turns i (events.Leave who stopped) is = refl
other_turns i events.Began is = refl
other_turns i (events.Vanish ids) is = refl
other_turns i events.Finished is = refl
other_turns i (events.Halted moment) is = refl

-- what the session's turns write is all that is written to it
pub printed_turns : (i : ℕ) (es : List Event) → printed_replies i es ≡ printed_replies i (turns_in i es)
printed_turns i [] = refl
printed_turns i (e ∷ es) = elim (is_turn_of i e) as (λ b. is_turn_of i e ≡ b → printed i e ++ printed_replies i es ≡ printed_replies i (cond b (e ∷ turns_in i es) (turns_in i es))) [
  | true ↦ λ is. ap (λ text. printed i e ++ text) (printed_turns i es)
  | false ↦ λ is. ap (λ text. text ++ printed_replies i es) (no_turn_prints i e is) ∙ printed_turns i es
] refl

-- ---- one session

module _ (root : Puid) (i : ℕ) (client : Client) (p : ports.PortReading) (trail : List Event) (was : IsSession root i client p trail) where
  -- after another's event
  pub session_other : (e : Event) → is_of_session i e ≡ false → IsSession root i client p (trail ++ e ∷ [])
  session_other e is =
      let same : turns_in i (trail ++ e ∷ []) ≡ turns_in i trail = filter_out (is_turn_of i) trail e (other_turns i e is) in
      record {
        leaves = was.leaves;
        split = filter_out (is_of_session i) trail e is ∙ was.split ∙ ap (λ w. w ++ was.leaves) (sym same);
        left = was.left;
        turned = λ more. rw same (was.turned more);
        counted = rw same was.counted;
        ended = was.ended;
        replied = rw (printed_push i trail e, other_prints i e is, append-nil) was.replied;
        broken = λ failed. rw same (was.broken failed);
      }

  no_leaves : p.has_left ≡ false → was.leaves ≡ []
  no_leaves stays = subst (λ b. IsLeave i b was.leaves) stays was.left

  -- after its own line
  pub session_turned : (q : ports.PortReading) (e : Event) → Turned i p q e → IsSession root i client q (trail ++ e ∷ [])
  session_turned q e turn =
      let more_turns : turns_in i (trail ++ e ∷ []) ≡ turns_in i trail ++ e ∷ [] = filter_in (is_turn_of i) trail e turn.mine in
      let none = no_leaves turn.stays in
      record {
        leaves = [];
        split = filter_in (is_of_session i) trail e turn.whole ∙ ap (λ w. w ++ e ∷ []) (was.split ∙ ap (λ w. turns_in i trail ++ w) none ∙ append-nil (turns_in i trail)) ∙ sym more_turns ∙ sym (append-nil (turns_in i (trail ++ e ∷ [])));
        left = subst (λ b. IsLeave i b []) (sym turn.stays_on) refl;
        turned = λ more. rw more_turns (on more);
        counted = omega (arith, was.counted, ap length turn.taken, ap length more_turns, length-append (turns_in i trail) (e ∷ []));
        ended = λ left. absurd (cc (left, turn.stays_on));
        replied = rw (printed_push i trail e) (wrote (not q.failed) turn.replied);
        broken = λ failed. record {
          before = turns_in i trail;
          last = e;
          mid = p.sink;
          whole = more_turns;
          wrote = rw (sym (printed_turns i trail)) so_far;
          failed = subst (λ b. Replied p.sink q.sink (printed i e) (not b)) failed turn.replied;
        };
      }
    where
      on : (more : List Event) → turns_from all_forms i (no_names root) (client.lines) ((turns_in i trail ++ e ∷ []) ++ more)
          ≡ (turns_in i trail ++ e ∷ []) ++ turns_from all_forms i (names_of q.names) q.lines more
      on more =
          ap (λ es. turns_from all_forms i (no_names root) (client.lines) es) (append_assoc (turns_in i trail) (e ∷ []) more)
          ∙ was.turned (e ∷ more)
          ∙ ap (λ lines. turns_in i trail ++ turns_from all_forms i (names_of p.names) lines (e ∷ more)) turn.taken
          ∙ ap (λ x. turns_in i trail ++ x ∷ turns_from all_forms i (names_after all_forms (names_of p.names) turn.line e) q.lines more) turn.turn
          ∙ sym (append_assoc (turns_in i trail) (e ∷ []) (turns_from all_forms i (names_after all_forms (names_of p.names) turn.line e) q.lines more))
          ∙ ap (λ names. (turns_in i trail ++ e ∷ []) ++ turns_from all_forms i names q.lines more) (sym turn.names)

      so_far : Wrote client.sink p.sink (printed_replies i trail)
      so_far = subst (λ b. Replied client.sink p.sink (printed_replies i trail) (not b)) turn.goes was.replied

      wrote : (b : Bool) → Replied p.sink q.sink (printed i e) b → Replied client.sink q.sink (printed_replies i trail ++ printed i e) b
      wrote true one = then client.sink p.sink q.sink (printed_replies i trail) (printed i e) so_far one
      wrote false one = then_some client.sink p.sink q.sink (printed_replies i trail) (printed i e) so_far one

  -- after its leave
  pub session_left : (q : ports.PortReading) (e : Event) → Departs i p q e → IsSession root i client q (trail ++ e ∷ [])
  session_left q e leave = subst (λ x. IsSession root i client q (trail ++ x ∷ [])) (sym leave.is) (subst (λ x. IsSession root i client x (trail ++ gone ∷ [])) (sym leave.port) here)
    where
      gone : Event
      gone = events.Leave i leave.stopped

      same : turns_in i (trail ++ gone ∷ []) ≡ turns_in i trail
      same = filter_out (is_turn_of i) trail gone refl

      here : IsSession root i client (record p { has_left = true }) (trail ++ gone ∷ [])
      here = record {
        leaves = gone ∷ [];
        split = filter_in (is_of_session i) trail gone (test_refl i) ∙ ap (λ w. w ++ gone ∷ []) (was.split ∙ ap (λ w. turns_in i trail ++ w) (no_leaves leave.stays) ∙ append-nil (turns_in i trail)) ∙ ap (λ w. w ++ gone ∷ []) (sym same);
        left = (leave.stopped, refl);
        turned = λ more. rw same (was.turned more);
        counted = rw same was.counted;
        ended = λ left. leave.over;
        replied = rw (printed_push i trail gone, append-nil) was.replied;
        broken = λ failed. rw same (was.broken failed);
      }

-- ---- all of them

pub of_session : (i : ℕ) (e : Event) → is_of_session i e ≡ true → is_no_step e ≡ true
of_session i (events.Unread who why) is = refl
of_session i (events.Ask who request reply) is = refl
of_session i (events.Leave who stopped) is = refl
of_session i e is = cc

module _ {A : Type 0} (t : Terms A) (trail : List Event) (ps : List ports.PortReading) (was : AreHeard t trail ps) where
  -- after an event of session i
  pub heard_by : (i : ℕ) (p q : ports.PortReading) (e : Event) → slice_get ps i ≡ Some p → ((k : ℕ) → (i == k) ≡ false → is_of_session k e ≡ false)
      → Turned i p q e ⊎ Departs i p q e → AreHeard t (trail ++ e ∷ []) (set ps i q)
  heard_by i p q e at others kind = record {
    count = length-set ps i q ∙ was.count;
    each = λ k client x client_is here. by_test k client x client_is here (k == i) refl;
    none = λ k past.
        let within = slice_get_within ps i p at in
        let long = length-set ps i q in
        let apart : k ≢ i = (λ same. absurd (omega (arith, past, within, long, same))) in
        filter_out (is_of_session k) trail e (others k (test_apart i k apart)) ∙ was.none k (omega (arith, past, long));
    sessions = λ none. all-push is_no_step trail e (was.sessions none) (elim kind [
      | inl turn ↦ of_session i e turn.whole
      | inr leave ↦ rw leave.is refl
    ]);
  }
    where
      mine : (client : Client) → IsSession t.root i client p trail → IsSession t.root i client q (trail ++ e ∷ [])
      mine client before = elim kind [
        | inl turn ↦ session_turned t.root i client p trail before q e turn
        | inr leave ↦ session_left t.root i client p trail before q e leave
      ]

      by_test : (k : ℕ) (client : Client) (x : ports.PortReading) → slice_get t.clients k ≡ Some client → slice_get (set ps i q) k ≡ Some x → (b : Bool) → (k == i) ≡ b → IsSession t.root k client x (trail ++ e ∷ [])
      by_test k client x client_is here true is =
          let same : k ≡ i = grind (arith, nat_tests) in
          let found : q ≡ x = some_same q x (sym (get-set_same ps i q p at) ∙ ap (λ n. slice_get (set ps i q) n) (sym same) ∙ here) in
          let before = was.each i client p (ap (λ n. slice_get t.clients n) (sym same) ∙ client_is) at in
          subst (λ (n : ℕ). IsSession t.root n client x (trail ++ e ∷ [])) (sym same) (subst (λ (y : ports.PortReading). IsSession t.root i client y (trail ++ e ∷ [])) found (mine client before))
      by_test k client x client_is here false is =
          let apart : k ≢ i = grind (arith, nat_tests) in
          session_other t.root k client x trail (was.each k client x client_is (sym (get-set_other ps i k q apart) ∙ here)) e (others k (test_apart i k apart))

  -- after an event of no session: no step of a collection where none is called for
  pub heard_beside : (e : Event) → ((k : ℕ) → is_of_session k e ≡ false) → (t.collections ≡ 0 → is_no_step e ≡ true) → AreHeard t (trail ++ e ∷ []) ps
  heard_beside e nobody other = record {
    count = was.count;
    each = λ k client x client_is here. session_other t.root k client x trail (was.each k client x client_is here) e (nobody k);
    none = λ k past. filter_out (is_of_session k) trail e (nobody k) ∙ was.none k past;
    sessions = λ none. all-push is_no_step trail e (was.sessions none) (other none);
  }

-- ---- what a port did is such a turn

memory_binds_nothing : (names : Names) (name : Option (List ℕ)) → names_after_reply names name replies.Memory ≡ names
memory_binds_nothing names None = refl
memory_binds_nothing names (Some name) = refl

pub turned_unread : (i : ℕ) (p r q : ports.PortReading) (why : Unread) → p.has_left ≡ false → p.failed ≡ false → TakesLine p r (heard.Not why) → TellsWhy r q why → Turned i p q (events.Unread i why)
turned_unread i p r q why stays goes took told = record {
  line = took.line;
  taken = took.taken ∙ ap (λ w. took.line ∷ w) (sym told.lines);
  mine = test_refl i;
  whole = test_refl i;
  turn = by_why why (reading_of all_forms (names_of p.names) took.line) (name_spoken all_forms (words_of took.line)) took.hears;
  names = ap names_of told.names ∙ took.names ∙ sym (memory_binds_nothing (names_of p.names) (name_spoken all_forms (words_of took.line)));
  stays = stays;
  stays_on = told.stays ∙ took.stays ∙ stays;
  goes = goes;
  replied = rw (test_refl i) (rw (← took.sink) told.replied);
}
  where
    by_why : (why : Unread) (reading : Reading Request) (name : Option (List ℕ)) → Hears reading name (heard.Not why) → turn_of i reading (events.Unread i why) ≡ events.Unread i why
    by_why unread.Syntax reading name is = rw is refl
    by_why unread.NoName reading name is = rw is refl
    by_why unread.Memory reading name is = refl

-- ---- the work that is left

one_less : (i : ℕ) (p q : ports.PortReading) (e : Event) → Turned i p q e ⊎ Departs i p q e → turns_left q + 1 ≤ turns_left p
one_less i p q e kind = elim kind [
  | inl turn ↦ rw (turn.stays, turn.stays_on) (omega (arith, ap length turn.taken))
  | inr leave ↦ rw (leave.port, leave.stays) (omega arith)
]

-- a turn takes one from it at least
pub work_on : (ps : List ports.PortReading) (i : ℕ) (p q : ports.PortReading) (e : Event) → slice_get ps i ≡ Some p → Turned i p q e ⊎ Departs i p q e → sum_by turns_left (set ps i q) + 1 ≤ sum_by turns_left ps
work_on ps i p q e at kind =
    let less : turns_left q + 1 ≤ turns_left p = one_less i p q e kind in
    omega (arith, sum_by-set turns_left ps i q p (slice_get_within ps i p at), ap turns_left (get_or_from_slice_get ps i p p at), less)

-- what one session has left is part of it
pub part_of_work : (ps : List ports.PortReading) (i : ℕ) (p : ports.PortReading) → slice_get ps i ≡ Some p → turns_left p ≤ sum_by turns_left ps
part_of_work ps i p at =
    omega (arith, sum_by-set turns_left ps i (record p { has_left = true }) p (slice_get_within ps i p at), ap turns_left (get_or_from_slice_get ps i p p at))

-- a session that stays has a turn left
pub some_work : (ps : List ports.PortReading) (i : ℕ) (p : ports.PortReading) → slice_get ps i ≡ Some p → p.has_left ≡ false → 0 < sum_by turns_left ps
some_work ps i p at stays =
    let one : 0 < turns_left p = rw stays (omega arith) in
    omega (arith, part_of_work ps i p at, one)

-- the port that the code took
pub found : (ps now : List ports.PortReading) (i : ℕ) (p : ports.PortReading) → ps ≡ now → i < length now → has_left_at (slice_get now i) ≡ false → p ≡ get_or ps i p → (slice_get ps i ≡ Some p) × (p.has_left ≡ false)
found ps now i p same within stays is =
    let at : slice_get ps i ≡ Some p = slice_get-get_or ps i p (rw same within) ∙ ap (λ x. Some x) (sym is) in
    (at, sym (ap has_left_at at) ∙ ap (λ w. has_left_at (slice_get w i)) same ∙ stays)

-- what a turn leaves to do, and the other sessions
pub less_left : {A : Type 0} (clock : A → ℕ) (i : ℕ) (old new : Hearing A) → IsSessionTurn clock i old new
    → turns_left_at (slice_get new.ports i) < turns_left_at (slice_get old.ports i)
less_left clock i old new turn =
    let less : turns_left turn.after + 1 ≤ turns_left turn.before = one_less i turn.before turn.after turn.moves.event turn.moves.kind in
    rw turn.ports (omega (arith, ap turns_left_at (get-set_same old.ports i turn.after turn.before turn.at), ap turns_left_at turn.at, less))

pub others_stay : {A : Type 0} (clock : A → ℕ) (i : ℕ) (old new : Hearing A) → IsSessionTurn clock i old new → (w : ℕ) → w ≢ i
    → has_left_at (slice_get new.ports w) ≡ has_left_at (slice_get old.ports w)
others_stay clock i old new turn w apart = rw turn.ports (ap has_left_at (get-set_other old.ports i w turn.after apart))

pub as_many : {A : Type 0} (clock : A → ℕ) (i : ℕ) (old new : Hearing A) → IsSessionTurn clock i old new → length new.ports ≡ length old.ports
as_many clock i old new turn = rw turn.ports (length-set old.ports i turn.after)

-- a session that stays has its lines left, and its leave
pub left_of_stay : (ps now : List ports.PortReading) (i : ℕ) (p : ports.PortReading) → ps ≡ now → i < length now → has_left_at (slice_get now i) ≡ false
    → p ≡ get_or ps i p → (turns_left_at (slice_get now i) ≡ length p.lines + 1) × (length p.lines + 1 ≤ sum_by turns_left ps)
left_of_stay ps now i p same within stays is =
    let at = found ps now i p same within stays is in
    let one : turns_left p ≡ length p.lines + 1 = rw at.1 refl in
    (rw (← same) (ap turns_left_at at.0 ∙ one), omega (arith, one, part_of_work ps i p at.0))

-- ---- collections that are finished

-- no event of a session is the beginning of a collection, or the end of one
no_bound : (i : ℕ) (e : Event) → is_of_session i e ≡ true → (is_begin e ≡ false) × (is_finish e ≡ false)
no_bound i (events.Unread who why) mine = (refl, refl)
no_bound i (events.Ask who request reply) mine = (refl, refl)
no_bound i (events.Leave who stopped) mine = (refl, refl)
no_bound i e mine = absurd (cc mine)

pub no_end : (i : ℕ) (p q : ports.PortReading) (e : Event) → Turned i p q e ⊎ Departs i p q e → (is_begin e ≡ false) × (is_finish e ≡ false)
no_end i p q e (inl turned) = no_bound i e turned.whole
no_end i p q e (inr departs) = rw departs.is (refl, refl)

-- no collection ends by it, and none begins
pub collected_by : (n : ℕ) (trail : List Event) (i : ℕ) (p q : ports.PortReading) (e : Event) → Turned i p q e ⊎ Departs i p q e → finishes_in trail ≡ n → finishes_in (trail ++ e ∷ []) ≡ n
collected_by n trail i p q e kind all = push_out is_finish trail e (no_end i p q e kind).1 ∙ all

pub wanting_by : (n : ℕ) (trail : List Event) (i : ℕ) (p q : ports.PortReading) (e : Event) → Turned i p q e ⊎ Departs i p q e → IsWanting n trail → IsWanting n (trail ++ e ∷ [])
wanting_by n trail i p q e kind two =
    let begins = push_out is_begin trail e (no_end i p q e kind).0 in
    let ends = push_out is_finish trail e (no_end i p q e kind).1 in
    (begins ∙ two.0 ∙ sym ends, omega (arith, ends, two.1))
