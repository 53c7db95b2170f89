-- Lines that are heard one by one make a session as if they had all been there before.
use Rattle.std.proofs.Common.{◌≡◌, ◌≢◌, ◌⊎◌, inl, inr, ℕ, zero, suc, ◌+◌, ◌*◌, ◌<◌, ◌≤◌, Bool, true, false, not, cond, List, [], ◌∷◌, ◌++◌, length, filter, map, Some, slice_get, refl, sym, ap, ◌∙◌, subst, arith, append_assoc, length-append}
use Rattle.std.proofs.Math.Nat.{mul-le-mul_right}
use Rattle.std.proofs.lemmas.List.Elements.{filter-append}
use Rattle.cfs_base.specs.Outside.{Intake, Rose, Supply}
use Rattle.cfs_base.specs.declared.identifier.Puid.{Puid}
use Rattle.cfs_ports.specs.Lines.{HasAnsweredLines, LinesReading, RefusesLine, TakesLastLine, TakesWholeLine, asking_lines, is_within_line, joined_lines}
use Rattle.cfs_ports.specs.declared.lines.LineFault.TheVariants as faults
use Rattle.cfs_ports.specs.Port as ports
use Rattle.cfs_streams.proofs.ReadLaws as reads
use Rattle.cfs_streams.specs.Reading.{Gave}
use Rattle.ufs_model.specs.declared.asked.Event.TheVariants as events
use Rattle.ufs_model.specs.Script.{LF, is_request_line, request_lines, without_cr}
use Rattle.cfs_serve.specs.Limits.{most_lines}
use Rattle.cfs_trail.specs.Trail.{Recorded}
use Rattle.cfs_serve.specs.Talk.{HadNoMore, HasHeard, HasTalked, IsTalkReady}
use Rattle.cfs_serve.specs.Talking.{AnswersSoFar, ClosesTalk, CollectsLast, EndsTalk, TalkGoesOn, HasHeardLines, KeepsPace, LeavesService, LeavesTalk, MakesTurns, MovesBeside, PassesLine, TakesRequest, Talking, TalksBy, called_in, charter_with, lines_spread}
use Rattle.cfs_serve.specs.declared.served.Served.{Served}
use Rattle.cfs_serve.specs.declared.server.Server as servers
use Rattle.cfs_serve.specs.declared.talk.Pace.{Pace}
use Rattle.cfs_serve.specs.declared.talk.TalkEnd.{TalkEnd}
use Rattle.cfs_serve.specs.declared.talk.TalkEnd.TheVariants as ends
use Rattle.cfs_serve.proofs.Begun.{charter, fresh_session, served_so}
use Rattle.cfs_serve.proofs.Cited.{AllLeft, AreHeard, Client, Event, IsNewPort, IsSession, Replied, Terms, Turned, all_passing, append-nil, begins_in, events_of_session, has_left_at, is_begin, is_no_step, is_of_session, is_turn_of, list_all, list_all-append, map-append, printed_replies, turns_in}
use Rattle.cfs_serve.proofs.Logs.{some_same}
use Rattle.cfs_serve.proofs.Sessions.{other_turns, printed_turns, session_left, session_turned}

-- ---- a session knows its own events alone

turns_of_session : (i : ℕ) (es : List Event) → filter (is_turn_of i) (events_of_session i es) ≡ turns_in i es
turns_of_session i [] = refl
turns_of_session i (e ∷ es) = by (turns_of_session i es) (is_of_session i e) refl
  where
    by : filter (is_turn_of i) (events_of_session i es) ≡ turns_in i es → (b : Bool) → is_of_session i e ≡ b → filter (is_turn_of i) (cond b (e ∷ events_of_session i es) (events_of_session i es)) ≡ turns_in i (e ∷ es)
    by rest true is = ap (λ w. cond (is_turn_of i e) (e ∷ w) w) rest
    by rest false is = rest ∙ sym (ap (λ b. cond b (e ∷ turns_in i es) (turns_in i es)) (other_turns i e is))

pub session_same : (root : Puid) (i : ℕ) (client : Client) (p : ports.PortReading) (trail now : List Event) → IsSession root i client p trail → events_of_session i now ≡ events_of_session i trail
    → IsSession root i client p now
session_same root i client p trail now was same = record {
  leaves = was.leaves;
  split = same ∙ was.split ∙ ap (λ w. w ++ was.leaves) (sym turns);
  left = was.left;
  turned = λ more. rw turns (was.turned more);
  counted = rw turns was.counted;
  ended = was.ended;
  replied = rw prints was.replied;
  broken = λ failed. rw turns (was.broken failed);
}
  where
    turns : turns_in i now ≡ turns_in i trail
    turns = sym (turns_of_session i now) ∙ ap (λ w. filter (is_turn_of i) w) same ∙ turns_of_session i trail

    prints : printed_replies i now ≡ printed_replies i trail
    prints = printed_turns i now ∙ ap (λ w. printed_replies i w) turns ∙ sym (printed_turns i trail)

-- ---- one line more

only_line : (line next : List ℕ) (later : List (List ℕ)) (lines : List (List ℕ)) → lines ≡ line ∷ later → later ≡ [] → lines ≡ line ∷ []
only_line line next later lines is none = is ∙ ap (λ w. line ∷ w) none

module _ (root : Puid) (sink : Intake) (heard : List (List ℕ)) (p q : ports.PortReading) (trail : List Event) (e : Event) (line : List ℕ) where
  answered_on : AnswersSoFar root sink heard p trail → Turned 0 (record p { lines = request_lines line }) q e → q.lines ≡ [] → AnswersSoFar root sink (heard ++ request_lines line) q (trail ++ e ∷ [])
  answered_on was turn none later = subst (λ w. IsSession root 0 (record { lines = w; sink = sink }) (record q { lines = later }) (trail ++ e ∷ [])) (sym lines)
      (session_turned root 0 (record { lines = heard ++ turn.line ∷ later; sink = sink }) (record p { lines = turn.line ∷ later }) trail (was (turn.line ∷ later)) (record q { lines = later }) e (record {
        line = turn.line;
        taken = refl;
        mine = turn.mine;
        whole = turn.whole;
        turn = turn.turn;
        names = turn.names;
        stays = turn.stays;
        stays_on = turn.stays_on;
        goes = turn.goes;
        replied = turn.replied;
      }))
    where
      lines : (heard ++ request_lines line) ++ later ≡ heard ++ turn.line ∷ later
      lines = append_assoc heard (request_lines line) later ∙ ap (λ w. heard ++ (w ++ later)) (turn.taken ∙ ap (λ w. turn.line ∷ w) none)

module _ {A : Type 0} (v : servers.Ghosts A) (root : Puid) (sink : Intake) (heard : List (List ℕ)) (old new : Talking A) (was : TalkGoesOn v root sink heard old) where
  -- by a request line
  pub goes_answered : (line : List ℕ) → TakesRequest v old new line → TalkGoesOn v root sink (heard ++ request_lines line) new
  goes_answered line takes = record {
    answered = rw takes.answers.recorded (answered_on root sink heard old.port new.port old.logged.events takes.answers.event line was.answered takes.answers.turned takes.answers.unread);
    unread = takes.answers.unread;
    stays = takes.answers.turned.stays_on;
    spread = rw (takes.pace, takes.called) (omega (arith, was.spread, takes.lines));
    paced = rw (takes.pace, takes.called) (omega (arith, was.paced, length-append heard (request_lines line), one));
    none = λ never. takes.called ∙ was.none (sym (ap (λ (p : Pace). p.every) takes.pace) ∙ never);
  }
    where
      one : length (request_lines line) ≡ length new.port.lines + 1
      one = omega (arith, ap length takes.answers.turned.taken)

  -- by one that is none
  pub goes_passed : (line : List ℕ) → PassesLine old new line → TalkGoesOn v root sink (heard ++ request_lines line) new
  goes_passed line passes = rw (passes.none, append-nil heard) (rw passes.rest (record {
    answered = was.answered;
    unread = was.unread;
    stays = was.stays;
    spread = omega (arith, was.spread, passes.lines);
    paced = was.paced;
    none = was.none;
  }))

  -- and by what the collector does
  pub goes_beside : KeepsPace v old new → TalkGoesOn v root sink heard new
  goes_beside keeps = record {
    answered = λ later. rw keeps.beside.port (session_same root 0 (record { lines = heard ++ later; sink = sink }) (record old.port { lines = later }) old.logged.events new.logged.events (was.answered later) (keeps.beside.events 0));
    unread = rw keeps.beside.port was.unread;
    stays = rw keeps.beside.port was.stays;
    spread = omega (arith, keeps.spread, keeps.beside.lines, was.spread);
    paced = omega (arith, keeps.spread, was.paced);
    none = λ never. let was_never = sym keeps.beside.every ∙ never in keeps.none was_never ∙ was.none was_never;
  }

-- ---- the lines of a source

joined_push : (whole : List (List ℕ)) (line : List ℕ) → joined_lines (whole ++ line ∷ []) ≡ joined_lines whole ++ (line ++ LF ∷ [])
joined_push [] line = refl
joined_push (x ∷ whole) line = ap (λ w. x ++ LF ∷ w) (joined_push whole line) ∙ sym (append_assoc x (LF ∷ joined_lines whole) (line ++ LF ∷ []))

asking_append : (xs ys : List (List ℕ)) → asking_lines (xs ++ ys) ≡ asking_lines xs ++ asking_lines ys
asking_append xs ys = ap (λ w. filter is_request_line w) (map-append without_cr xs ys) ∙ filter-append is_request_line (map without_cr xs) (map without_cr ys)

-- the source had given all that is held, and gave more
gave_on : (source old new : Supply) (lines held read rest : List ℕ) → Gave source old (lines ++ held) → Gave old new read → held ++ read ≡ rest → Gave source new (lines ++ rest)
gave_on source old new lines held read rest so_far more is = subst (λ w. Gave source new w) (append_assoc lines held read ∙ ap (λ w. lines ++ w) is) (reads.then so_far more)

-- all that it had left, where that is known of what was read last
had_all : (source old : Supply) (lines held read rest : List ℕ) → Gave source old (lines ++ held) → HadNoMore old read → held ++ read ≡ rest → HadNoMore source (lines ++ rest)
had_all source old lines held read rest so_far over is left told =
    let first = so_far.first left told in
    first.2 ∙ ap (λ w. (lines ++ held) ++ w) (over first.0 first.1) ∙ append_assoc lines held read ∙ ap (λ w. lines ++ w) is

rose_since : (first old new : ℕ) → first ≤ old → Rose old new → Rose first new
rose_since first old new kept rose = omega (arith, kept, rose)

some_bytes : (bytes : List ℕ) → bytes ≢ [] → 0 < length bytes
some_bytes [] some = absurd (some refl)
some_bytes (c ∷ bytes) some = omega arith

-- what the laws of lines say
abbrev pub OneAsked : Type 0
OneAsked = (line : List ℕ) → is_within_line line ≡ true → request_lines line ≡ asking_lines (line ∷ [])

abbrev pub AllAsked : Type 0
AllAsked = (lines : List (List ℕ)) (last : List ℕ) → list_all is_within_line lines ≡ true → is_within_line last ≡ true → request_lines (joined_lines lines ++ last) ≡ asking_lines (lines ++ last ∷ [])

-- a line has one request line at the most
at_most_one : (line : List ℕ) → length (asking_lines (line ∷ [])) ≤ 1
at_most_one line = elim (is_request_line (without_cr line)) as (λ b. length (cond b (without_cr line ∷ []) []) ≤ 1) [
  | true ↦ omega arith
  | false ↦ omega arith
]

pub none_left : OneAsked → (line : List ℕ) → is_within_line line ≡ true → (taken : List ℕ) (left : List (List ℕ)) → request_lines line ≡ taken ∷ left → left ≡ []
none_left one line within taken [] is = refl
none_left one line within taken (x ∷ left) is = absurd (omega (arith, at_most_one line, ap length (one line within), ap length is))

module _ (one : OneAsked) (all : AllAsked) (whole : List (List ℕ)) (within : list_all is_within_line whole ≡ true) where
  pub asked_whole : request_lines (joined_lines whole ++ []) ≡ asking_lines whole
  asked_whole = all whole [] within refl ∙ asking_append whole ([] ∷ []) ∙ append-nil (asking_lines whole)

  asked_last : (line : List ℕ) → is_within_line line ≡ true → request_lines (joined_lines whole ++ line) ≡ request_lines (joined_lines whole ++ []) ++ request_lines line
  asked_last line is = all whole line within is ∙ asking_append whole (line ∷ []) ∙ ap (λ w. w ++ asking_lines (line ∷ [])) (sym asked_whole) ∙ ap (λ w. request_lines (joined_lines whole ++ []) ++ w) (sym (one line is))

  all_within : (line : List ℕ) → is_within_line line ≡ true → list_all is_within_line (whole ++ line ∷ []) ≡ true
  all_within line is = rw (list_all-append is_within_line whole (line ∷ []), within, is) refl

  asked_push : (line : List ℕ) → is_within_line line ≡ true → request_lines (joined_lines (whole ++ line ∷ []) ++ []) ≡ request_lines (joined_lines whole ++ []) ++ request_lines line
  asked_push line is =
      all (whole ++ line ∷ []) [] (all_within line is) refl ∙ asking_append (whole ++ line ∷ []) ([] ∷ []) ∙ append-nil (asking_lines (whole ++ line ∷ [])) ∙ asking_append whole (line ∷ [])
      ∙ ap (λ w. w ++ asking_lines (line ∷ [])) (sym asked_whole) ∙ ap (λ w. request_lines (joined_lines whole ++ []) ++ w) (sym (one line is))

pub none_spread : (calls every since : ℕ) → calls ≡ 0 → since ≡ 0 → calls * every + since ≡ 0
none_spread calls every since none first = rw (none, first) (omega arith)

-- as it begins nothing was heard
pub heard_none : {A : Type 0} (v : servers.Ghosts A) (root : Puid) (lines : LinesReading) (talk : Talking A) → (lines.held ≡ []) × (lines.ended ≡ false) → IsNewPort root talk.port → talk.port.lines ≡ []
    → talk.logged.events ≡ [] → lines_spread v talk ≡ 0 → called_in v talk ≡ 0 → talk.lines ≡ most_lines → HasHeardLines v root lines.supply talk.port.sink lines talk
heard_none v root lines talk begins new unread none spread called most = record {
  whole = [];
  within = refl;
  last = [];
  last_within = refl;
  gave = rw begins.0 (record { kept = omega arith; first = λ left told. (left, told, refl) });
  goes_on = record {
    answered = λ later. rw none (fresh_session root 0 (record { lines = later; sink = talk.port.sink }) (record talk.port { lines = later }) (record { lines = refl; sink = refl; new = record { names = new.names; goes = new.goes; stays = new.stays } }));
    unread = unread;
    stays = new.stays;
    spread = omega (arith, spread, most);
    paced = omega (arith, spread);
    none = λ never. called;
  };
  few = omega (arith, most);
  more = λ unended. (refl, omega (arith, most));
  over = λ ended. absurd (cc (begins.1, ended));
}

module _ {A : Type 0} (v : servers.Ghosts A) (root : Puid) (source : Supply) (sink : Intake) (l : LinesReading) (talk : Talking A) (was : HasHeardLines v root source sink l talk) where
  -- the source isn't asked for more before each line has its reply
  pub answered_all : AllAsked → OneAsked → talk.port.failed ≡ false → l.ended ≡ false → HasAnsweredLines 0 source sink l.supply talk.port.sink l.held
  answered_all all one goes unended = record {
    lines = was.whole;
    whole = was.within;
    gave = subst (λ w. Gave source l.supply (w ++ l.held)) (ap (λ w. joined_lines was.whole ++ w) none ∙ append-nil (joined_lines was.whole)) was.gave;
    turns = turns_in 0 talk.logged.events;
    mine = all_passing (is_turn_of 0) talk.logged.events;
    each = omega (arith, session.counted, ap length same);
    replied = rw (← printed_turns 0 talk.logged.events) (subst (λ b. Replied sink talk.port.sink (printed_replies 0 talk.logged.events) (not b)) goes session.replied);
  }
    where
      none : was.last ≡ []
      none = (was.more unended).0

      session : IsSession root 0 (record { lines = request_lines (joined_lines was.whole ++ was.last) ++ []; sink = sink }) (record talk.port { lines = [] }) talk.logged.events
      session = was.goes_on.answered []

      same : request_lines (joined_lines was.whole ++ was.last) ++ [] ≡ asking_lines was.whole
      same = append-nil (request_lines (joined_lines was.whole ++ was.last)) ∙ ap (λ w. request_lines (joined_lines was.whole ++ w)) none ∙ asked_whole one all was.whole was.within

  -- a line came, and was taken
  module _ (one : OneAsked) (all : AllAsked) (m : LinesReading) (new : Talking A) (unended : l.ended ≡ false) (fewer : new.lines + 1 ≡ talk.lines)
      (goes : TalkGoesOn v root sink (request_lines (joined_lines was.whole ++ was.last) ++ request_lines m.line) new) where
    none : was.last ≡ []
    none = (was.more unended).0

    so_far : Gave source l.supply (joined_lines was.whole ++ l.held)
    so_far = subst (λ w. Gave source l.supply (w ++ l.held)) (ap (λ w. joined_lines was.whole ++ w) none ∙ append-nil (joined_lines was.whole)) was.gave

    goes_first : TalkGoesOn v root sink (request_lines (joined_lines was.whole ++ []) ++ request_lines m.line) new
    goes_first = subst (λ w. TalkGoesOn v root sink (request_lines (joined_lines was.whole ++ w) ++ request_lines m.line) new) none goes

    pub heard_whole : TakesWholeLine l m → HasHeardLines v root source sink m new
    heard_whole takes = record {
      whole = was.whole ++ m.line ∷ [];
      within = all_within one all was.whole was.within m.line takes.within;
      last = [];
      last_within = refl;
      gave = subst (λ w. Gave source m.supply w) split (gave_on source l.supply m.supply (joined_lines was.whole) l.held takes.read (m.line ++ LF ∷ m.held) so_far takes.gave takes.split);
      goes_on = rw (asked_push one all was.whole was.within m.line takes.within) goes_first;
      few = omega (arith, count, (was.more unended).1, fewer);
      more = λ on. (refl, omega (arith, count, (was.more unended).1, fewer));
      over = λ ended. absurd (cc (takes.goes_on, ended));
    }
      where
        count : length (was.whole ++ m.line ∷ []) ≡ length was.whole + 1
        count = length-append was.whole (m.line ∷ [])

        split : joined_lines was.whole ++ (m.line ++ LF ∷ m.held) ≡ (joined_lines (was.whole ++ m.line ∷ []) ++ []) ++ m.held
        split = sym (ap (λ w. w ++ m.held) (append-nil (joined_lines (was.whole ++ m.line ∷ [])) ∙ joined_push was.whole m.line) ∙ append_assoc (joined_lines was.whole) (m.line ++ LF ∷ []) m.held
            ∙ ap (λ w. joined_lines was.whole ++ w) (append_assoc m.line (LF ∷ []) m.held))

    pub heard_last : TakesLastLine l m → HasHeardLines v root source sink m new
    heard_last takes = record {
      whole = was.whole;
      within = was.within;
      last = m.line;
      last_within = takes.within;
      gave = rw takes.over.0 (rw (append-nil (joined_lines was.whole ++ m.line)) (gave_on source l.supply m.supply (joined_lines was.whole) l.held takes.read m.line so_far takes.gave takes.split));
      goes_on = rw (asked_last one all was.whole was.within m.line takes.within) goes_first;
      few = omega (arith, (was.more unended).1, fewer);
      more = λ on. absurd (cc (takes.over.1, on));
      over = λ ended. (takes.over.0, had_all source l.supply (joined_lines was.whole) l.held takes.read m.line so_far (takes.at_end unended) takes.split);
    }

    pub heard_next : TakesWholeLine l m ⊎ TakesLastLine l m → HasHeardLines v root source sink m new
    heard_next (inl takes) = heard_whole takes
    heard_next (inr takes) = heard_last takes

  -- ---- its end

  -- what was heard, and then some bytes that weren't answered
  abbrev heard_then : (m : Supply) (read rest : List ℕ) → Gave l.supply m read → l.held ++ read ≡ rest → (was.last ≡ []) ⊎ ((rest ≡ []) × HadNoMore source (joined_lines was.whole ++ was.last))
      → HasHeard source m (request_lines (joined_lines was.whole ++ was.last)) rest
  heard_then m read rest gave is end = record {
    lines = was.whole;
    whole = was.within;
    last = was.last;
    within = was.last_within;
    gave = gave_on source l.supply m (joined_lines was.whole ++ was.last) l.held read rest was.gave gave is;
    heard_are = refl;
    last_at_end = end;
  }

  pub ends_broken : talk.port.failed ≡ true → EndsTalk v root source sink l talk ends.Broken
  ends_broken broken = record {
    lines_heard = request_lines (joined_lines was.whole ++ was.last);
    rest = l.held;
    heard = heard_then l.supply [] l.held (record { kept = omega arith; first = λ left told. (left, told, refl) }) (append-nil l.held) (at l.ended refl);
    few = omega (arith, was.few);
    why = broken;
    goes_on = was.goes_on;
  }
    where
      at : (b : Bool) → l.ended ≡ b → (was.last ≡ []) ⊎ ((l.held ≡ []) × HadNoMore source (joined_lines was.whole ++ was.last))
      at true is = inr (was.over is)
      at false is = inl (was.more is).0

  pub ends_ended : (m : LinesReading) → talk.port.failed ≡ false → TakesLastLine l m → m.line ≡ [] → EndsTalk v root source sink m talk ends.Ended
  ends_ended m goes takes empty = record {
    lines_heard = request_lines (joined_lines was.whole ++ was.last);
    rest = [];
    heard = heard_then m.supply takes.read [] takes.gave (takes.split ∙ empty) (inr (refl, over));
    few = omega (arith, was.few);
    why = (refl, over, goes);
    goes_on = was.goes_on;
  }
    where
      at : (b : Bool) → l.ended ≡ b → HadNoMore source (joined_lines was.whole ++ was.last)
      at true is = (was.over is).1
      at false is = subst (λ w. HadNoMore source w) (append-nil (joined_lines was.whole ++ was.last))
          (had_all source l.supply (joined_lines was.whole ++ was.last) l.held takes.read [] was.gave (takes.at_end is) (takes.split ∙ empty))

      over : HadNoMore source (joined_lines was.whole ++ was.last)
      over = at l.ended refl

  module _ (m : LinesReading) (unended : l.ended ≡ false) (goes : talk.port.failed ≡ false) where
    pub ends_failed : RefusesLine l m faults.Failed → EndsTalk v root source sink m talk ends.Failed
    ends_failed refuses = record {
      lines_heard = request_lines (joined_lines was.whole ++ was.last);
      rest = l.held ++ refuses.read;
      heard = heard_then m.supply refuses.read (l.held ++ refuses.read) refuses.gave refl (inl (was.more unended).0);
      few = omega (arith, was.few);
      why = (rose_since source.faults l.supply.faults m.supply.faults was.gave.kept refuses.why.1, rw (refuses.split, refuses.why.0, append-nil refuses.begun) refuses.within, goes);
      goes_on = was.goes_on;
    }

    pub ends_long : RefusesLine l m faults.Long → EndsTalk v root source sink m talk ends.Long
    ends_long refuses = record {
      lines_heard = request_lines (joined_lines was.whole ++ was.last);
      rest = l.held ++ refuses.read;
      heard = heard_then m.supply refuses.read (l.held ++ refuses.read) refuses.gave refl (inl (was.more unended).0);
      few = omega (arith, was.few);
      why = (record { begun = refuses.begun; more = refuses.more; split = refuses.split; within = refuses.within; long = refuses.why }, goes);
      goes_on = was.goes_on;
    }

    ends_beyond : talk.lines ≡ 0 → (read rest : List ℕ) → Gave l.supply m.supply read → l.held ++ read ≡ rest → 0 < length rest → EndsTalk v root source sink m talk ends.LongTotal
    ends_beyond spent read rest gave is some = record {
      lines_heard = request_lines (joined_lines was.whole ++ was.last);
      rest = rest;
      heard = heard_then m.supply read rest gave is (inl (was.more unended).0);
      few = omega (arith, was.few);
      why = (omega (arith, (was.more unended).1, spent), some, goes);
      goes_on = was.goes_on;
    }

    pub ends_total : talk.lines ≡ 0 → TakesWholeLine l m ⊎ TakesLastLine l m → (m.ended ≡ true → m.line ≢ []) → EndsTalk v root source sink m talk ends.LongTotal
    ends_total spent (inl takes) some = ends_beyond spent takes.read (m.line ++ LF ∷ m.held) takes.gave takes.split (omega (arith, length-append m.line (LF ∷ m.held)))
    ends_total spent (inr takes) some = ends_beyond spent takes.read m.line takes.gave takes.split (some_bytes m.line (some takes.over.1))

-- ---- what it comes to

more_than : (calls n every lines : ℕ) → n ≤ calls + 1 → calls * every ≤ lines → n * every ≤ lines + every
more_than calls n every lines few paced = omega (arith, at)
  where
    product : (calls + 1) * every ≡ calls * every + every
    product = grind arith

    at : n * every ≤ calls * every + every
    at = omega (arith, mul-le-mul_right every few, product)

-- the session left after what was carried out, and the collector went on
leaves : {A : Type 0} (v : servers.Ghosts A) (root : Puid) (talk tidied left now : Talking A) → talk.port.has_left ≡ false → talk.port.lines ≡ [] → MakesTurns v talk tidied → LeavesTalk v tidied left → MovesBeside left now
    → (client : Client) → IsSession root 0 client talk.port talk.logged.events → IsSession root 0 client now.port now.logged.events
leaves v root talk tidied left now stays unread made leave beside client session =
    rw beside.port (session_same root 0 client left.port left.logged.events now.logged.events (rw leave.recorded gone) (beside.events 0))
  where
    here : IsSession root 0 client tidied.port tidied.logged.events
    here = rw made.beside.port (session_same root 0 client talk.port talk.logged.events tidied.logged.events session (made.beside.events 0))

    gone : IsSession root 0 client left.port (tidied.logged.events ++ events.Leave 0 leave.stopped ∷ [])
    gone = session_left root 0 client tidied.port tidied.logged.events here left.port (events.Leave 0 leave.stopped) (record {
      stopped = leave.stopped;
      is = refl;
      stays = rw made.beside.port stays;
      over = λ goes. rw made.beside.port unread;
      port = leave.port;
    })

begins_append : (xs ys : List Event) → begins_in (xs ++ ys) ≡ begins_in xs + begins_in ys
begins_append xs ys = ap length (filter-append is_begin xs ys) ∙ length-append (filter is_begin xs) (filter is_begin ys)

pub leaves_service : {A K : Type 0} (v : servers.Ghosts A) (t : Terms A) (talk tidied left now : Talking A) (s : Served A K) → talk.port.has_left ≡ false → talk.port.lines ≡ [] → MakesTurns v talk tidied → LeavesTalk v tidied left
    → CollectsLast v left now → ClosesTalk v t now s → LeavesService v t talk s
leaves_service v t talk tidied left now s stays unread made leave last closes = record {
  ports = closes.ports ∙ ap (λ (p : ports.PortReading). p ∷ []) (last.beside.port ∙ leave.port ∙ ap (λ (p : ports.PortReading). record p { has_left = true }) made.beside.port);
  ended = λ client session. closes.ended client (leaves v t.root talk tidied left now stays unread made leave last.beside client session);
  most = omega (arith, closes.called, last.most, leave.called, made.called);
  none = λ never. closes.called ∙ last.none (every ∙ never) ∙ leave.called ∙ made.called;
  last = λ some none. record {
    before = tidied.logged.events;
    after = last.made;
    stopped = leave.stopped;
    split = closes.events ∙ last.recorded ∙ ap (λ es. es ++ last.made) leave.recorded ∙ append_assoc tidied.logged.events (events.Leave 0 leave.stopped ∷ []) last.made;
    begun =
        let stopped = sym closes.refused ∙ none in
        let all : begins_in now.logged.events ≡ begins_in left.logged.events + begins_in last.made = ap begins_in last.recorded ∙ begins_append left.logged.events last.made in
        omega (arith, all, leave.begun (last.refused stopped), last.begun (rw every some) stopped);
  };
}
  where
    every : left.pace.every ≡ talk.pace.every
    every = ap (λ (p : Pace). p.every) leave.rest.0 ∙ made.beside.every

-- a session alone
pub heard_alone : {A : Type 0} (t : Terms A) (collections : ℕ) (client : Client) (p : ports.PortReading) (trail : List Event) → IsSession t.root 0 client p trail
    → ((k : ℕ) → 1 ≤ k → events_of_session k trail ≡ []) → (collections ≡ 0 → list_all is_no_step trail ≡ true) → AreHeard (charter_with t collections client) trail (p ∷ [])
heard_alone t collections client p trail session alone quiet = record {
  count = refl;
  each = each;
  none = λ k past. alone k past;
  sessions = quiet;
}
  where
    each : (k : ℕ) (x : Client) (q : ports.PortReading) → slice_get (client ∷ []) k ≡ Some x → slice_get (p ∷ []) k ≡ Some q → IsSession t.root k x q trail
    each zero x q is at = subst (λ (y : Client). IsSession t.root 0 y q trail) (some_same client x is) (subst (λ (y : ports.PortReading). IsSession t.root 0 client y trail) (some_same p q at) session)
    each (suc k) x q is at = absurd (cc is)

pub talks_by : {A K : Type 0} (v : servers.Ghosts A) (t : Terms A) (port : ports.PortReading) (every : ℕ) (source : Supply) (sink : Intake) (lines : LinesReading) (source_after : Supply) (talk : Talking A) (end : TalkEnd) (s : Served A K)
    → port.sink ≡ sink → EndsTalk v t.root source sink lines talk end → lines.supply ≡ source_after → talk.pace.every ≡ every → LeavesService v t talk s → TalksBy v t port every source source_after sink end s
talks_by v t port every source sink lines source_after talk end s taken over same paced leaves = subst (λ w. TalksBy v t port every source w sink end s) same (record {
  heard = over.lines_heard;
  after = record talk.port { has_left = true };
  collections = (v.tally s.server).called;
  ports = leaves.ports;
  has_left = refl;
  talk = record {
    rest = over.rest;
    heard = over.heard;
    few = over.few;
    sink_is = taken;
    ends = over.why;
    paced = record {
      none = λ never. leaves.none (paced ∙ never) ∙ over.goes_on.none (paced ∙ never);
      most = rw (← paced) (more_than (called_in v talk) (v.tally s.server).called talk.pace.every (length over.lines_heard) leaves.most (omega (arith, over.goes_on.paced)));
    };
    last = rw (← paced) leaves.last;
  };
  ended = leaves.ended (record { lines = over.lines_heard; sink = port.sink }) (rw taken session);
})
  where
    session : IsSession t.root 0 (record { lines = over.lines_heard; sink = sink }) talk.port talk.logged.events
    session = subst (λ ls. IsSession t.root 0 (record { lines = over.lines_heard; sink = sink }) (record talk.port { lines = ls }) talk.logged.events) (sym over.goes_on.unread)
        (subst (λ ls. IsSession t.root 0 (record { lines = ls; sink = sink }) (record talk.port { lines = [] }) talk.logged.events) (append-nil over.lines_heard) (over.goes_on.answered []))

only_left : (ps : List ports.PortReading) (p : ports.PortReading) → ps ≡ p ∷ [] → p.has_left ≡ true → AllLeft ps
only_left ps p is left k = ap (λ w. has_left_at (slice_get w k)) is ∙ at k
  where
    at : (k : ℕ) → has_left_at (slice_get (p ∷ []) k) ≡ true
    at zero = left
    at (suc k) = refl

-- by the server that was handed in
pub talked : {A K : Type 0} (v : servers.Ghosts A) (server : A) (trail : Recorded) (port : ports.PortReading) (lines : LinesReading) (every : ℕ) (source_after : Supply) (end : TalkEnd) (s : Served A K)
    → IsTalkReady v server trail port lines every → TalksBy v (charter v server (port ∷ []) 0) port every lines.supply source_after port.sink end s
    → HasTalked v server every lines.supply source_after port.sink end s
talked v server trail port lines every source_after end s ready talks = record {
  port = record port { lines = talks.heard };
  after = talks.after;
  collections = talks.collections;
  new = record { names = ready.new.names; goes = ready.new.goes; stays = ready.new.stays };
  ports = talks.ports;
  talk = talks.talk;
  served = served_so v server (record port { lines = talks.heard } ∷ []) talks.collections s talks.ended (only_left s.ports.items talks.after talks.ports talks.has_left);
}
