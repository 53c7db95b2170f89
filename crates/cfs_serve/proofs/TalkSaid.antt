-- What `top` says of a conversation, from what it came to.
use Rattle.std.proofs.Common.{◌≡◌, ◌⊎◌, inl, inr, ℕ, Bool, true, false, List, [], length, Option, Some, None, IsNone, IsSome, refl, sym, ap, ◌∙◌, subst, arith}
use Rattle.cfs_serve.proofs.Cited.{Cause, Counts, DiskFailed, Ending, Event, Graph, Ground, HasPlaces, IsTextBy, IsWholeRun, NoCountRose, Outside, Replied, Report, RoseIn, SinkFailed, VolumeRefused, last_cause, not_begun, printed_line, report_text, status_at_end}
use Rattle.cfs_serve.specs.declared.report.Cause.TheVariants as causes
use Rattle.cfs_serve.specs.Conversed.{IsWithinTalks, SaidOfTalk, TalkEndedWell, TalkLimitPassed, TalkSourceFailed}
use Rattle.cfs_serve.specs.Names.{places_in}
use Rattle.cfs_serve.specs.Talk.{HasNotConversed, talk_cause}
use Rattle.cfs_serve.specs.Whole.{AsksTalk, HaveConversed}
use Rattle.cfs_serve.specs.Words.{Conversation, Converses}
use Rattle.cfs_serve.proofs.Because as why
use Rattle.cfs_serve.proofs.NoneServed.{clash, clash-sym}
use Rattle.cfs_serve.proofs.TalkShown.{Why, conversed_why, none_why, not_nothing}

module _ (talk : Conversation) (ground : Ground) (old new : Outside) (counts : Option Counts) (trail : List Event) where
  abbrev telling : Cause → Report
  telling cause = record { counts = counts; faults = []; cause = cause }

  abbrev Shows : Cause → Type 0
  Shows cause = Why ground old new counts trail cause

  abbrev Taken : Cause → Bool → Type 0
  Taken cause written = Replied old.report new.report (report_text (telling cause)) written

  -- ---- what each status says

  well : (cause : Cause) (written : Bool) → Shows cause → Taken cause written → status_at_end written cause ≡ 0 → TalkEndedWell (telling cause) trail old new
  well causes.Nothing true shows wrote is = record {
    served = shows.served;
    nothing = refl;
    answered = shows.answered;
    replied = shows.replied;
    memory = shows.memory;
    calm = shows.calm;
    reported = wrote;
  }
  well (causes.Page page) written shows wrote is = absurd shows
  well (causes.Legal n) written shows wrote is = absurd shows
  well (causes.Sound objects left) written shows wrote is = absurd shows
  well cause true shows wrote is = absurd (omega (arith, is))
  well cause false shows wrote is = absurd (omega (arith, is))

  no_words : (cause : Cause) (written : Bool) → Shows cause → ¬ (status_at_end written cause ≡ 2)
  no_words causes.Words written shows is = shows
  no_words cause true shows is = omega (arith, is)
  no_words cause false shows is = omega (arith, is)

  no_verdict : (cause : Cause) (written : Bool) → Shows cause → ¬ (status_at_end written cause ≡ 8)
  no_verdict (causes.BadLine line) written shows is = shows
  no_verdict (causes.Illegal event) written shows is = shows
  no_verdict cause true shows is = omega (arith, is)
  no_verdict cause false shows is = omega (arith, is)

  refused_by : (cause : Cause) (written : Bool) → Shows cause → status_at_end written cause ≡ 3 → VolumeRefused ground (telling cause)
  refused_by (causes.Volume fault) written shows is = ((fault, refl, shows.1), shows.0)
  refused_by cause true shows is = absurd (omega (arith, is))
  refused_by cause false shows is = absurd (omega (arith, is))

  failed_by : (cause : Cause) (written : Bool) → Shows cause → status_at_end written cause ≡ 4 → DiskFailed (telling cause) old new
  failed_by (causes.Disk moment) written shows is = ((moment, refl), shows)
  failed_by cause true shows is = absurd (omega (arith, is))
  failed_by cause false shows is = absurd (omega (arith, is))

  sink_by : (cause : Cause) (written : Bool) → Shows cause → Taken cause written → status_at_end written cause ≡ 5 → SinkFailed (telling cause) old new
  sink_by causes.Sink written shows wrote is = inl (shows.0, refl, shows.1)
  sink_by causes.Nothing false shows wrote is = inr (refl, wrote.failed)
  sink_by causes.Memory false shows wrote is = inr (refl, wrote.failed)
  sink_by (causes.Page page) written shows wrote is = absurd shows
  sink_by (causes.Legal n) written shows wrote is = absurd shows
  sink_by (causes.Sound objects left) written shows wrote is = absurd shows
  sink_by cause true shows wrote is = absurd (omega (arith, is))
  sink_by cause false shows wrote is = absurd (omega (arith, is))

  source_by : (cause : Cause) (written : Bool) → Shows cause → status_at_end written cause ≡ 6 → TalkSourceFailed (telling cause) old new
  source_by (causes.Source n) written shows is = (shows.1, ap causes.Source shows.0, shows.2)
  source_by cause true shows is = absurd (omega (arith, is))
  source_by cause false shows is = absurd (omega (arith, is))

  passed_by : (cause : Cause) (written : Bool) → Shows cause → status_at_end written cause ≡ 9 → TalkLimitPassed (telling cause) old new
  passed_by (causes.Long n) written shows is = (shows.0, shows.1)
  passed_by causes.LongTotal written shows is = (shows.0, shows.1)
  passed_by causes.LongVolume written shows is = absurd shows
  passed_by cause true shows is = absurd (omega (arith, is))
  passed_by cause false shows is = absurd (omega (arith, is))

  module _ (quiet : NoCountRose old new) where
    complete : IsWithinTalks old new → (cause : Cause) (written : Bool) → Shows cause → Taken cause written → (graph : Graph) → ground.reads graph → (status_at_end written cause ≡ 0) ⊎ (status_at_end written cause ≡ 7)
    complete within causes.Nothing true shows wrote graph reads = inl refl
    complete within causes.Memory true shows wrote graph reads = inr refl
    complete within causes.Nothing false shows wrote graph reads = absurd (quiet.report wrote.failed)
    complete within causes.Memory false shows wrote graph reads = absurd (quiet.report wrote.failed)
    complete within (causes.Volume fault) written shows wrote graph reads = absurd (shows.0 graph reads)
    complete within (causes.Disk moment) written shows wrote graph reads = absurd (quiet.disk shows)
    complete within causes.Sink written shows wrote graph reads = absurd (quiet.sinks shows.1)
    complete within (causes.Source n) written shows wrote graph reads = absurd (quiet.sources shows.2)
    complete within (causes.Long n) written shows wrote graph reads = absurd (shows.2 within)
    complete within causes.LongTotal written shows wrote graph reads = absurd (shows.2 within)
    complete within cause written shows wrote graph reads = absurd shows

    refused : (cause : Cause) (written : Bool) → (IsSome counts → ⊥) → Shows cause → Taken cause written → (status_at_end written cause ≡ 3) ⊎ (status_at_end written cause ≡ 7)
    refused causes.Nothing written none shows wrote = absurd (none shows.served)
    refused (causes.Volume fault) true none shows wrote = inl refl
    refused (causes.Volume fault) false none shows wrote = inl refl
    refused causes.Memory true none shows wrote = inr refl
    refused causes.Memory false none shows wrote = absurd (quiet.report wrote.failed)
    refused (causes.Disk moment) written none shows wrote = absurd (quiet.disk shows)
    refused causes.Sink written none shows wrote = absurd (none shows.0)
    refused (causes.Source n) written none shows wrote = absurd (none shows.1)
    refused (causes.Long n) written none shows wrote = absurd (none shows.0)
    refused causes.LongTotal written none shows wrote = absurd (none shows.0)
    refused cause written none shows wrote = absurd shows

  -- ---- all of it

  -- what a run came to, but for the cause
  pub record CameTo (ending : Ending) (cause : Cause) : Type 0 where
    pub places : HasPlaces (Converses talk) (length new.sources) (length new.sinks)
    pub unserved : IsNone counts → (trail ≡ []) × (new.sources ≡ old.sources) × (new.sinks ≡ old.sinks) × (ending ≡ not_begun) × ¬ (cause ≡ causes.Nothing)
    pub sound : IsSome counts → ¬ ground.unsound
    pub shows : Shows cause

  pub said_by : (ending : Ending) (cause : Cause) (status : ℕ) (written : Bool) → CameTo ending cause → Taken cause written → status ≡ status_at_end written cause
      → SaidOfTalk talk ground old new (telling cause) status ending trail
  said_by ending cause status written came wrote is =
      let so : (n : ℕ) → status ≡ n → status_at_end written cause ≡ n = λ n e. sym is ∙ e in
      record {
        places = came.places;
        unserved = came.unserved;
        sound = came.sound;
        bare = refl;
        reported = why.reported (Converses talk) ground old new counts [] trail (report_text (telling cause)) written wrote;
        is_status = rw is (why.status (Converses talk) ground old new counts [] trail cause (report_text (telling cause)) written wrote);
        status_0 = λ e. well cause written came.shows wrote (so 0 e);
        status_2 = λ e. no_words cause written came.shows (so 2 e);
        status_3 = λ e. refused_by cause written came.shows (so 3 e);
        told_3 = λ fault e. is ∙ ap (status_at_end written) e ∙ why.is_3 (Converses talk) ground old new counts [] trail false fault written;
        status_4 = λ e. failed_by cause written came.shows (so 4 e);
        status_5 = λ e. sink_by cause written came.shows wrote (so 5 e);
        status_6 = λ e. source_by cause written came.shows (so 6 e);
        status_7 = λ e. why.status_7 (Converses talk) ground old new counts [] trail cause (report_text (telling cause)) written wrote (so 7 e);
        status_8 = λ e. no_verdict cause written came.shows (so 8 e);
        status_9 = λ e. passed_by cause written came.shows (so 9 e);
        complete = λ within quiet graph reads. rw is (complete quiet within cause written came.shows wrote graph reads);
        refused = λ quiet unsound. rw is (refused quiet cause written (λ some. came.sound some unsound) came.shows wrote);
      }

-- ---- every run

pub said_of_talk : (talk : Conversation) (ground : Ground) (old new : Outside) (told : Report) (status : ℕ) (ending : Ending) (trail : List Event) → HasPlaces (Converses talk) (length old.sources) (length old.sinks)
    → IsWholeRun (Converses talk) ground (places_in old) (places_in new) old.report new.report told status ending trail → SaidOfTalk talk ground old new told status ending trail
said_of_talk talk ground old new told status ending trail given whole = by whole.run.run
  where
    asks : AsksTalk ground talk.seed talk.every (places_in old) (places_in new) told ending trail
    asks = whole.run

    places : HasPlaces (Converses talk) (length new.sources) (length new.sinks)
    places = (asks.sources ∙ given.0, asks.sinks ∙ given.1)

    unprinted : (counts : Option Counts) → printed_line (Converses talk) counts ≡ None
    unprinted None = refl
    unprinted (Some counts) = refl

    plain : (whole.short ≡ false) × (whole.text ≡ report_text told)
    plain = subst (λ line. IsTextBy line told trail whole.short whole.text) (unprinted told.counts) whole.is_text

    taken : Replied old.report new.report (report_text told) whole.written
    taken = subst (λ t. Replied old.report new.report t whole.written) plain.1 whole.reported

    status_is : status ≡ status_at_end whole.written told.cause
    status_is = whole.said ∙ ap (λ b. status_at_end whole.written (last_cause b told.cause)) plain.0

    by : HaveConversed ground talk.seed talk.every (places_in old) (places_in new) told ending trail
        ⊎ HasNotConversed ground (RoseIn old.disk new.disk) old.sources new.sources old.sinks new.sinks told ending trail → SaidOfTalk talk ground old new told status ending trail
    by (inl have) = rw have.told (said_by talk ground old new (Some have.counts) trail ending (talk_cause have.cause have.end) status whole.written (record {
      places = places;
      unserved = λ none. absurd (clash none);
      sound = λ some. have.conversed.sound;
      shows = conversed_why ground talk.seed talk.every old new told ending trail have;
    }) (rw have.told at taken) (rw have.told at status_is))
    by (inr none) = rw none.nothing.told (said_by talk ground old new None trail ending none.cause status whole.written (record {
      places = places;
      unserved = λ no. (none.nothing.no_event, none.unread, none.nothing.untouched, none.nothing.no_end, not_nothing ground (RoseIn old.disk new.disk) none.cause none.is);
      sound = λ some. absurd (clash-sym some);
      shows = none_why ground old new trail none.cause none.is;
    }) (rw none.nothing.told at taken) (rw none.nothing.told at status_is))
