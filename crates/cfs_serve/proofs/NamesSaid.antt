-- What `top` says of lines of names, from what they came to.
use Rattle.std.proofs.Common.{◌≡◌, ◌⊎◌, inl, inr, ℕ, ◌<◌, ◌||◌, Bool, true, false, not, List, [], ◌∷◌, length, Option, Some, None, IsNone, IsSome, refl, sym, ap, ◌∙◌, subst, arith, get_or, length-append, slice_get, ◌≤◌, ◌++◌}
use Rattle.cfs_serve.proofs.Cited.{AreWithinLimits, Cause, Counts, DiskFailed, EachSink, EachSource, Ending, Event, Graph, Ground, HadLeft, HasNone, HasPlaces, IsStopTold, IsTextBy, IsUnservedCause, IsWholeRun, LimitPassed, NoCountRose, Outside, Replied, Report, Rose, RoseIn, SinkFailed, SomeRose, SourceFailed, Supply, VolumeRefused, Wrote, has_fallen, is_short, length-map, list_any, last_cause, moment_in, most_script, not_begun, printed_line, report_text, request_lines, sink_faults, slice_get-get_or, slice_index_or, source_faults, status_at_end}
use Rattle.cfs_serve.specs.declared.report.Cause.TheVariants as causes
use Rattle.cfs_serve.specs.Named.{AreNamesServed, ServesNames}
use Rattle.cfs_serve.specs.Names.{NamesEndedWell, SaidOfNames, places_in}
use Rattle.cfs_serve.specs.Played.{ServesNone}
use Rattle.cfs_serve.specs.Top.{IsOverLimit}
use Rattle.cfs_serve.specs.Whole.{AsksNames, HaveNames}
use Rattle.cfs_serve.specs.Words.{Dirs, NamesService}
use Rattle.name_lines.specs.declared.answer.Answer.{Answer}
use Rattle.name_lines.specs.Printed.{printed_answers, is_disk_answer, is_memory_answer}
use Rattle.cfs_serve.proofs.Because as why
use Rattle.cfs_serve.proofs.Endings.{Shown, shown_by, stop_told_by, well_by}
use Rattle.cfs_serve.proofs.Lists.{each_one, one_item, one_rose}
use Rattle.cfs_serve.proofs.NoneServed.{clash, clash-sym}
use Rattle.cfs_serve.proofs.Scripted.{had_count}
use Rattle.cfs_serve.proofs.Scripted as scripted

module _ (names : NamesService) (ground : Ground) (old new : Outside) (counts : Option Counts) where
  abbrev telling : Cause → Report
  telling cause = record { counts = counts; faults = []; cause = cause }

  abbrev Within : Type 0
  Within = (scripts : List (List ℕ)) → HadLeft old scripts → AreWithinLimits scripts

  abbrev Past : Type 0
  Past = (scripts : List (List ℕ)) → HadLeft old scripts → ¬ (AreWithinLimits scripts)

  -- ---- what a cause shows

  -- each line was answered, and each answer taken
  pub record AllAnswered : Type 0 where
    pub served : IsSome counts
    pub sound : ¬ ground.unsound
    pub within_limits : Within
    pub answers : List Answer
    pub answered : EachSource (λ _ source _. (left : List ℕ) → source.left ≡ Some left → length answers ≡ length (request_lines left)) old new
    pub replied : EachSink (λ _ sink sink_after. Wrote sink sink_after (printed_answers answers)) old new
    pub calm : (list_any is_disk_answer answers ≡ false) × (list_any is_memory_answer answers ≡ false)

  abbrev Over : Cause → Type 0
  Over cause = IsNone counts × IsOverLimit (Dirs names) ground cause old new × Past

  abbrev pub Why : Cause → Type 0
  Why causes.Nothing = AllAnswered
  Why (causes.Volume fault) = HasNone ground × Within × (IsNone counts → ground.faulty fault)
  Why (causes.Disk moment) = RoseIn old.disk new.disk × Within
  Why causes.Sink = IsSome counts × Within × SomeRose (sink_faults old) (sink_faults new)
  Why (causes.Source n) = SourceFailed (telling (causes.Source n)) old new × SomeRose (source_faults old) (source_faults new)
  Why causes.Memory = Unit {0}
  Why (causes.Long n) = Over (causes.Long n)
  Why causes.LongTotal = Over causes.LongTotal
  Why cause = ⊥

  abbrev Taken : Cause → Bool → Type 0
  Taken cause written = Replied old.report new.report (report_text (telling cause)) written

  -- ---- what each status says

  well : (cause : Cause) (written : Bool) → Why cause → Taken cause written → status_at_end written cause ≡ 0 → NamesEndedWell (telling cause) old new
  well causes.Nothing true shows wrote is = record {
    served = shows.served;
    nothing = refl;
    answers = shows.answers;
    answered = shows.answered;
    replied = shows.replied;
    calm = shows.calm;
    reported = wrote;
  }
  well (causes.Page page) written shows wrote is = absurd shows
  well (causes.Legal n) written shows wrote is = absurd shows
  well (causes.Sound objects left) written shows wrote is = absurd shows
  well cause true shows wrote is = absurd (omega (arith, is))
  well cause false shows wrote is = absurd (omega (arith, is))

  no_words : (cause : Cause) (written : Bool) → Why cause → ¬ (status_at_end written cause ≡ 2)
  no_words causes.Words written shows is = shows
  no_words cause true shows is = omega (arith, is)
  no_words cause false shows is = omega (arith, is)

  no_verdict : (cause : Cause) (written : Bool) → Why cause → ¬ (status_at_end written cause ≡ 8)
  no_verdict (causes.BadLine line) written shows is = shows
  no_verdict (causes.Illegal event) written shows is = shows
  no_verdict cause true shows is = omega (arith, is)
  no_verdict cause false shows is = omega (arith, is)

  refused_by : (cause : Cause) (written : Bool) → Why cause → status_at_end written cause ≡ 3 → VolumeRefused ground (telling cause)
  refused_by (causes.Volume fault) written shows is = ((fault, refl, shows.2), shows.0)
  refused_by cause true shows is = absurd (omega (arith, is))
  refused_by cause false shows is = absurd (omega (arith, is))

  failed_by : (cause : Cause) (written : Bool) → Why cause → status_at_end written cause ≡ 4 → DiskFailed (telling cause) old new
  failed_by (causes.Disk moment) written shows is = ((moment, refl), shows.0)
  failed_by cause true shows is = absurd (omega (arith, is))
  failed_by cause false shows is = absurd (omega (arith, is))

  sink_by : (cause : Cause) (written : Bool) → Why cause → Taken cause written → status_at_end written cause ≡ 5 → SinkFailed (telling cause) old new
  sink_by causes.Sink written shows wrote is = inl (shows.0, refl, shows.2)
  sink_by causes.Nothing false shows wrote is = inr (refl, wrote.failed)
  sink_by causes.Memory false shows wrote is = inr (refl, wrote.failed)
  sink_by (causes.Page page) written shows wrote is = absurd shows
  sink_by (causes.Legal n) written shows wrote is = absurd shows
  sink_by (causes.Sound objects left) written shows wrote is = absurd shows
  sink_by cause true shows wrote is = absurd (omega (arith, is))
  sink_by cause false shows wrote is = absurd (omega (arith, is))

  source_by : (cause : Cause) (written : Bool) → Why cause → status_at_end written cause ≡ 6 → SourceFailed (telling cause) old new
  source_by (causes.Source n) written shows is = shows.0
  source_by cause true shows is = absurd (omega (arith, is))
  source_by cause false shows is = absurd (omega (arith, is))

  passed_by : (cause : Cause) (written : Bool) → Why cause → status_at_end written cause ≡ 9 → LimitPassed (Dirs names) ground (telling cause) old new
  passed_by (causes.Long n) written shows is = (shows.0, shows.1)
  passed_by causes.LongTotal written shows is = (shows.0, shows.1)
  passed_by causes.LongVolume written shows is = absurd shows
  passed_by cause true shows is = absurd (omega (arith, is))
  passed_by cause false shows is = absurd (omega (arith, is))

  over : (cause : Cause) (written : Bool) → Why cause → (scripts : List (List ℕ)) → HadLeft old scripts → ¬ (AreWithinLimits scripts)
      → (status_at_end written cause ≡ 9) ⊎ (cause ≡ causes.Memory) ⊎ (status_at_end written cause ≡ 6)
  over causes.Nothing written shows scripts had past = absurd (past (shows.within_limits scripts had))
  over (causes.Volume fault) written shows scripts had past = absurd (past (shows.1 scripts had))
  over (causes.Disk moment) written shows scripts had past = absurd (past (shows.1 scripts had))
  over causes.Sink written shows scripts had past = absurd (past (shows.1 scripts had))
  over causes.Memory written shows scripts had past = inr (inl refl)
  over (causes.Source n) true shows scripts had past = inr (inr refl)
  over (causes.Source n) false shows scripts had past = inr (inr refl)
  over (causes.Long n) true shows scripts had past = inl refl
  over (causes.Long n) false shows scripts had past = inl refl
  over causes.LongTotal true shows scripts had past = inl refl
  over causes.LongTotal false shows scripts had past = inl refl
  over cause written shows scripts had past = absurd shows

  module _ (scripts : List (List ℕ)) (had : HadLeft old scripts) (few : AreWithinLimits scripts) (quiet : NoCountRose old new) where
    complete : (cause : Cause) (written : Bool) → Why cause → Taken cause written → (graph : Graph) → ground.reads graph → (status_at_end written cause ≡ 0) ⊎ (status_at_end written cause ≡ 7)
    complete causes.Nothing true shows wrote graph reads = inl refl
    complete causes.Memory true shows wrote graph reads = inr refl
    complete causes.Nothing false shows wrote graph reads = absurd (quiet.report wrote.failed)
    complete causes.Memory false shows wrote graph reads = absurd (quiet.report wrote.failed)
    complete (causes.Volume fault) written shows wrote graph reads = absurd (shows.0 graph reads)
    complete (causes.Disk moment) written shows wrote graph reads = absurd (quiet.disk shows.0)
    complete causes.Sink written shows wrote graph reads = absurd (quiet.sinks shows.2)
    complete (causes.Source n) written shows wrote graph reads = absurd (quiet.sources shows.1)
    complete (causes.Long n) written shows wrote graph reads = absurd (shows.2 scripts had few)
    complete causes.LongTotal written shows wrote graph reads = absurd (shows.2 scripts had few)
    complete cause written shows wrote graph reads = absurd shows

    refused : (cause : Cause) (written : Bool) → Why cause → Taken cause written → ground.unsound → (status_at_end written cause ≡ 3) ⊎ (status_at_end written cause ≡ 7)
    refused causes.Nothing written shows wrote unsound = absurd (shows.sound unsound)
    refused (causes.Volume fault) true shows wrote unsound = inl refl
    refused (causes.Volume fault) false shows wrote unsound = inl refl
    refused causes.Memory true shows wrote unsound = inr refl
    refused causes.Memory false shows wrote unsound = absurd (quiet.report wrote.failed)
    refused (causes.Disk moment) written shows wrote unsound = absurd (quiet.disk shows.0)
    refused causes.Sink written shows wrote unsound = absurd (quiet.sinks shows.2)
    refused (causes.Source n) written shows wrote unsound = absurd (quiet.sources shows.1)
    refused (causes.Long n) written shows wrote unsound = absurd (shows.2 scripts had few)
    refused causes.LongTotal written shows wrote unsound = absurd (shows.2 scripts had few)
    refused cause written shows wrote unsound = absurd shows

  -- ---- all of it

  -- what a run came to, but for the cause
  pub record CameTo (ending : Ending) (cause : Cause) : Type 0 where
    pub places : HasPlaces (Dirs names) (length new.sources) (length new.sinks)
    pub unserved : IsNone counts → (new.sinks ≡ old.sinks) × (ending ≡ not_begun) × ¬ (cause ≡ causes.Nothing)
    pub sound : IsSome counts → ¬ ground.unsound
    pub within_limits : IsSome counts → Within
    pub shows : Why cause

  pub said_by : (ending : Ending) (cause : Cause) (status : ℕ) (written : Bool) → CameTo ending cause → Taken cause written → status ≡ status_at_end written cause
      → SaidOfNames names ground old new (telling cause) status ending []
  said_by ending cause status written came wrote is =
      let so : (n : ℕ) → status ≡ n → status_at_end written cause ≡ n = λ n e. sym is ∙ e in
      record {
        places = came.places;
        no_event = refl;
        unserved = came.unserved;
        sound = came.sound;
        within_limits = came.within_limits;
        bare = refl;
        reported = why.reported (Dirs names) ground old new counts [] [] (report_text (telling cause)) written wrote;
        is_status = rw is (why.status (Dirs names) ground old new counts [] [] cause (report_text (telling cause)) written wrote);
        status_0 = λ e. well cause written came.shows wrote (so 0 e);
        status_2 = λ e. no_words cause written came.shows (so 2 e);
        status_3 = λ e. refused_by cause written came.shows (so 3 e);
        told_3 = λ fault e. is ∙ ap (status_at_end written) e ∙ why.is_3 (Dirs names) ground old new counts [] [] false fault written;
        status_4 = λ e. failed_by cause written came.shows (so 4 e);
        status_5 = λ e. sink_by cause written came.shows wrote (so 5 e);
        status_6 = λ e. source_by cause written came.shows (so 6 e);
        status_7 = λ e. why.status_7 (Dirs names) ground old new counts [] [] cause (report_text (telling cause)) written wrote (so 7 e);
        status_8 = λ e. no_verdict cause written came.shows (so 8 e);
        status_9 = λ e. passed_by cause written came.shows (so 9 e);
        over = rw is (over cause written came.shows);
        complete = λ scripts had few quiet graph reads. rw is (complete scripts had few quiet cause written came.shows wrote graph reads);
        refused = λ scripts had few quiet unsound. rw is (refused scripts had few quiet cause written came.shows wrote unsound);
      }

-- ---- nothing was served

module _ (names : NamesService) (ground : Ground) (old new : Outside) (count : length new.sources ≡ length old.sources) where
  source_rose : (n : ℕ) → n < length old.sources → Rose (get_or (source_faults old) n 0) (get_or (source_faults new) n 0) → SomeRose (source_faults old) (source_faults new)
  source_rose n below rose = one_rose (source_faults old) (source_faults new) n _ _
      (slice_get-get_or (source_faults old) n 0 (omega (arith, below, length-map old.sources (λ (s : Supply). s.faults))))
      (slice_get-get_or (source_faults new) n 0 (omega (arith, below, count, length-map new.sources (λ (s : Supply). s.faults)))) rose

  none_why : (cause : Cause) → IsUnservedCause ground (RoseIn old.disk new.disk) old.sources new.sources cause → Why names ground old new None cause
  none_why (causes.Source n) is = ((n, refl, is.0, is.1, is.2), source_rose n is.0 is.1)
  none_why (causes.Long n) is = (
    refl,
    is,
    (λ scripts had few.
        let long : most_script < length (slice_index_or scripts n []) = is.1 scripts had in
        let least : length (slice_index_or scripts n []) ≤ most_script = few.0 n [] (omega (arith, is.0, had_count old.sources scripts had)) in
        omega (arith, long, least)),
  )
  none_why causes.LongTotal is = (refl, is, (λ scripts had few. let past = is scripts had in omega (arith, past.1, few.1)))
  none_why causes.Memory is = tt
  none_why (causes.Volume fault) is = (is.0, scripted.within old.sources is.1.0 is.1.1, (λ none. is.2))
  none_why (causes.Disk moment) is = (is.1, scripted.within old.sources is.2.0 is.2.1)
  none_why cause is = absurd is

  not_nothing : (cause : Cause) → IsUnservedCause ground (RoseIn old.disk new.disk) old.sources new.sources cause → ¬ (cause ≡ causes.Nothing)
  not_nothing causes.Nothing is same = is
  not_nothing cause is same = cc same

-- ---- lines were served

module _ (names : NamesService) (ground : Ground) (old new : Outside) (lines : List (List ℕ)) (told : List Answer) (counts : Counts) (cause : Cause) (report : Report) (ending : Ending)
    (served : AreNamesServed ground (RoseIn old.disk new.disk) old.sources old.sinks new.sinks lines told counts cause report ending)
    (count : length new.sources ≡ length old.sources) where
  abbrev serves : ServesNames ground.reads (RoseIn old.disk new.disk) (request_lines served.script) served.sink served.sink_after lines told served.took counts cause ending
  serves = served.serves

  few : (scripts : List (List ℕ)) → HadLeft old scripts → AreWithinLimits scripts
  few = scripted.within old.sources (served.script ∷ []) served.have

  -- the one source, and the one sink
  source_one : (s : Supply) × (old.sources ≡ s ∷ [])
  source_one = one_item old.sources (sym served.have.all)

  source_after : (s : Supply) × (new.sources ≡ s ∷ [])
  source_after = one_item new.sources (count ∙ sym served.have.all)

  all_told : served.took ≡ true → (left : List ℕ) → source_one.0.left ≡ Some left → length told ≡ length (request_lines left)
  all_told took left is =
      let first = serves.answers_are in
      let script : served.script ≡ left = (served.have.first.each 0 source_one.0 served.script (ap (λ l. slice_get l 0) source_one.1) refl).whole left is in
      let none : serves.left ≡ [] = serves.whole took in
      let all : length (request_lines served.script) ≡ length lines = ap length (first.first ∙ ap (λ l. lines ++ l) none) ∙ length-append lines [] ∙ omega arith in
      first.each ∙ sym all ∙ ap (λ (s : List ℕ). length (request_lines s)) script

  answered : served.took ≡ true → EachSource (λ _ source _. (left : List ℕ) → source.left ≡ Some left → length told ≡ length (request_lines left)) old new
  answered took = each_one _ old.sources new.sources source_one.0 source_after.0 source_one.1 source_after.1 (all_told took)

  took_all : served.took ≡ true → EachSink (λ _ sink sink_after. Wrote sink sink_after (printed_answers told)) old new
  took_all took = each_one _ old.sinks new.sinks served.sink served.sink_after served.sinks_are.0 served.sinks_are.1 (subst (λ b. Replied served.sink served.sink_after (printed_answers told) b) took serves.answers_are.replied)

  sink_rose : served.took ≡ false → SomeRose (sink_faults old) (sink_faults new)
  sink_rose fell = rw (served.sinks_are.0, served.sinks_are.1) (inl (subst (λ b. Replied served.sink served.sink_after (printed_answers told) b) fell serves.answers_are.replied).failed)

  abbrev tells : Bool
  tells = list_any is_disk_answer told

  abbrev wants : Bool
  wants = list_any is_memory_answer told

  off : not served.took ≡ false → served.took ≡ true
  off is = at served.took is
    where
      at : (b : Bool) → not b ≡ false → b ≡ true
      at true so = refl
      at false so = absurd (clash so)

  on : not served.took ≡ true → served.took ≡ false
  on is = at served.took is
    where
      at : (b : Bool) → not b ≡ true → b ≡ false
      at true so = absurd (clash-sym so)
      at false so = refl

  served_why : (c : Cause) → cause ≡ c → Shown (tells || has_fallen ending) (not served.took) (wants || is_short ending) c → Why names ground old new (Some counts) c
  served_why causes.Nothing same shown =
      let well = well_by ending tells (not served.took) wants serves.refusal (sym serves.spoiled ∙ same) in
      record {
        served = refl;
        sound = served.sound;
        within_limits = few;
        answers = told;
        answered = answered (off shown.1);
        replied = took_all (off shown.1);
        calm = (well.disk, well.memory);
      }
  served_why (causes.Disk moment) same shown = (serves.failed shown, few)
  served_why (causes.Volume fault) same shown = (
    (λ graph reads. subst (λ c. IsStopTold c (moment_in ending.stop)) (sym serves.spoiled ∙ same) (stop_told_by ending tells (not served.took) wants (serves.undamaged graph reads))),
    few,
    (λ none. absurd (clash none)),
  )
  served_why causes.Sink same shown = (refl, few, sink_rose (on shown))
  served_why causes.Memory same shown = tt
  served_why c same shown = absurd shown

  served_shows : Why names ground old new (Some counts) cause
  served_shows = served_why cause refl (subst (Shown (tells || has_fallen ending) (not served.took) (wants || is_short ending)) (sym serves.spoiled) (shown_by ending tells (not served.took) wants))

-- ---- every run

pub said_of_names : (names : NamesService) (ground : Ground) (old new : Outside) (told : Report) (status : ℕ) (ending : Ending) (trail : List Event) → HasPlaces (Dirs names) (length old.sources) (length old.sinks)
    → IsWholeRun (Dirs names) ground (places_in old) (places_in new) old.report new.report told status ending trail → SaidOfNames names ground old new told status ending trail
said_of_names names ground old new told status ending trail given whole = rw whole.run.no_event (by whole.run.run)
  where
    asks : AsksNames ground (places_in old) (places_in new) told ending trail
    asks = whole.run

    places : HasPlaces (Dirs names) (length new.sources) (length new.sinks)
    places = (asks.sources ∙ given.0, asks.sinks ∙ given.1)

    unprinted : (counts : Option Counts) → printed_line (Dirs names) counts ≡ None
    unprinted None = refl
    unprinted (Some counts) = refl

    plain : (whole.short ≡ false) × (whole.text ≡ report_text told)
    plain = subst (λ line. IsTextBy line told trail whole.short whole.text) (unprinted told.counts) whole.is_text

    taken : Replied old.report new.report (report_text told) whole.written
    taken = subst (λ t. Replied old.report new.report t whole.written) plain.1 whole.reported

    status_is : status ≡ status_at_end whole.written told.cause
    status_is = whole.said ∙ ap (λ b. status_at_end whole.written (last_cause b told.cause)) plain.0

    by : HaveNames ground (places_in old) (places_in new) told ending ⊎ ServesNone ground (RoseIn old.disk new.disk) old.sources new.sources old.sinks new.sinks told ending trail
        → SaidOfNames names ground old new told status ending []
    by (inl have) =
        let served = have.served in
        rw served.report_is (said_by names ground old new (Some have.counts) ending have.cause status whole.written (record {
          places = places;
          unserved = λ none. absurd (clash none);
          sound = λ some. served.sound;
          within_limits = λ some. few names ground old new have.lines have.told have.counts have.cause told ending served asks.sources;
          shows = served_shows names ground old new have.lines have.told have.counts have.cause told ending served asks.sources;
        }) (rw served.report_is at taken) (rw served.report_is at status_is))
    by (inr none) =
        rw none.nothing.told (said_by names ground old new None ending none.cause status whole.written (record {
          places = places;
          unserved = λ no. (none.nothing.untouched, none.nothing.no_end, not_nothing names ground old new asks.sources none.cause none.is);
          sound = λ some. absurd (clash-sym some);
          within_limits = λ some. absurd (clash-sym some);
          shows = none_why names ground old new asks.sources none.cause none.is;
        }) (rw none.nothing.told at taken) (rw none.nothing.told at status_is))
