-- What `top` says of a run, from what the run came to.
use Rattle.std.proofs.Common.{◌≡◌, inl, inr, ℕ, ◌<◌, ◌≤◌, Bool, true, false, not, List, [], ◌∷◌, ◌++◌, length, map, slice_get, Option, Some, refl, sym, ap, ◌∙◌, subst, arith, ◌||◌}
use Rattle.cfs_serve.proofs.Cited.{AreOver, AreClients, AreWithinLimits, Asked, AsksServer, Audits, BreaksOff, Cause, Counts, Ending, Event, Formats, Ground, HadLeft, HasBroken, HasPlaces, HasScript, Inspects, untold, HaveScripts, Intake, IsSessionOver, IsPlayed, IsRunOf, IsServedFrom, Nothing, Outside, Page, Puid, PortReading, Replied, Report, RoseIn, Client, Service, Shows, SomeRose, Supply, Wrote, all_forms, counts_of, events_of_session, has_broken, has_failed, is_short, is_verdict, length-map, list_any, most_lines, no_names, not_begun, option_map, printed_replies, request_lines, slice_get-map, slice_get_within, turns_from, turns_in, wants_memory}
use Rattle.cfs_serve.specs.declared.report.Cause.TheVariants as causes
use Rattle.cfs_serve.specs.Words.{Converses, Dirs, Serves, Spins}
use Rattle.ufs_model.specs.declared.asked.Event.TheVariants as events
use Rattle.cfs_serve.specs.Played.{CountsSessions}
use Rattle.cfs_serve.proofs.Lists.{each_of, failed_at, item, map_at, mapped, no_items, none_failed, one_failed, one_item, one_rose, same_length}
use Rattle.cfs_serve.proofs.Scripted.{one_few, within}
use Rattle.cfs_serve.proofs.Because.{Because}
use Rattle.cfs_serve.proofs.Endings.{Shown, shown, went_well}
use Rattle.cfs_serve.proofs.Stopping.{undamaged}
use Rattle.cfs_serve.proofs.NoneServed.{Facts, clash, clash-sym, of_audit, of_format, of_inspection, of_none, of_nothing, of_page, places}

-- ---- sessions were served

off : (b : Bool) → not b ≡ true → b ≡ false
off true is = absurd (clash-sym is)
off false is = refl

on : (b : Bool) → not b ≡ false → b ≡ true
on true is = refl
on false is = absurd (clash is)

module _ (service : Service) (ground : Ground) (disk disk_after : Option ℕ) (sources sources_after : List Supply) (sinks sinks_after : List Intake) (report report_after : Intake) (ending : Ending) (trail : List Event)
    (given : HasPlaces (Serves service) (length sources) (length sinks)) (sources_count : length sources_after ≡ length sources) (sinks_count : length sinks_after ≡ length sinks)
    (scripts : List (List ℕ)) (have : HaveScripts sources scripts) (sound : ¬ ground.unsound) (counts : Counts) (clients : List Client) (ports : List PortReading)
    (matched : AreClients scripts sinks sinks_after clients ports) where
  abbrev begun : Outside
  begun = places disk sources sinks report

  abbrev ended : Outside
  ended = places disk_after sources_after sinks_after report_after

  abbrev Played : Cause → Type 0
  Played cause = IsPlayed ground service.seed service.collections (RoseIn disk disk_after) clients ports counts cause ending trail

  abbrev Sessions : Cause → Type 0
  Sessions cause = Facts (Serves service) ground begun ended (record { counts = Some counts; faults = []; cause = cause }) ending trail

  few : (left : List (List ℕ)) → HadLeft begun left → AreWithinLimits left
  few = within sources scripts have

  -- as many clients as scripts
  clients_count : length clients ≡ length sources
  clients_count = same_length (λ s. s.lines) request_lines clients scripts matched.lines ∙ have.all

  module _ (root : Puid) (over : AreOver root service.collections clients trail ports) where
    -- the session at a source
    abbrev AtSource : (k : ℕ) (source : Supply) → Type 0
    AtSource k source = (script : List ℕ) × HasScript source script × (length (request_lines script) ≤ most_lines)
        × ((client : Client) × (client.lines ≡ request_lines script) × ((port : PortReading) × (slice_get ports k ≡ Some port) × IsSessionOver root trail k client port.sink port.failed))

    at_source : (k : ℕ) (source : Supply) → slice_get sources k ≡ Some source → AtSource k source
    at_source k source there =
        let below = slice_get_within sources k source there in
        let script = item scripts k (omega (arith, below, have.all)) in
        let client = item clients k (omega (arith, below, clients_count)) in
        let port = item ports k (omega (arith, below, clients_count, over.count)) in (
          script.0,
          have.first.each k source script.0 there script.1,
          omega (arith, one_few scripts k script.0 script.1, have.few),
          (
            client.0,
            map_at (λ s. s.lines) request_lines clients scripts k client.0 script.0 matched.lines client.1 script.1,
            (port.0, port.1, over.each k client.0 port.0 client.1 port.1),
          ),
        )

    -- and at a sink
    abbrev AtSink : (k : ℕ) (sink after : Intake) → Type 0
    AtSink k sink after = (client : Client) × (client.sink ≡ sink) × ((port : PortReading) × (port.sink ≡ after) × (slice_get ports k ≡ Some port) × IsSessionOver root trail k client port.sink port.failed)

    at_sink : (k : ℕ) (sink after : Intake) → slice_get sinks k ≡ Some sink → slice_get sinks_after k ≡ Some after → AtSink k sink after
    at_sink k sink after at there =
        let client = mapped (λ (s : Client). s.sink) clients k sink (ap (λ l. slice_get l k) matched.begun ∙ at) in
        let port = mapped (λ (p : PortReading). p.sink) ports k after (ap (λ l. slice_get l k) matched.left ∙ there) in
        (client.0, client.2, (port.0, port.2, port.1, over.each k client.0 port.0 client.1 port.1))

    abbrev took : ℕ → Bool
    took k = not (failed_at (slice_get ports k))

    replied_at : (k : ℕ) (sink after : Intake) → AtSink k sink after → Replied sink after (printed_replies k trail) (took k)
    replied_at k sink after here =
        let port = here.2 in
        subst (λ x. Replied x after (printed_replies k trail) (took k)) here.1
        (subst (λ y. Replied here.0.sink y (printed_replies k trail) (took k)) port.1
        (subst (λ b. Replied here.0.sink port.0.sink (printed_replies k trail) b) (sym (ap (λ p. not (failed_at p)) port.2)) port.3.replied))

    broken_at : (k : ℕ) (sink after : Intake) → AtSink k sink after → took k ≡ false → BreaksOff k sink after (turns_in k trail)
    broken_at k sink after here fell =
        let port = here.2 in
        subst (λ x. BreaksOff k x after (turns_in k trail)) here.1
        (subst (λ y. BreaksOff k here.0.sink y (turns_in k trail)) port.1 (port.3.broken (on port.0.failed (sym (ap (λ p. not (failed_at p)) port.2) ∙ fell))))

    served_at : (k : ℕ) (source : Supply) → AtSource k source → IsServedFrom root trail (took k) k source
    served_at k source here =
        let client = here.3 in
        let port = client.2 in
        record {
          script = here.0;
          whole = here.1.whole;
          short = here.1.short;
          few = here.2;
          turns = subst (λ l. turns_in k trail ≡ turns_from all_forms k (no_names root) l (turns_in k trail)) client.1 port.2.turns;
          answered = λ all. port.2.answered (off port.0.failed (sym (ap (λ p. not (failed_at p)) port.1) ∙ all)) ∙ ap length client.1;
        }

    left_at : (k : ℕ) (source : Supply) → AtSource k source → (stopped : Option ℕ) × (events_of_session k trail ≡ turns_in k trail ++ events.Leave k stopped ∷ [])
    left_at k source here = let port = here.3.2 in (port.2.stopped, port.2.leaves)

    -- where no sink failed
    module _ (none : has_broken ports ≡ false) where
      went : (k : ℕ) → took k ≡ true
      went k = ap not (none_failed ports none k)

      answered_at : (k : ℕ) (source : Supply) → AtSource k source → (left : List ℕ) → source.left ≡ Some left → length (turns_in k trail) ≡ length (request_lines left)
      answered_at k source here left is =
          let client = here.3 in
          let port = client.2 in
          port.2.answered (sym (ap failed_at port.1) ∙ none_failed ports none k) ∙ ap length client.1 ∙ ap (λ s. length (request_lines s)) (here.1.whole left is)

      wrote_at : (k : ℕ) (sink after : Intake) → AtSink k sink after → Wrote sink after (printed_replies k trail)
      wrote_at k sink after here = subst (λ b. Replied sink after (printed_replies k trail) b) (went k) (replied_at k sink after here)

    -- where one failed
    module _ (some : has_broken ports ≡ true) where
      abbrev broke : (k : ℕ) × (p : PortReading) × (slice_get ports k ≡ Some p) × (p.failed ≡ true)
      broke = one_failed ports some

      sink_there : broke.0 < length sinks
      sink_there = omega (arith, slice_get_within ports broke.0 broke.1 broke.2, sym (ap length matched.left), length-map ports (λ (p : PortReading). p.sink), sinks_count)

      lost : took broke.0 ≡ false
      lost = ap (λ p. not (failed_at p)) broke.2 ∙ ap not broke.3

      sinks_rose : SomeRose (map (λ s. s.faults) sinks) (map (λ s. s.faults) sinks_after)
      sinks_rose =
          let sink = item sinks broke.0 sink_there in
          let after = item sinks_after broke.0 (omega (arith, sink_there, sinks_count)) in
          let replied = subst (λ b. Replied sink.0 after.0 (printed_replies broke.0 trail) b) lost (replied_at broke.0 sink.0 after.0 (at_sink broke.0 sink.0 after.0 sink.1 after.1)) in
          one_rose (map (λ s. s.faults) sinks) (map (λ s. s.faults) sinks_after) broke.0 sink.0.faults after.0.faults
          (slice_get-map (λ (s : Intake). s.faults) sinks broke.0 ∙ ap (option_map (λ (s : Intake). s.faults)) sink.1)
          (slice_get-map (λ (s : Intake). s.faults) sinks_after broke.0 ∙ ap (option_map (λ (s : Intake). s.faults)) after.1) replied.failed

    falls : HasBroken (has_broken ports) begun took
    falls = at (has_broken ports) refl
      where
        at : (b : Bool) → has_broken ports ≡ b → HasBroken b begun took
        at true some = ((broke some).0, sink_there some, lost some)
        at false none = went none

  sessions : (cause : Cause) (played : Played cause) → ¬ (cause ≡ causes.Words) → ((page : Page) → ¬ (cause ≡ causes.Page page)) → ¬ (is_verdict cause ≡ true)
      → Because (Serves service) ground begun ended (Some counts) [] trail cause → Sessions cause
  sessions cause played other paged plain because = (
    record {
      places = (sources_count ∙ given.0, sinks_count ∙ given.1);
      unserved = λ none. absurd (clash none);
      unasked = λ no. absurd (clash no);
      leaves = λ served. each_of (λ k source after. (stopped : Option ℕ) × (events_of_session k trail ≡ turns_in k trail ++ events.Leave k stopped ∷ [])) sources sources_after sources_count
          (λ k source after at there. left_at played.root played.over k source (at_source played.root played.over k source at));
      sessions = played.over.sessions;
      others = λ k past. played.over.none k (omega (arith, past, clients_count));
      on = λ graph reads. let run = played.run graph reads in record {
        last = run.last;
        legal = run.legal;
        exact = run.exact;
        calm = run.calm;
        undamaged = (undamaged ending.stop trail (played.undamaged graph reads) played.ends.stops, played.undamaged graph reads);
        stop = λ served. run.stop;
        counted = (subst (λ n. counts ≡ counts_of n trail run.last.graph counts.free) clients_count run.counted, run.free);
        rests = run.rests;
        whole = λ served. run.whole;
      };
      sound = λ served. sound;
      took = took played.root played.over;
      fell = has_broken ports;
      falls = falls played.root played.over;
      stands = λ none. absurd (clash none);
      turns = λ served. (
        played.root,
        played.rooted,
        each_of (λ k source after. IsServedFrom played.root trail (took played.root played.over k) k source) sources sources_after sources_count
            (λ k source after at there. served_at played.root played.over k source (at_source played.root played.over k source at)),
      );
      within = λ is served. few;
      replied = each_of (λ k sink after. Replied sink after (printed_replies k trail) (took played.root played.over k)) sinks sinks_after sinks_count
          (λ k sink after at there. replied_at played.root played.over k sink after (at_sink played.root played.over k sink after at there));
      broken = λ served. each_of (λ k sink after. took played.root played.over k ≡ false → BreaksOff k sink after (turns_in k trail)) sinks sinks_after sinks_count
          (λ k sink after at there. broken_at played.root played.over k sink after (at_sink played.root played.over k sink after at there));
      words = ((λ is. absurd (other is)), (λ is. cc));
      page = λ page. ((λ is. absurd (paged page is)), (λ is. cc));
      cause = λ none. absurd (clash none);
      made = λ no. absurd (clash-sym no);
      audited = λ no. absurd (clash-sym no);
      verdict = λ is. absurd (plain is);
      inspected = tt;
      bare = λ no. refl;
      ends = λ served. played.ends;
      spoiled = λ served. played.spoiled;
      counts = subst (λ n. CountsSessions n trail counts) clients_count played.counted;
      last = played.last;
      few = played.few;
      collected = λ served. played.collected;
      wanting = played.wanting;
    },
    because,
  )

  -- what the cause shows
  abbrev ShownBy : Cause → Type 0
  ShownBy cause = Shown (has_failed ending trail) (has_broken ports) (list_any wants_memory trail || is_short ending) cause

  by_cause : (cause : Cause) → Played cause → ShownBy cause → Sessions cause
  by_cause causes.Nothing played is =
      let well = went_well ending trail (has_broken ports) played.ends.refusal (sym played.spoiled) in
      sessions causes.Nothing played (λ e. cc) (λ page e. cc) clash-sym (inl (record {
        served = refl;
        sound = sound;
        within = few;
        answered = each_of (λ k source after. (left : List ℕ) → source.left ≡ Some left → length (turns_in k trail) ≡ length (request_lines left)) sources sources_after sources_count
            (λ k source after at there. answered_at played.root played.over is.1 k source (at_source played.root played.over k source at));
        replied = each_of (λ k sink after. Wrote sink after (printed_replies k trail)) sinks sinks_after sinks_count
            (λ k sink after at there. wrote_at played.root played.over is.1 k sink after (at_sink played.root played.over k sink after at there));
        memory = well.memory;
        calm = played.ends.calm well.runs well.disk;
        collected = played.collected well.refused;
      }))
  by_cause (causes.Disk moment) played is = sessions (causes.Disk moment) played (λ e. cc) (λ page e. cc) clash-sym (played.ends.failed is, few)
  by_cause (causes.Volume fault) played is = sessions (causes.Volume fault) played (λ e. cc) (λ page e. cc) clash-sym ((λ graph reads. (played.run graph reads).stop), few, (λ none. absurd (clash none)))
  by_cause causes.Sink played is = sessions causes.Sink played (λ e. cc) (λ page e. cc) clash-sym (refl, few, sinks_rose played.root played.over is)
  by_cause causes.Memory played is = sessions causes.Memory played (λ e. cc) (λ page e. cc) clash-sym tt
  by_cause (causes.Page page) played is = absurd is
  by_cause causes.Words played is = absurd is
  by_cause (causes.Source i) played is = absurd is
  by_cause (causes.Long i) played is = absurd is
  by_cause causes.LongTotal played is = absurd is
  by_cause (causes.Legal n) played is = absurd is
  by_cause (causes.BadLine line) played is = absurd is
  by_cause (causes.Illegal event) played is = absurd is
  by_cause causes.LongVolume played is = absurd is
  by_cause (causes.Sound objects left) played is = absurd is

  pub of_sessions : (cause : Cause) → Played cause → Sessions cause
  of_sessions cause played = by_cause cause played (subst ShownBy (sym played.spoiled) (shown ending trail (has_broken ports)))

-- ---- every run

-- no spin is asked for, of which all this is said of its service, and neither lines of names nor a conversation, of
-- which more is said
abbrev pub NoSpin : Asked → Type 0
NoSpin (Spins spin) = ⊥
NoSpin (Dirs names) = ⊥
NoSpin (Converses talk) = ⊥
NoSpin (Shows page) = Unit {0}
NoSpin (Formats format) = Unit {0}
NoSpin (Audits trail) = Unit {0}
NoSpin (Inspects inspection) = Unit {0}
NoSpin (Serves service) = Unit {0}
NoSpin Nothing = Unit {0}

of_run : (service : Service) (ground : Ground) (disk disk_after : Option ℕ) (sources sources_after : List Supply) (sinks sinks_after : List Intake) (report report_after : Intake) (told : Report) (ending : Ending) (trail : List Event)
    → HasPlaces (Serves service) (length sources) (length sinks) → length sources_after ≡ length sources → length sinks_after ≡ length sinks
    → IsRunOf ground service.seed service.collections (RoseIn disk disk_after) sources sources_after sinks sinks_after told ending trail
    → Facts (Serves service) ground (places disk sources sinks report) (places disk_after sources_after sinks_after report_after) told ending trail
of_run service ground disk disk_after sources sources_after sinks sinks_after report report_after told ending trail given sources_count sinks_count (inl s) =
    rw s.told (of_sessions service ground disk disk_after sources sources_after sinks sinks_after report report_after ending trail given sources_count sinks_count s.scripts s.have s.sound s.counts s.clients s.ports s.matched s.cause s.played)
of_run service ground disk disk_after sources sources_after sinks sinks_after report report_after told ending trail given sources_count sinks_count (inr n) =
    rw (n.nothing.told, n.nothing.no_event, n.nothing.no_end, n.nothing.untouched) (of_none service ground disk disk_after sources sources_after sinks report report_after given sources_count n.cause n.is)

module _ (disk disk_after : Option ℕ) (sources sources_after : List Supply) (sinks sinks_after : List Intake) (report report_after : Intake) (told : Report) (ending : Ending) (trail : List Event) where
  abbrev From : Asked → Ground → Type 0
  From asked ground = NoSpin asked → HasPlaces asked (length sources) (length sinks)
      → AsksServer asked ground (record { disk = disk; sources = sources; sinks = sinks }) (record { disk = disk_after; sources = sources_after; sinks = sinks_after }) told ending trail
      → Facts asked ground (places disk sources sinks report) (places disk_after sources_after sinks_after report_after) told ending trail

  pub facts : (asked : Asked) (ground : Ground) → From asked ground
  facts (Spins spin) ground never given asks = absurd never
  facts (Dirs names) ground never given asks = absurd never
  facts (Converses talk) ground never given asks = absurd never
  facts Nothing ground plain none asks =
      rw (asks.told, asks.no_event, asks.no_end, asks.sources, asks.sinks, no_items sources none.0, no_items sinks none.1)
      (of_nothing ground disk disk_after report report_after)
  facts (Formats format) ground plain none asks =
      rw (asks.0.told, asks.0.no_event, asks.0.no_end, asks.0.sources, asks.0.sinks, no_items sources none.0, no_items sinks none.1)
      (of_format ground format disk disk_after report report_after told.cause asks.1)
  facts (Audits text) ground plain given asks =
      let one = one_item sources given.0 in
      let left = one_item sources_after (asks.sources ∙ given.0) in
      rw (asks.told, asks.no_event, asks.no_end, asks.sinks, no_items sinks given.1)
      (subst (λ l. Facts (Audits text) ground (places disk l [] report) (places disk_after sources_after [] report_after) (untold told.cause) not_begun []) (sym one.1)
      (subst (λ l. Facts (Audits text) ground (places disk (one.0 ∷ []) [] report) (places disk_after l [] report_after) (untold told.cause) not_begun []) (sym left.1)
      (of_audit ground text disk disk_after one.0 left.0 report report_after told.cause (asks.found one.0 left.0 (ap (λ l. slice_get l 0) one.1) (ap (λ l. slice_get l 0) left.1)))))
  facts (Inspects inspection) ground plain none asks =
      rw (asks.told, asks.no_event, asks.no_end, asks.sources, asks.sinks, no_items sources none.0, no_items sinks none.1)
      (of_inspection ground inspection disk disk_after report report_after told.faults told.cause asks.found)
  facts (Shows page) ground plain none asks =
      rw (asks.told, asks.no_event, asks.no_end, asks.sources, asks.sinks, no_items sources none.0, no_items sinks none.1)
      (of_page ground page disk disk_after report report_after)
  facts (Serves service) ground plain given asks =
      of_run service ground disk disk_after sources sources_after sinks sinks_after report report_after told ending trail given asks.sources asks.sinks asks.run
