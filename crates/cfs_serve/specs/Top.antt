-- What a whole run comes to, for whoever started it: the trail, the sinks, the report, and what the status says.
use Rattle.std.specs.Prelude.{◌≡◌, ◌↔◌, ℕ, ◌+◌, ◌<◌, ◌≤◌, ◌⊎◌, Bool, true, false, List, [], ◌∷◌, ◌++◌, map, length}
use Rattle.std.specs.Prelude.{get_or, slice_index_or, Option, Some, None, IfSome, IsSome, IsNone, option_map}
use Rattle.std.specs.List.{list_any, list_all}
use Rattle.cfs_base.specs.Outside.{Intake, Supply, Rose}
use Rattle.cfs_core.specs.declared.collecting.CollectFault.TheVariants as faults
use Rattle.cfs_core.specs.StandsFor.{sweeps_now}
use Rattle.cfs_ports.specs.Port.{Replied}
use Rattle.cfs_streams.specs.Writing.{Wrote, WroteSome}
use Rattle.ufs_model.specs.declared.asked.Event.{Event}
use Rattle.ufs_model.specs.declared.asked.Event.TheVariants as events
use Rattle.ufs_model.specs.Graph.{Graph, IsGraph}
use Rattle.ufs_model.specs.State.{State, opening}
use Rattle.ufs_model.specs.Run.{replay}
use Rattle.ufs_model.specs.Script.{request_lines}
use Rattle.ufs_model.specs.Spoken.{all_forms}
use Rattle.ufs_model.specs.Turns.{AreTurns, turns_in}
use Rattle.ufs_model.specs.Printed.{printed_replies}
use Rattle.cfs_serve.specs.Limits.{most_inspected, most_script, most_lines, most_trail}
use Rattle.cfs_serve.specs.declared.run.Bay.{Bay}
use Rattle.cfs_serve.specs.declared.ending.Ending.{Ending}
use Rattle.cfs_serve.specs.declared.run.Ended.{Ended}
use Rattle.cfs_serve.specs.declared.report.Cause.{Cause}
use Rattle.cfs_serve.specs.declared.report.Cause.TheVariants as causes
use Rattle.cfs_serve.specs.declared.report.Report.{Report}
use Rattle.cfs_serve.specs.declared.report.VolumeFault.{VolumeFault}
use Rattle.cfs_base.specs.declared.identifier.Puid.{Puid}
use Rattle.cfs_serve.specs.declared.page.Page.{Page}
use Rattle.cfs_serve.specs.Pages.{page_text}
use Rattle.cfs_serve.specs.Report.{report_text, status_of, untold}
use Rattle.cfs_audit.specs.Verdict.{IsLegal}
use Rattle.cfs_serve.specs.Audit.{Finds, Judges}
use Rattle.cfs_serve.specs.Calls.{AreExact}
use Rattle.cfs_serve.specs.Ending.{EndsService, IsWanting, cause_of, damage_in, not_begun}
use Rattle.cfs_serve.specs.Events.{BreaksOff, begins_in, events_of_session, finishes_in, is_calm, is_no_step}
use Rattle.cfs_serve.specs.Events.{tells_damage}
use Rattle.cfs_serve.specs.Events.{wants_memory}
use Rattle.cfs_serve.specs.Ground.{Ground}
use Rattle.cfs_serve.specs.Inspected.{IsInspected, is_finding}
use Rattle.cfs_serve.specs.Played.{CountsSessions, HasNone, TellsLast, IsStopTold, counts_of, free_once_tidy}
use Rattle.cfs_serve.specs.Text.{IsText, last_cause, text_of}
use Rattle.cfs_serve.specs.Scripts.{AreShort, AreWithinLimits, Had, IsFirstRead, faults_of_sources, lines_in}
use Rattle.cfs_serve.specs.Whole.{HasPlaces, RoseIn, TellsMade}
use Rattle.cfs_serve.specs.Words.{Asked, Format, Service, Formats, Inspects, Shows, Nothing, IfInspects, IfServes}
use Rattle.cfs_serve.specs.Words.{collections_of, is_format, is_audit, is_inspection, is_service, makes_volume}
use Rattle.cfs_serve.specs.Words.{most_in_source}

-- ---- what is outside

-- how often the volume's disk failed, if there is one, and what is known of the sources, of the sinks, and of the sink
-- of the report
pub record Outside : Type 0 where
  pub disk : Option ℕ
  pub sources : List Supply
  pub sinks : List Intake
  pub report : Intake

-- as a run begins, and as it has ended
abbrev pub before : {D S K : Type 0} → (D → ℕ) → (S → Supply) → (K → Intake) → Bay D S K → Outside
before faults supply intake bay = record {
  disk = option_map faults bay.disk;
  sources = map supply bay.sources.items;
  sinks = map intake bay.sinks.items;
  report = intake bay.report;
}

abbrev pub outside_after : {D S K : Type 0} → (D → ℕ) → (S → Supply) → (K → Intake) → Ended D S K → Outside
outside_after faults supply intake ended = record {
  disk = option_map faults ended.disk;
  sources = map supply ended.sources.items;
  sinks = map intake ended.sinks.items;
  report = intake ended.report;
}

-- this holds of each session, counted from n, and of its source or its sink before and after
abbrev pub EachFrom : {P : Type 0} → (ℕ → P → P → Type 0) → ℕ → List P → List P → Type 0
EachFrom holds n [] [] = Unit {0}
EachFrom holds n (old ∷ olds) (new ∷ news) = holds n old new × EachFrom holds (n + 1) olds news
EachFrom holds n olds news = ⊥

abbrev pub EachSource : (ℕ → Supply → Supply → Type 0) → Outside → Outside → Type 0
EachSource holds old new = EachFrom holds 0 old.sources new.sources

abbrev pub EachSink : (ℕ → Intake → Intake → Type 0) → Outside → Outside → Type 0
EachSink holds old new = EachFrom holds 0 old.sinks new.sinks

-- ---- counts of faults

-- one of the counts rose
abbrev pub SomeRose : List ℕ → List ℕ → Type 0
SomeRose (before ∷ befores) (now ∷ nows) = Rose before now ⊎ SomeRose befores nows
SomeRose befores nows = ⊥

abbrev pub source_faults : Outside → List ℕ
source_faults o = faults_of_sources o.sources

abbrev pub sink_faults : Outside → List ℕ
sink_faults o = map (λ s. s.faults) o.sinks

-- no count rose
pub record NoCountRose (old new : Outside) : Type 0 where
  pub disk : ¬ (RoseIn old.disk new.disk)
  pub sources : ¬ (SomeRose (source_faults old) (source_faults new))
  pub sinks : ¬ (SomeRose (sink_faults old) (sink_faults new))
  pub report : ¬ (Rose old.report.faults new.report.faults)

-- ---- scripts, and their limits

-- all that each source had left, if each tells it
abbrev pub HadLeft : Outside → List (List ℕ) → Type 0
HadLeft o scripts = Had o.sources scripts

-- ---- the trail

-- A session was served from a script: all that its source had left, if it tells that.
pub record IsServedFrom (root : Puid) (trail : List Event) (all : Bool) (session : ℕ) (source : Supply) : Type 0 where
  pub script : List ℕ
  pub whole : (left : List ℕ) → source.left ≡ Some left → script ≡ left
  pub short : length script ≤ most_script
  pub few : length (request_lines script) ≤ most_lines
  -- its events are the turns of the script: one for each request line, if the sinks took all
  pub turns : AreTurns all_forms session root script trail
  pub answered : all ≡ true → length (turns_in session trail) ≡ length (request_lines script)

-- ---- what is reported

-- something was served
abbrev pub WasServed : Report → Type 0
WasServed told = IsSome told.counts

-- a session's sink broke; or each took all replies
abbrev pub HasBroken : Bool → Outside → (took : ℕ → Bool) → Type 0
HasBroken true o took = (k : ℕ) × (k < length o.sinks) × (took k ≡ false)
HasBroken false o took = (k : ℕ) → took k ≡ true

-- nothing worse than want of memory is reported
abbrev pub is_mild : Cause → Bool
is_mild causes.Nothing = true
is_mild (causes.Page page) = true
is_mild causes.Words = false
is_mild (causes.Volume fault) = false
is_mild (causes.Disk moment) = false
is_mild causes.Sink = false
is_mild (causes.Source n) = false
is_mild causes.Memory = true
is_mild (causes.Long n) = false
is_mild causes.LongTotal = false
is_mild causes.LongVolume = false
is_mild (causes.Legal n) = true
is_mild (causes.BadLine line) = false
is_mild (causes.Illegal event) = false
is_mild (causes.Sound objects left) = true

-- the verdict on a trail is reported
abbrev pub is_verdict : Cause → Bool
is_verdict (causes.Legal n) = true
is_verdict (causes.BadLine line) = true
is_verdict (causes.Illegal event) = true
is_verdict cause = false

-- a verdict is reported, and it isn't that the trail is legal
abbrev pub is_refutation : Cause → Bool
is_refutation (causes.BadLine line) = true
is_refutation (causes.Illegal event) = true
is_refutation cause = false

-- the report's text was written whole, or its sink failed and has some beginning of it
abbrev pub WritesReport : (text : List ℕ) → Outside → Outside → Type 0
WritesReport text old new = Wrote old.report new.report text ⊎ WroteSome old.report new.report text

-- the sink of the report failed, and nothing worse is reported
abbrev pub SpoilsReport : Cause → Outside → Outside → Type 0
SpoilsReport cause old new = (is_mild cause ≡ true) × Rose old.report.faults new.report.faults

-- ---- what a status says

-- the status is that of the cause that is reported, or 5 if the report's sink failed
abbrev pub IsStatus : ℕ → Cause → Outside → Outside → Type 0
IsStatus status cause old new = (status ≡ status_of cause) ⊎ ((status ≡ 5) × SpoilsReport cause old new)

-- 0: a run that ended well
pub record EndedWell (asked : Asked) (ground : Ground) (told : Report) (trail : List Event)
    (old new : Outside) : Type 0 where
  pub served : WasServed told
  pub nothing : told.cause ≡ causes.Nothing
  -- each script was read to its end, and each of its request lines has one reply
  pub answered : EachSource (λ session source _. (left : List ℕ) → source.left ≡ Some left
      → length (turns_in session trail) ≡ length (request_lines left)) old new
  -- each sink holds all replies of its session, and none of them reports want of memory
  pub replied : EachSink (λ session sink outside_after. Wrote sink outside_after (printed_replies session trail))
      old new
  pub memory : list_any wants_memory trail ≡ false
  -- no failed call of the disk, no damage and no stop is behind an event
  pub calm : list_all is_calm trail ≡ true
  -- as many collections are finished as were called for
  pub collected : finishes_in trail ≡ collections_of asked
  -- its report is written whole: its lines or, of a trace, the trail that is handed back
  pub reported : Wrote old.report new.report (text_of asked told trail)

-- or a page was asked for, and its text is written whole
pub record Showed (told : Report) (old new : Outside) : Type 0 where
  pub page : Page
  pub is : told ≡ untold (causes.Page page)
  pub written : Wrote old.report new.report (page_text page)

-- or a volume was asked for, and is made
pub record Made (asked : Asked) (told : Report) (old new : Outside) : Type 0 where
  pub format : Format
  pub asks : asked ≡ Formats format
  pub is : told ≡ untold causes.Nothing
  pub written : Wrote old.report new.report (report_text told)

-- or a trail was audited: all that its source had left is a legal one, of `events` events
pub record Audited (asked : Asked) (told : Report) (old new : Outside) : Type 0 where
  pub events : ℕ
  pub asks : is_audit asked ≡ true
  pub is : told ≡ untold (causes.Legal events)
  pub legal : EachSource (λ _ source _. (left : List ℕ) → source.left ≡ Some left → IsLegal left events) old new
  pub written : Wrote old.report new.report (report_text told)

-- or a volume was checked, and isn't known to be unsound
pub record FoundSound (asked : Asked) (ground : Ground) (told : Report) (old new : Outside) : Type 0 where
  pub volume : List ℕ
  pub objects : ℕ
  pub left : ℕ
  pub asks : asked ≡ Inspects (record { volume = volume; mends = false })
  pub is : told ≡ untold (causes.Sound objects left)
  pub sound : ¬ ground.unsound
  pub written : Wrote old.report new.report (report_text told)

-- or one was to be mended, and is
pub record WasMended (asked : Asked) (told : Report) (old new : Outside) : Type 0 where
  pub volume : List ℕ
  pub asks : asked ≡ Inspects (record { volume = volume; mends = true })
  pub is : told ≡ untold causes.Nothing
  pub written : Wrote old.report new.report (report_text told)

-- 3: the volume was refused as it was opened, and this is wrong with it; or the core stopped at a damaged block. The
-- volume isn't known to be sound.
abbrev pub VolumeRefused : Ground → Report → Type 0
VolumeRefused ground told =
    ((fault : VolumeFault) × (told.cause ≡ causes.Volume fault) × (IsNone told.counts → ground.faulty fault))
    × HasNone ground

-- 4: the disk failed, and the report says so
abbrev pub DiskFailed : Report → Outside → Outside → Type 0
DiskFailed told old new = ((moment : Option ℕ) × (told.cause ≡ causes.Disk moment)) × RoseIn old.disk new.disk

-- 5: a session's sink failed, and the report says so; or the report's sink failed
abbrev pub SinkFailed : Report → Outside → Outside → Type 0
SinkFailed told old new = (WasServed told × (told.cause ≡ causes.Sink) × SomeRose (sink_faults old) (sink_faults new))
    ⊎ SpoilsReport told.cause old new

-- 6: nothing was served: the source of the reported number failed, the first that failed or is too long
abbrev pub SourceFailed : Report → Outside → Outside → Type 0
SourceFailed told old new =
    (n : ℕ) × (told ≡ untold (causes.Source n)) × (n < length old.sources)
    × Rose (get_or (source_faults old) n 0) (get_or (source_faults new) n 0) × IsFirstRead old.sources new.sources n

-- 7: memory was wanting, perhaps only for a line of the report, if nothing worse is reported; its text is written whole
abbrev pub MemoryWanting : (short : Bool) → Cause → (text : List ℕ) → Outside → Outside → Type 0
MemoryWanting short cause text old new = (last_cause short cause ≡ causes.Memory) × Wrote old.report new.report text

-- the source of that number is the first that failed or had more than its limit; or all of them together had more, and
-- none alone; or the volume has more blocks than are loaded
abbrev pub IsOverLimit : Asked → Ground → Cause → (old new : Outside) → Type 0
IsOverLimit asked ground (causes.Long n) old new =
    (n < length old.sources)
    × ((scripts : List (List ℕ)) → HadLeft old scripts → most_in_source asked < length (slice_index_or scripts n []))
    × IsFirstRead old.sources new.sources n
IsOverLimit asked ground causes.LongTotal old new =
    (scripts : List (List ℕ)) → HadLeft old scripts → AreShort scripts × (most_lines < lines_in scripts)
IsOverLimit asked ground causes.LongVolume old new =
    (is_inspection asked ≡ true) × (most_inspected < ground.blocks)
IsOverLimit asked ground cause old new = ⊥

-- 9: nothing was served, and the report says which limit was passed
abbrev pub LimitPassed : Asked → Ground → Report → Outside → Outside → Type 0
LimitPassed asked ground told old new = IsNone told.counts × IsOverLimit asked ground told.cause old new

-- What an audit comes to if no count rose: the verdict on a text within the limit, with status 0 or 8; status 9 for a
-- longer text; or want of memory.
abbrev pub IsAudited : (status : ℕ) → Cause → (text : List ℕ) → Type 0
IsAudited status cause text =
    ((length text ≤ most_trail) × (is_verdict cause ≡ true) × Judges cause text × (status ≡ status_of cause))
    ⊎ ((most_trail < length text) × (status ≡ 9)) ⊎ (status ≡ 7)

-- What an inspection comes to if no limit was passed and no count rose.
pub record CompletesInspection (ground : Ground) (mends : Bool) (status : ℕ) : Type 0 where
  pub sound : (graph : Graph) → ground.reads graph → (status ≡ 0) ⊎ (status ≡ 7)
  pub unsound : mends ≡ false → ground.unsound → (status ≡ 3) ⊎ (status ≡ 7)
  pub any : (status ≡ 0) ⊎ (status ≡ 3) ⊎ (status ≡ 7)

-- ---- all that is said

-- What a service did and reported on a volume that reads as this graph. The trail is a legal run on it, and each answer
-- is exact.
pub record DidOn (service : Service) (ground : Ground) (graph : Graph) (old new : Outside) (told : Report)
    (ending : Ending)
    (trail : List Event) : Type 0 where
  pub last : State
  pub legal : replay service.seed graph trail ≡ Some last
  -- each Full names the room of the state before it, less the blocks, not yet swept, of objects that are gone; each
  -- request that was done left four blocks of the room beside its need
  pub exact : 0 < ground.cylinders → AreExact ground.cylinders service.seed 0 (opening graph) trail
  -- if no call of the disk failed, no failed call and no stop is behind an event
  pub calm : ¬ (RoseIn old.disk new.disk) → list_all is_calm trail ≡ true
  -- no block is damaged: no event reports one, and the core stopped at none
  pub undamaged : (list_any tells_damage trail ≡ false) × (damage_in ending.stop ≡ None)
  -- the moment that is reported of a disk is that of the stop; with another cause there was no stop, and no damage
  pub stop : WasServed told → IsStopTold told.cause last.stopped
  -- the counts are those of the trail and of the last graph, and that of Free blocks is too if there was no stop, the
  -- collector wasn't refused, and nothing sweeps
  pub counted : IfSome told.counts (λ counts. (counts ≡ counts_of (length old.sources) trail last.graph counts.free)
      × (ending.refused ≡ None → last.stopped ≡ None → sweeps_now last.collection ≡ false
      → counts.free ≡ free_once_tidy ground.cylinders last.graph))
  -- once as many collections are finished as were called for, nothing sweeps
  pub rests : last.stopped ≡ None → finishes_in trail ≡ service.collections → sweeps_now last.collection ≡ false
  -- the graph that was served is a good one, so that the laws of what vanishes hold of the trail
  pub whole : WasServed told → IsGraph graph

-- What a run does and reports: by what its words ask for, what its volume is, what is outside before and after, the
-- report, and the trail.
pub record Did (asked : Asked) (ground : Ground) (old new : Outside) (told : Report) (ending : Ending)
    (trail : List Event)
    : Type 0 where
  -- as many sources and sinks are handed back as there were
  pub places : HasPlaces asked (length new.sources) (length new.sinks)
  -- if nothing was served, there is no event, no sink took a byte, and nothing ended; else each session left
  pub unserved : IsNone told.counts → (trail ≡ []) × (new.sinks ≡ old.sinks) × (ending ≡ not_begun)
  pub unasked : is_service asked ≡ false → IsNone told.counts
  pub leaves : WasServed told → EachSource (λ session _ _. (stopped : Option ℕ)
      × (events_of_session session trail ≡ turns_in session trail ++ events.Leave session stopped ∷ [])) old new
  -- if no collection is called for, no event is a step of one
  pub sessions : collections_of asked ≡ 0 → list_all is_no_step trail ≡ true
  pub others : (k : ℕ) → length old.sources ≤ k → events_of_session k trail ≡ []
  -- from each graph that the volume may read as, the events are a legal run
  pub on : IfServes asked (λ service. (graph : Graph) → ground.reads graph
      → DidOn service ground graph old new told ending trail)
  -- a volume that is known to be unsound is never served
  pub sound : WasServed told → ¬ ground.unsound
  -- whether each session's sink took all replies
  pub took : ℕ → Bool
  pub fell : Bool
  pub falls : HasBroken fell old took
  pub stands : IsNone told.counts → fell ≡ false
  -- the events are the turns of the script that the source had; their names are bound from the root index on
  pub turns : IfServes asked (λ service. WasServed told → (root : Puid)
      × ((graph : Graph) → ground.reads graph → graph.root ≡ root)
      × EachSource (λ session source _. IsServedFrom root trail (took session) session source) old new)
  -- what was served is within the limits
  pub within : is_service asked ≡ true → WasServed told → (scripts : List (List ℕ)) → HadLeft old scripts
      → AreWithinLimits scripts
  -- the sink has taken the replies, all or some beginning of them
  pub replied : EachSink (λ session sink outside_after. Replied sink outside_after (printed_replies session trail)
      (took session)) old new
  -- a session whose sink failed ends with the reply in which it failed: no line after it was served
  pub broken : WasServed told → EachSink (λ session sink outside_after. took session ≡ false
      → BreaksOff session sink outside_after (turns_in session trail)) old new
  -- the report says that the words are of no form, or that this page was asked for, exactly if it is so
  pub words : (told.cause ≡ causes.Words) ↔ (asked ≡ Nothing)
  pub page : (page : Page) → (told.cause ≡ causes.Page page) ↔ (asked ≡ Shows page)
  -- if nothing was served, the report says why, unless a volume was to be made or mended; of one that was to be made it
  -- reports only a failed disk
  pub cause : IsNone told.counts → makes_volume asked ≡ false → ¬ (told.cause ≡ causes.Nothing)
  pub made : is_format asked ≡ true → TellsMade told.cause old.disk new.disk
  -- an audit reports what was found of its source, and only an audit reports a verdict
  pub audited : is_audit asked ≡ true → EachSource (λ _ source outside_after. Finds told.cause source outside_after)
      old new
  pub verdict : is_verdict told.cause ≡ true → is_audit asked ≡ true
  -- an inspection reports what was found of the volume, and only an inspection lists faults
  pub inspected : IfInspects asked (λ i. IsInspected ground i.mends (RoseIn old.disk new.disk) told.cause told.faults)
  pub bare : is_inspection asked ≡ false → told.faults ≡ []
  -- a service reports the first of these that has come: a failed call, a damage, a sink that broke, want of memory
  pub ends : WasServed told → EndsService (RoseIn old.disk new.disk) (collections_of asked) ending trail
  pub spoiled : WasServed told → told.cause ≡ cause_of ending trail fell
  -- whatever volume it is, the report counts the sessions, the replies and the finished collections of the trail
  pub counts : IfSome told.counts (CountsSessions (length old.sources) trail)
  -- its counts of objects and of Free blocks are those of the core's last status, which is handed back
  pub last : IfSome told.counts (TellsLast (collections_of asked) ending trail)
  -- no more collections began than were called for
  pub few : begins_in trail ≤ collections_of asked
  -- if the collector wasn't refused, as many are finished as were called for
  pub collected : WasServed told → ending.refused ≡ None → finishes_in trail ≡ collections_of asked
  -- the collector wanted memory only to begin one
  pub wanting : ending.refused ≡ Some faults.Memory → IsWanting (collections_of asked) trail

-- What is said of a run, other than a spin, lines of names and a conversation: all this, and what the status says.
pub record Said (asked : Asked) (ground : Ground) (old new : Outside) (told : Report) (status : ℕ) (ending : Ending)
    (trail : List Event) : Type 0 where
  pub did : Did asked ground old new told ending trail
  -- The report's sink has taken its text, all or some beginning of it. That is its lines or, of a trace that was
  -- served, the trail, as far as there was memory for its lines.
  pub short : Bool
  pub text : List ℕ
  pub is_text : IsText asked told trail short text
  pub reported : WritesReport text old new
  -- the status is that of the cause, or 5 for a report that failed; then what each status says
  pub is_status : IsStatus status (last_cause short told.cause) old new
  pub status_0 : status ≡ 0 → EndedWell asked ground told trail old new ⊎ Showed told old new ⊎ Made asked told old new
      ⊎ Audited asked told old new ⊎ FoundSound asked ground told old new ⊎ WasMended asked told old new
  pub status_2 : (status ≡ 2) ↔ (asked ≡ Nothing)
  pub status_3 : status ≡ 3 → VolumeRefused ground told
  pub told_3 : (fault : VolumeFault) → told.cause ≡ causes.Volume fault → status ≡ 3
  pub status_4 : status ≡ 4 → DiskFailed told old new
  pub status_5 : status ≡ 5 → SinkFailed told old new
  pub status_6 : status ≡ 6 → SourceFailed told old new
  pub status_7 : status ≡ 7 → MemoryWanting short told.cause text old new
  pub status_8 : (status ≡ 8) ↔ (is_refutation told.cause ≡ true)
  pub status_9 : status ≡ 9 → LimitPassed asked ground told old new
  -- a limit that was passed gives 9, unless a source failed or memory was wanting
  pub over : is_service asked ≡ true → (scripts : List (List ℕ)) → HadLeft old scripts → ¬ (AreWithinLimits scripts)
      → (status ≡ 9) ⊎ (told.cause ≡ causes.Memory) ⊎ (status ≡ 6)
  pub overlong : is_audit asked ≡ true → (text : List ℕ) → HadLeft old (text ∷ []) → most_trail < length text
      → (status ≡ 9) ⊎ (told.cause ≡ causes.Memory) ⊎ (status ≡ 6)
  pub oversized : is_inspection asked ≡ true → most_inspected < ground.blocks → status ≡ 9
  -- only an inspection reports that a volume is sound, or too long to be loaded
  pub finding : is_finding told.cause ≡ true → is_inspection asked ≡ true
  -- If no limit was passed and no count rose, a service on a sound volume gives 0 or 7, and on one that is known to be
  -- unsound 3 or 7. A page, or a volume to be made, gives 0.
  pub complete : is_service asked ≡ true → (scripts : List (List ℕ)) → HadLeft old scripts → AreWithinLimits scripts
      → NoCountRose old new → (graph : Graph) → ground.reads graph → (status ≡ 0) ⊎ (status ≡ 7)
  pub refused : is_service asked ≡ true → (scripts : List (List ℕ)) → HadLeft old scripts → AreWithinLimits scripts
      → NoCountRose old new → ground.unsound → (status ≡ 3) ⊎ (status ≡ 7)
  pub judged : is_audit asked ≡ true → (text : List ℕ) → HadLeft old (text ∷ []) → NoCountRose old new
      → IsAudited status told.cause text
  pub shown : (page : Page) → asked ≡ Shows page → NoCountRose old new → status ≡ 0
  pub formatted : is_format asked ≡ true → NoCountRose old new → status ≡ 0
  -- an inspection of a sound volume gives 0 or 7, a check of one that is known to be unsound 3 or 7, and any inspection
  -- 0, 3 or 7
  pub inspected : IfInspects asked (λ i. ground.blocks ≤ most_inspected → NoCountRose old new
      → CompletesInspection ground i.mends status)
