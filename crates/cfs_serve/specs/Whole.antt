-- A whole run, step by step: the words, the sources and the sinks, the report and the status. What `top` says follows
-- from it.
use Rattle.std.specs.Prelude.{◌≡◌, ℕ, ◌+◌, ◌*◌, ◌≤◌, ◌⊎◌, Bool, true, false, List, [], ◌∷◌, length, slice_get, Option}
use Rattle.std.specs.Prelude.{Some, None, IsSome}
use Rattle.cfs_base.specs.Outside.{Intake, Supply, Rose}
use Rattle.cfs_ports.specs.Port.{Replied}
use Rattle.name_lines.specs.declared.answer.Answer.{Answer}
use Rattle.ufs_model.specs.declared.asked.Event.{Event}
use Rattle.cfs_serve.specs.declared.report.Cause.{Cause}
use Rattle.cfs_serve.specs.declared.report.Cause.TheVariants as causes
use Rattle.cfs_serve.specs.declared.ending.Ending.{Ending}
use Rattle.cfs_serve.specs.declared.report.Counts.{Counts}
use Rattle.cfs_serve.specs.declared.report.Report.{Report}
use Rattle.cfs_serve.specs.declared.paths.Volume.{Volume}
use Rattle.cfs_serve.specs.declared.paths.Volume.TheVariants as volumes
use Rattle.cfs_serve.specs.Words.{Asked, Place, Converses, Dirs, InFile, InMemory, Inspects, Shows, Audits, Formats}
use Rattle.cfs_serve.specs.Words.{Serves, Spin, Spins, Nothing, most_made}
use Rattle.cfs_serve.specs.Limits.{most_cylinders}
use Rattle.cfs_serve.specs.Spun.{drains, drawn_sources}
use Rattle.cfs_serve.specs.Audit.{Finds}
use Rattle.cfs_serve.specs.Ending.{not_begun}
use Rattle.cfs_serve.specs.Ground.{Ground}
use Rattle.cfs_serve.specs.Inspected.{IsInspected}
use Rattle.cfs_serve.specs.Report.{status_of, untold}
use Rattle.cfs_serve.specs.Text.{IsText, last_cause}
use Rattle.cfs_serve.specs.Named.{AreNamesServed}
use Rattle.cfs_serve.specs.Talk.{HasConversed, HasNotConversed, talk_cause, talk_report}
use Rattle.cfs_serve.specs.declared.talk.TalkEnd.{TalkEnd}
use Rattle.cfs_serve.specs.Played.{IsRunOf, ServesNone}

-- what is outside: how often the volume's disk failed, if there is one, and what is known of the sources and of the
-- sinks
pub record Places : Type 0 where
  pub disk : Option ℕ
  pub sources : List Supply
  pub sinks : List Intake

-- a volume in a file is named, and none in memory
abbrev NamesPlace : Place → Option Volume → Type 0
NamesPlace (InMemory cylinders) volume = volume ≡ None
NamesPlace (InFile path pair) volume = volume ≡ Some (volumes.Existing path)

-- the volume is named and sized as the words say, or none is named
abbrev pub NamesVolume : Asked → Option Volume → Type 0
NamesVolume (Formats format) volume = volume ≡ Some (volumes.Fresh format.volume format.cylinders)
NamesVolume (Serves service) volume = NamesPlace service.volume volume
NamesVolume (Audits trail) volume = volume ≡ None
NamesVolume (Inspects inspection) volume = volume ≡ Some (volumes.Existing inspection.volume)
NamesVolume (Spins spin) volume = volume ≡ None
NamesVolume (Shows page) volume = volume ≡ None
NamesVolume (Dirs names) volume = volume ≡ Some (volumes.Existing names.volume)
NamesVolume (Converses talk) volume = volume ≡ Some (volumes.Existing talk.volume)
NamesVolume Nothing volume = volume ≡ None

-- a volume that is made has as many cylinders as it may have, of pairs of blocks or not
abbrev pub HasCylinders : (pair : Bool) → Volume → Type 0
HasCylinders pair (volumes.Fresh path cylinders) = (1 ≤ cylinders) × (cylinders ≤ most_made pair)
HasCylinders pair (volumes.Existing path) = Unit {0}

-- there is a disk of the right size for a volume that is made, one of any size for an existing volume, or none
abbrev pub FitsVolume : Option Volume → (blocks : Option ℕ) → Type 0
FitsVolume (Some (volumes.Fresh path cylinders)) blocks = blocks ≡ Some (64 * cylinders)
FitsVolume (Some (volumes.Existing path)) blocks = IsSome blocks
FitsVolume None blocks = blocks ≡ None

abbrev HasPlaceDisk : Place → (blocks : Option ℕ) → Type 0
HasPlaceDisk (InMemory cylinders) blocks = blocks ≡ None
HasPlaceDisk (InFile path pair) blocks = IsSome blocks

-- the same, by what the words ask for
abbrev pub HasDisk : Asked → (blocks : Option ℕ) → Type 0
HasDisk (Formats format) blocks = blocks ≡ Some (64 * format.cylinders)
HasDisk (Serves service) blocks = HasPlaceDisk service.volume blocks
HasDisk (Audits trail) blocks = blocks ≡ None
HasDisk (Inspects inspection) blocks = IsSome blocks
HasDisk (Spins spin) blocks = blocks ≡ None
HasDisk (Shows page) blocks = blocks ≡ None
HasDisk (Dirs names) blocks = IsSome blocks
HasDisk (Converses talk) blocks = IsSome blocks
HasDisk Nothing blocks = blocks ≡ None

-- a source and a sink for each session, and for lines of names and a conversation; the source of a trail; or none
abbrev pub HasPlaces : Asked → (sources sinks : ℕ) → Type 0
HasPlaces (Serves service) sources sinks = (sources ≡ length service.sessions) × (sinks ≡ length service.sessions)
HasPlaces (Audits trail) sources sinks = (sources ≡ 1) × (sinks ≡ 0)
HasPlaces (Inspects inspection) sources sinks = (sources ≡ 0) × (sinks ≡ 0)
HasPlaces (Spins spin) sources sinks = (sources ≡ 0) × (sinks ≡ 0)
HasPlaces (Formats format) sources sinks = (sources ≡ 0) × (sinks ≡ 0)
HasPlaces (Shows page) sources sinks = (sources ≡ 0) × (sinks ≡ 0)
HasPlaces (Dirs names) sources sinks = (sources ≡ 1) × (sinks ≡ 1)
HasPlaces (Converses talk) sources sinks = (sources ≡ 1) × (sinks ≡ 1)
HasPlaces Nothing sources sinks = (sources ≡ 0) × (sinks ≡ 0)

-- no service was asked for: nothing was served, no sink took a byte, and this cause is reported
pub record AsksNone (cause : Cause) (old new : Places) (report : Report) (ending : Ending)
    (trail : List Event) : Type 0 where
  pub no_event : trail ≡ []
  pub no_end : ending ≡ not_begun
  pub sources : new.sources ≡ old.sources
  pub sinks : new.sinks ≡ old.sinks
  pub told : report ≡ untold cause

-- An audit was asked for: nothing was served, and this is reported of its only source.
pub record AsksAudit (old new : Places) (report : Report) (ending : Ending) (trail : List Event) : Type 0 where
  pub no_event : trail ≡ []
  pub no_end : ending ≡ not_begun
  pub sinks : new.sinks ≡ old.sinks
  pub told : report ≡ untold report.cause
  pub sources : length new.sources ≡ length old.sources
  pub found : (source after : Supply) → slice_get old.sources 0 ≡ Some source → slice_get new.sources 0 ≡ Some after
      → Finds report.cause source after

-- the disk's count of faults rose
abbrev pub RoseIn : Option ℕ → Option ℕ → Type 0
RoseIn (Some old) (Some new) = Rose old new
RoseIn (Some old) None = ⊥
RoseIn None new = ⊥

-- nothing is reported of a volume that was made; else its disk failed, and that is reported
abbrev pub TellsMade : Cause → (old new : Option ℕ) → Type 0
TellsMade cause old new = (cause ≡ causes.Nothing) ⊎ ((cause ≡ causes.Disk None) × RoseIn old new)

-- An inspection was asked for: nothing was served, and this is reported of the volume.
pub record AsksInspection (ground : Ground) (mends : Bool) (old new : Places) (report : Report) (ending : Ending)
    (trail : List Event) : Type 0 where
  pub no_event : trail ≡ []
  pub no_end : ending ≡ not_begun
  pub sources : new.sources ≡ old.sources
  pub sinks : new.sinks ≡ old.sinks
  pub told : report ≡ record { counts = None; faults = report.faults; cause = report.cause }
  pub found : IsInspected ground mends (RoseIn old.disk new.disk) report.cause report.faults

-- sessions were asked for, and this is what it came to
pub record AsksSessions (ground : Ground) (seed collections : ℕ) (old new : Places) (report : Report) (ending : Ending)
    (trail : List Event) : Type 0 where
  pub sources : length new.sources ≡ length old.sources
  pub sinks : length new.sinks ≡ length old.sinks
  pub run : IsRunOf ground seed collections (RoseIn old.disk new.disk) old.sources new.sources old.sinks
      new.sinks report
      ending trail

-- the sources and the sinks of a spin, with the volume's disk
abbrev pub spun : Spin → Places → Places
spun spin p = record { disk = p.disk; sources = drawn_sources spin.seed spin.count; sinks = drains }

-- A spin was asked for, which has room. Its own sessions were asked for, and nothing outside was touched.
pub record AsksSpin (spin : Spin) (ground : Ground) (old new : Places) (report : Report) (ending : Ending)
    (trail : List Event) : Type 0 where
  pub sources : new.sources ≡ old.sources
  pub sinks : new.sinks ≡ old.sinks
  pub size : spin.cylinders ≤ most_cylinders
  pub fits : 12 * spin.count + 64 ≤ 63 * spin.cylinders
  pub asks : AsksSessions ground spin.seed 2 (spun spin old) (spun spin new) report ending trail

-- lines of names were served
pub record HaveNames (ground : Ground) (old new : Places) (report : Report) (ending : Ending) : Type 0 where
  pub lines : List (List ℕ)
  pub told : List Answer
  pub counts : Counts
  pub cause : Cause
  pub served : AreNamesServed ground (RoseIn old.disk new.disk) old.sources old.sinks new.sinks lines told counts cause
      report ending

-- Lines of names were asked for, and were served, or nothing was. There is no event.
pub record AsksNames (ground : Ground) (old new : Places) (report : Report) (ending : Ending)
    (trail : List Event) : Type 0 where
  pub no_event : trail ≡ []
  pub sources : length new.sources ≡ length old.sources
  pub sinks : length new.sinks ≡ length old.sinks
  pub run : HaveNames ground old new report ending
      ⊎ ServesNone ground (RoseIn old.disk new.disk) old.sources new.sources old.sinks new.sinks report ending trail

-- a conversation was had
pub record HaveConversed (ground : Ground) (seed every : ℕ) (old new : Places) (report : Report) (ending : Ending)
    (trail : List Event) : Type 0 where
  pub source : Supply
  pub source_after : Supply
  pub sink : Intake
  pub sink_after : Intake
  pub sources_are : (old.sources ≡ source ∷ []) × (new.sources ≡ source_after ∷ [])
  pub sinks_are : (old.sinks ≡ sink ∷ []) × (new.sinks ≡ sink_after ∷ [])
  pub end : TalkEnd
  pub counts : Counts
  pub cause : Cause
  pub told : report ≡ talk_report counts (talk_cause cause end)
  pub conversed : HasConversed ground seed every (RoseIn old.disk new.disk) source source_after sink sink_after end
      counts cause ending trail

-- A conversation was asked for, and was had, or not.
pub record AsksTalk (ground : Ground) (seed every : ℕ) (old new : Places) (report : Report) (ending : Ending)
    (trail : List Event) : Type 0 where
  pub sources : length new.sources ≡ length old.sources
  pub sinks : length new.sinks ≡ length old.sinks
  pub run : HaveConversed ground seed every old new report ending trail
      ⊎ HasNotConversed ground (RoseIn old.disk new.disk) old.sources new.sources old.sinks new.sinks report ending
      trail

abbrev pub AsksServer : Asked → Ground → (old new : Places) → Report → Ending → List Event → Type 0
AsksServer (Serves service) ground old new report ending trail =
    AsksSessions ground service.seed service.collections old new report ending trail
AsksServer (Formats format) ground old new report ending trail =
    AsksNone report.cause old new report ending trail × TellsMade report.cause old.disk new.disk
AsksServer (Audits text) ground old new report ending trail = AsksAudit old new report ending trail
AsksServer (Inspects inspection) ground old new report ending trail =
    AsksInspection ground inspection.mends old new report ending trail
AsksServer (Spins spin) ground old new report ending trail = AsksSpin spin ground old new report ending trail
AsksServer (Dirs names) ground old new report ending trail = AsksNames ground old new report ending trail
AsksServer (Converses talk) ground old new report ending trail =
    AsksTalk ground talk.seed talk.every old new report ending trail
AsksServer (Shows page) ground old new report ending trail = AsksNone (causes.Page page) old new report ending trail
AsksServer Nothing ground old new report ending trail = AsksNone causes.Words old new report ending trail

-- the status: that of the cause, or 5 if the report could not be written and nothing worse is reported
abbrev pub status_at_end : (written : Bool) → Cause → ℕ
status_at_end true cause = status_of cause
status_at_end false causes.Nothing = 5
status_at_end false (causes.Page page) = 5
status_at_end false causes.Memory = 5
status_at_end false causes.Words = 2
status_at_end false (causes.Volume fault) = 3
status_at_end false (causes.Disk moment) = 4
status_at_end false causes.Sink = 5
status_at_end false (causes.Source i) = 6
status_at_end false (causes.Long i) = 9
status_at_end false causes.LongTotal = 9
status_at_end false causes.LongVolume = 9
status_at_end false (causes.Legal n) = 5
status_at_end false (causes.BadLine line) = 8
status_at_end false (causes.Illegal event) = 8
status_at_end false (causes.Sound objects left) = 5

-- the report of the run is this one, and so it was written
pub record IsWholeRun (asked : Asked) (ground : Ground) (old new : Places) (report report_after : Intake)
    (told : Report)
    (status : ℕ) (ending : Ending) (trail : List Event) : Type 0 where
  pub run : AsksServer asked ground old new told ending trail
  -- the sink of the report has taken all of its text, or some beginning of it
  pub short : Bool
  pub text : List ℕ
  pub is_text : IsText asked told trail short text
  pub written : Bool
  pub reported : Replied report report_after text written
  pub said : status ≡ status_at_end written (last_cause short told.cause)
