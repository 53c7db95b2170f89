-- What `top` says of a conversation.
use Rattle.std.specs.Prelude.{◌≡◌, ◌⊎◌, ℕ, ◌<◌, true, false, List, [], ◌∷◌, ◌++◌, length, Option, Some, None, IsNone}
use Rattle.std.specs.List.{list_all, list_any}
use Rattle.cfs_base.specs.Outside.{Intake, Supply}
use Rattle.cfs_base.specs.declared.disk.Disk.{Ghosts}
use Rattle.cfs_ports.specs.Lines.{is_within_line, joined_lines}
use Rattle.cfs_streams.specs.Writing.{Wrote}
use Rattle.ufs_model.specs.declared.asked.Event.{Event}
use Rattle.ufs_model.specs.Graph.{Graph}
use Rattle.ufs_model.specs.Printed.{printed_replies}
use Rattle.ufs_model.specs.Script.{request_lines}
use Rattle.ufs_model.specs.Turns.{turns_in}
use Rattle.cfs_serve.specs.Disks.{ServesVolume}
use Rattle.cfs_serve.specs.Ending.{not_begun}
use Rattle.cfs_serve.specs.Events.{is_calm, wants_memory}
use Rattle.cfs_serve.specs.Ground.{Ground}
use Rattle.cfs_serve.specs.Limits.{most_lines}
use Rattle.cfs_serve.specs.Report.{report_text}
use Rattle.cfs_serve.specs.Talk.{BeginsTooLong, HasConversed, HasNotConversed, talk_cause, talk_report}
use Rattle.cfs_serve.specs.Top.{DiskFailed, EachSink, EachSource, IsStatus, MemoryWanting, NoCountRose, Outside}
use Rattle.cfs_serve.specs.Top.{SinkFailed, SomeRose, VolumeRefused, WasServed, WritesReport, source_faults}
use Rattle.cfs_serve.specs.Whole.{HasPlaces, Places, RoseIn}
use Rattle.cfs_serve.specs.Words.{Asked, Conversation, Converses}
use Rattle.cfs_serve.specs.declared.ending.Ending.{Ending}
use Rattle.cfs_serve.specs.declared.report.Cause.{Cause}
use Rattle.cfs_serve.specs.declared.report.Cause.TheVariants as causes
use Rattle.cfs_serve.specs.declared.report.Counts.{Counts}
use Rattle.cfs_serve.specs.declared.report.Report.{Report}
use Rattle.cfs_serve.specs.declared.report.VolumeFault.{VolumeFault}
use Rattle.cfs_serve.specs.declared.talk.TalkEnd.{TalkEnd}

-- ---- on the disk

-- A conversation was had, and to the disk it was a service.
pub record HoldsConversation {D : Type 0} (g : Ghosts D) (talk : Conversation) (ground : Ground)
    (places places_after : Places)
    (told : Report) (ending : Ending) (trail : List Event) (moments : List ℕ) (old new : D) : Type 0 where
  pub source : Supply
  pub source_after : Supply
  pub sink : Intake
  pub sink_after : Intake
  pub sources_are : (places.sources ≡ source ∷ []) × (places_after.sources ≡ source_after ∷ [])
  pub sinks_are : (places.sinks ≡ sink ∷ []) × (places_after.sinks ≡ sink_after ∷ [])
  pub end : TalkEnd
  pub counts : Counts
  pub cause : Cause
  pub told_is : told ≡ talk_report counts (talk_cause cause end)
  pub conversed : HasConversed ground talk.seed talk.every (RoseIn places.disk places_after.disk) source source_after
      sink sink_after end counts cause ending trail
  pub volume : ServesVolume g talk.seed (talk_report counts cause) ending trail moments old new

-- or none was
pub record HoldsNone {D : Type 0} (g : Ghosts D) (talk : Conversation) (ground : Ground) (places places_after : Places)
    (told : Report) (ending : Ending) (trail : List Event) (moments : List ℕ) (old new : D) : Type 0 where
  pub unheard : HasNotConversed ground (RoseIn places.disk places_after.disk) places.sources places_after.sources
      places.sinks places_after.sinks told ending trail
  pub volume : ServesVolume g talk.seed told ending trail moments old new

abbrev pub DoesTalk : {D : Type 0} → Ghosts D → Conversation → Ground → (places places_after : Places) → Report → Ending
    → List Event → List ℕ → D → D → Type 0
DoesTalk g talk ground places places_after told ending trail moments old new =
    HoldsConversation g talk ground places places_after told ending trail moments old new
    ⊎ HoldsNone g talk ground places places_after told ending trail moments old new

abbrev TalksOn : {D : Type 0} → Ghosts D → Conversation → Ground → (places places_after : Places) → Report → Ending
    → List Event → List ℕ → Option D → Option D → Type 0
TalksOn g talk ground places places_after told ending trail moments (Some old) (Some new) =
    DoesTalk g talk ground places places_after told ending trail moments old new
TalksOn g talk ground places places_after told ending trail moments (Some old) None = ⊥
TalksOn g talk ground places places_after told ending trail moments None new = ⊥

-- where one is asked for
abbrev pub IfTalks : {D : Type 0} → Ghosts D → Asked → Ground → (places places_after : Places) → Report → Ending
    → List Event → List ℕ → Option D → Option D → Type 0
IfTalks g (Converses talk) ground places places_after told ending trail moments old new =
    TalksOn g talk ground places places_after told ending trail moments old new
IfTalks g asked ground places places_after told ending trail moments old new = Unit {0}

-- ---- limits

-- a line of a text is too long
pub record HasLongLine (text : List ℕ) : Type 0 where
  pub before : List ℕ
  pub line : List ℕ
  pub split : text ≡ before ++ line
  pub long : BeginsTooLong line

-- it has more than as many lines as a conversation may have
pub record HasMoreLines (text : List ℕ) : Type 0 where
  pub lines : List (List ℕ)
  pub rest : List ℕ
  pub whole : list_all is_within_line lines ≡ true
  pub count : length lines ≡ most_lines
  pub split : text ≡ joined_lines lines ++ rest
  pub more : 0 < length rest

-- its lines are within the limits
pub record IsWithinTalk (text : List ℕ) : Type 0 where
  pub few : ¬ HasMoreLines text
  pub short : ¬ HasLongLine text

-- ---- what the status says

-- 0: each request line of the source has its one reply in the sink, none reports want of memory, and no failed call of
-- the disk, no damage and no stop is behind an event
pub record TalkEndedWell (told : Report) (trail : List Event) (old new : Outside) : Type 0 where
  pub served : WasServed told
  pub nothing : told.cause ≡ causes.Nothing
  pub answered : EachSource (λ session source _. (left : List ℕ) → source.left ≡ Some left
      → length (turns_in session trail) ≡ length (request_lines left)) old new
  pub replied : EachSink (λ session sink sink_after. Wrote sink sink_after (printed_replies session trail)) old new
  pub memory : list_any wants_memory trail ≡ false
  pub calm : list_all is_calm trail ≡ true
  pub reported : Wrote old.report new.report (report_text told)

-- 6: the source failed, and what was answered stands
abbrev pub TalkSourceFailed : Report → Outside → Outside → Type 0
TalkSourceFailed told old new =
    WasServed told × (told.cause ≡ causes.Source 0) × SomeRose (source_faults old) (source_faults new)

-- 9: a line was too long, or there were too many; what was answered stands
abbrev pub IsOverTalk : Cause → List ℕ → Type 0
IsOverTalk (causes.Long n) left = (n ≡ 0) × HasLongLine left
IsOverTalk causes.LongTotal left = HasMoreLines left
IsOverTalk cause left = ⊥

abbrev pub TalkLimitPassed : Report → Outside → Outside → Type 0
TalkLimitPassed told old new = WasServed told
    × EachSource (λ _ source _. (left : List ℕ) → source.left ≡ Some left → IsOverTalk told.cause left) old new

-- the source tells its bytes, and they are within the limits
abbrev pub IsWithinTalks : Outside → Outside → Type 0
IsWithinTalks old new =
    EachSource (λ _ source _. (left : List ℕ) × (source.left ≡ Some left) × IsWithinTalk left) old new

-- Of a conversation: what is told, and what the status says.
pub record SaidOfTalk (talk : Conversation) (ground : Ground) (old new : Outside) (told : Report) (status : ℕ)
    (ending : Ending) (trail : List Event) : Type 0 where
  pub places : HasPlaces (Converses talk) (length new.sources) (length new.sinks)
  -- if none was had, there is no event, nothing was read, the sink took no byte, nothing ended, and the report says why
  pub unserved : IsNone told.counts → (trail ≡ []) × (new.sources ≡ old.sources) × (new.sinks ≡ old.sinks)
      × (ending ≡ not_begun) × ¬ (told.cause ≡ causes.Nothing)
  pub sound : WasServed told → ¬ ground.unsound
  pub bare : told.faults ≡ []
  pub reported : WritesReport (report_text told) old new
  pub is_status : IsStatus status told.cause old new
  pub status_0 : status ≡ 0 → TalkEndedWell told trail old new
  pub status_2 : ¬ (status ≡ 2)
  pub status_3 : status ≡ 3 → VolumeRefused ground told
  pub told_3 : (fault : VolumeFault) → told.cause ≡ causes.Volume fault → status ≡ 3
  pub status_4 : status ≡ 4 → DiskFailed told old new
  pub status_5 : status ≡ 5 → SinkFailed told old new
  pub status_6 : status ≡ 6 → TalkSourceFailed told old new
  pub status_7 : status ≡ 7 → MemoryWanting false told.cause (report_text told) old new
  pub status_8 : ¬ (status ≡ 8)
  pub status_9 : status ≡ 9 → TalkLimitPassed told old new
  -- if no limit is passed and no count rose, it is 0 or 7 on a sound volume, and 3 or 7 on one that is known to be
  -- unsound
  pub complete : IsWithinTalks old new → NoCountRose old new → (graph : Graph) → ground.reads graph
      → (status ≡ 0) ⊎ (status ≡ 7)
  pub refused : NoCountRose old new → ground.unsound → (status ≡ 3) ⊎ (status ≡ 7)
