-- What `top` says of lines of names.
use Rattle.std.specs.Prelude.{◌≡◌, ◌⊎◌, ℕ, ◌≤◌, IsTrue, true, false, List, [], length, Option, Some, None, IsNone}
use Rattle.std.specs.List.{list_any}
use Rattle.cfs_base.specs.Outside.{Intake, Supply}
use Rattle.cfs_base.specs.declared.disk.Disk.{Ghosts}
use Rattle.cfs_recover.specs.Recovered.{IsUntouched}
use Rattle.cfs_streams.specs.Writing.{Wrote}
use Rattle.name_lines.specs.declared.answer.Answer.{Answer}
use Rattle.name_lines.specs.Printed.{printed_answers, is_disk_answer, is_memory_answer}
use Rattle.ufs_model.specs.declared.asked.Event.{Event}
use Rattle.ufs_model.specs.Graph.{Graph}
use Rattle.ufs_model.specs.Script.{request_lines}
use Rattle.vol_image.specs.Sound.{IsSound, IsSoundAs}
use Rattle.cfs_serve.specs.Disks.{IsLater, LeavesSinceTry, is_of_sources}
use Rattle.cfs_serve.specs.Ending.{not_begun}
use Rattle.cfs_serve.specs.Ground.{Ground}
use Rattle.cfs_serve.specs.Named.{HasServedNames}
use Rattle.cfs_serve.specs.Played.{ServesNone}
use Rattle.cfs_serve.specs.Report.{report_text}
use Rattle.cfs_serve.specs.Scripts.{AreWithinLimits}
use Rattle.cfs_serve.specs.Top.{DiskFailed, EachSink, EachSource, HadLeft, IsStatus, LimitPassed, MemoryWanting}
use Rattle.cfs_serve.specs.Top.{NoCountRose, Outside, SinkFailed, SourceFailed, VolumeRefused, WasServed, WritesReport}
use Rattle.cfs_serve.specs.Whole.{HasPlaces, Places, RoseIn}
use Rattle.cfs_serve.specs.Words.{Asked, Dirs, NamesService}
use Rattle.cfs_serve.specs.declared.ending.Ending.{Ending}
use Rattle.cfs_serve.specs.declared.report.Cause.TheVariants as causes
use Rattle.cfs_serve.specs.declared.report.Report.{Report}
use Rattle.cfs_serve.specs.declared.report.VolumeFault.{VolumeFault}

-- ---- on the disk

-- The volume of a disk was opened, or not: the disk as the opening ended, and as it is handed back.
pub record OpensVolume {D : Type 0} (g : Ghosts D) (told : Report) (old opened new : D) : Type 0 where
  pub later : IsLater g old opened
  pub rises : g.faults opened ≤ g.faults new
  -- what a crash leaves since the first barrier of the opening reads as before
  pub opening : IsTrue (g.honest old) → (graph : Graph) → IsSoundAs (g.content old) graph
      → (opened ≡ old) ⊎ LeavesSinceTry g old opened (λ c. IsSoundAs c graph)
  pub unserved : told.counts ≡ None → new ≡ opened
  -- if the volume was refused for what is wrong with it, or isn't sound, nothing was written; if a source failed or is
  -- too long, the volume wasn't opened
  pub untouched : IsTrue (g.honest old) → told.counts ≡ None → (fault : VolumeFault) → told.cause ≡ causes.Volume fault
      → IsUntouched g old new
  pub unsound : IsTrue (g.honest old) → ¬ IsSound (g.content old) → IsUntouched g old new
  pub unread : told.counts ≡ None → is_of_sources told.cause ≡ true → new ≡ old

-- Lines of names on the volume of a disk: they were served, or nothing was.
pub record DoesNames {D : Type 0} (g : Ghosts D) (ground : Ground) (places places_after : Places) (told : Report)
    (ending : Ending) (old new : D) : Type 0 where
  pub opened : D
  pub opens : OpensVolume g told old opened new
  pub run : HasServedNames g ground (RoseIn places.disk places_after.disk) places.sources places.sinks
      places_after.sinks told ending opened new
      ⊎ ServesNone ground (RoseIn places.disk places_after.disk) places.sources places_after.sources places.sinks
      places_after.sinks told ending []

abbrev pub NamesOn : {D : Type 0} → Ghosts D → Ground → (places places_after : Places) → Report → Ending → Option D
    → Option D → Type 0
NamesOn g ground places places_after told ending (Some old) (Some new) =
    DoesNames g ground places places_after told ending old new
NamesOn g ground places places_after told ending (Some old) None = ⊥
NamesOn g ground places places_after told ending None new = ⊥

-- the same, if lines of names are asked for
abbrev pub IfNames : {D : Type 0} → Ghosts D → Asked → Ground → (places places_after : Places) → Report → Ending
    → Option D → Option D → Type 0
IfNames g (Dirs names) ground places places_after told ending old new =
    NamesOn g ground places places_after told ending old new
IfNames g asked ground places places_after told ending old new = Unit {0}

-- what is outside, except the sink of the report
abbrev pub places_in : Outside → Places
places_in o = record { disk = o.disk; sources = o.sources; sinks = o.sinks }

-- ---- what the status says

-- 0: each request line has one answer in the sink, and none reports a failed call or want of memory
pub record NamesEndedWell (told : Report) (old new : Outside) : Type 0 where
  pub served : WasServed told
  pub nothing : told.cause ≡ causes.Nothing
  pub answers : List Answer
  pub answered : EachSource (λ _ source _. (left : List ℕ) → source.left ≡ Some left
      → length answers ≡ length (request_lines left)) old new
  pub replied : EachSink (λ _ sink sink_after. Wrote sink sink_after (printed_answers answers)) old new
  pub calm : (list_any is_disk_answer answers ≡ false) × (list_any is_memory_answer answers ≡ false)
  pub reported : Wrote old.report new.report (report_text told)

-- What is reported of lines of names, and what the status says.
pub record SaidOfNames (names : NamesService) (ground : Ground) (old new : Outside) (told : Report) (status : ℕ)
    (ending : Ending) (trail : List Event) : Type 0 where
  pub places : HasPlaces (Dirs names) (length new.sources) (length new.sinks)
  pub no_event : trail ≡ []
  -- if nothing was served, the sink took no byte, nothing ended, and the report says why
  pub unserved : IsNone told.counts → (new.sinks ≡ old.sinks) × (ending ≡ not_begun) × ¬ (told.cause ≡ causes.Nothing)
  pub sound : WasServed told → ¬ ground.unsound
  pub within_limits : WasServed told → (scripts : List (List ℕ)) → HadLeft old scripts → AreWithinLimits scripts
  pub bare : told.faults ≡ []
  pub reported : WritesReport (report_text told) old new
  pub is_status : IsStatus status told.cause old new
  pub status_0 : status ≡ 0 → NamesEndedWell told old new
  pub status_2 : ¬ (status ≡ 2)
  pub status_3 : status ≡ 3 → VolumeRefused ground told
  pub told_3 : (fault : VolumeFault) → told.cause ≡ causes.Volume fault → status ≡ 3
  pub status_4 : status ≡ 4 → DiskFailed told old new
  pub status_5 : status ≡ 5 → SinkFailed told old new
  pub status_6 : status ≡ 6 → SourceFailed told old new
  pub status_7 : status ≡ 7 → MemoryWanting false told.cause (report_text told) old new
  pub status_8 : ¬ (status ≡ 8)
  pub status_9 : status ≡ 9 → LimitPassed (Dirs names) ground told old new
  -- a limit that was passed gives 9, unless a source failed or memory was wanting
  pub over : (scripts : List (List ℕ)) → HadLeft old scripts → ¬ (AreWithinLimits scripts)
      → (status ≡ 9) ⊎ (told.cause ≡ causes.Memory) ⊎ (status ≡ 6)
  -- if no limit was passed and no count rose, it is 0 or 7 on a sound volume, and 3 or 7 on one that is known to be
  -- unsound
  pub complete : (scripts : List (List ℕ)) → HadLeft old scripts → AreWithinLimits scripts → NoCountRose old new
      → (graph : Graph) → ground.reads graph → (status ≡ 0) ⊎ (status ≡ 7)
  pub refused : (scripts : List (List ℕ)) → HadLeft old scripts → AreWithinLimits scripts → NoCountRose old new
      → ground.unsound → (status ≡ 3) ⊎ (status ≡ 7)
