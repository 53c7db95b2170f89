-- A run of lines of names: what it comes to, by what it begins on, its source and its sink.
use Rattle.std.specs.Prelude.{◌≡◌, ℕ, ◌≤◌, ◌||◌, Bool, true, false, not, List, [], ◌∷◌, length, Option, Some, None}
use Rattle.std.specs.List.{list_any}
use Rattle.cfs_base.specs.Disk.{Image}
use Rattle.cfs_base.specs.Outside.{Intake, Rose, Supply}
use Rattle.cfs_base.specs.Run.{left_now}
use Rattle.cfs_base.specs.declared.disk.Disk.{Ghosts}
use Rattle.cfs_core.specs.Kernel.{Kernel}
use Rattle.cfs_core.specs.StandsFor.{StandsFor}
use Rattle.cfs_core.specs.declared.kernel.Status.{Status}
use Rattle.name_dirs.specs.declared.fault.DirFault.TheVariants as refusals
use Rattle.name_lines.specs.declared.answer.Answer.{Answer}
use Rattle.name_lines.specs.declared.answer.Answer.TheVariants as answers
use Rattle.name_lines.specs.Printed.{is_disk_answer, is_memory_answer}
use Rattle.name_lines.specs.Runs.{IsNamesRun}
use Rattle.ufs_model.specs.declared.asked.Reply.TheVariants as replies
use Rattle.ufs_model.specs.Graph.{Graph}
use Rattle.ufs_model.specs.Script.{request_lines}
use Rattle.ufs_model.specs.State.{State, opening}
use Rattle.cfs_serve.specs.Along.{ReadsAlong, ReadsRooted}
use Rattle.cfs_serve.specs.Ending.{TellsStop, cause_by, damage_in, has_fallen, moment_in, not_begun}
use Rattle.cfs_serve.specs.Ground.{Ground}
use Rattle.cfs_serve.specs.Lines.{AnswersFirst, faults_told}
use Rattle.cfs_serve.specs.Logs.{first_fault}
use Rattle.cfs_serve.specs.Played.{IsStopTold, free_once_tidy}
use Rattle.cfs_serve.specs.Report.{untold}
use Rattle.cfs_serve.specs.Scripts.{HaveScripts}
use Rattle.cfs_serve.specs.declared.ending.Ending.{Ending}
use Rattle.cfs_serve.specs.declared.report.Cause.{Cause}
use Rattle.cfs_serve.specs.declared.report.Cause.TheVariants as causes
use Rattle.cfs_serve.specs.declared.report.Counts.{Counts}
use Rattle.cfs_serve.specs.declared.report.Report.{Report}

-- ---- whatever disk it is

-- one session, its answers and no collection are counted
abbrev pub CountsAnswers : List Answer → Counts → Type 0
CountsAnswers told counts =
    (counts.sessions ≡ 1) × (counts.replies ≡ length told) × (counts.collections ≡ 0)

-- the counts of objects and of Free blocks are what the core reported last, and so is the stop
pub record TellsCore (ending : Ending) (counts : Counts) : Type 0 where
  pub status : Status
  pub is : ending.last ≡ Some status
  pub objects : counts.objects ≡ status.objects
  pub free : counts.free ≡ status.free
  pub stop : (status.stopped ≡ moment_in ending.stop) × (status.damage ≡ damage_in ending.stop)

-- What lines of names came to, on a volume that may read as these graphs.
pub record ServesNames (reads : Graph → Type 0) (rose : Type 0) (all : List (List ℕ)) (sink sink_after : Intake)
    (lines : List (List ℕ)) (told : List Answer) (took : Bool) (counts : Counts) (cause : Cause)
    (ending : Ending) : Type 0 where
  pub left : List (List ℕ)
  pub answers_are : AnswersFirst all left sink sink_after took lines told
  pub whole : took ≡ true → left ≡ []
  pub counted : CountsAnswers told counts
  pub last : TellsCore ending counts
  pub refusal : TellsStop ending.refused ending.stop
  pub failed : (list_any is_disk_answer told || has_fallen ending) ≡ true → rose
  -- no block of a sound volume is found damaged
  pub undamaged : (graph : Graph) → reads graph → damage_in ending.stop ≡ None
  pub spoiled : cause ≡ cause_by ending (list_any is_disk_answer told) (not took) (list_any is_memory_answer told)

-- The lines were read from the only source, within the limits, and answered in the only sink. The report is this one.
pub record AreNamesServed (ground : Ground) (rose : Type 0) (sources : List Supply) (sinks sinks_after : List Intake)
    (lines : List (List ℕ)) (told : List Answer) (counts : Counts) (cause : Cause) (report : Report)
    (ending : Ending) : Type 0 where
  pub script : List ℕ
  pub have : HaveScripts sources (script ∷ [])
  pub sound : ¬ ground.unsound
  pub sink : Intake
  pub sink_after : Intake
  pub sinks_are : (sinks ≡ sink ∷ []) × (sinks_after ≡ sink_after ∷ [])
  pub took : Bool
  pub serves : ServesNames ground.reads rose (request_lines script) sink sink_after lines told took counts cause ending
  pub report_is : report ≡ record { counts = Some counts; faults = []; cause = cause }

-- ---- from a graph on

-- a Full names at least `free` blocks
abbrev pub IsFullWith : (free : ℕ) → Answer → Type 0
IsFullWith free (answers.Refused (refusals.Asked (replies.Full need))) = free ≤ need.free
IsFullWith free answer = Unit {0}

abbrev pub AreFullWith : (free : ℕ) → List Answer → Type 0
AreFullWith free [] = Unit {0}
AreFullWith free (a ∷ told) = IsFullWith free a × AreFullWith free told

-- The lines are a run of names on the graph that the volume had as it was opened, and the disk has what they left.
pub record RunsNames {D : Type 0} (g : Ghosts D) (cylinders : ℕ) (graph : Graph) (lines : List (List ℕ))
    (told : List Answer) (counts : Counts) (cause : Cause) (ending : Ending) (opened new : D) : Type 0 where
  -- as the last line left it
  pub last : State
  pub run : IsNamesRun cylinders (opening graph) lines told last
  -- the core stopped in a line, whose answer reports it, or later, or not at all
  pub stopped : (moment : ℕ) → last.stopped ≡ Some moment → moment_in ending.stop ≡ Some moment
  pub stop : IsStopTold cause (moment_in ending.stop)
  pub objects : counts.objects ≡ length last.graph.objects
  -- If the core runs, what its last commit had left is carried out, unless that was refused, and then this many blocks
  -- are Free. No Full named fewer than are Free at last.
  pub free : ending.stop ≡ None → ending.refused ≡ None → counts.free ≡ free_once_tidy cylinders last.graph
  pub full : ending.stop ≡ None → AreFullWith counts.free told
  -- if all went well, the disk is sound and reads as what is rooted at last, with its names
  pub sound : cause ≡ causes.Nothing → ReadsRooted (g.content new) last.graph
  -- If no request is in doubt, whatever a crash leaves since the opening has the names that some first lines left, or
  -- these with the change of the next line. If the core runs, what a crash leaves now has the names of all lines.
  pub crashes : last.stopped ≡ None → (c : Image) → g.left_since new (g.moment opened) c
      → ReadsAlong c cylinders (opening graph) lines told
  pub now : ending.stop ≡ None → (c : Image) → left_now g new c → ReadsRooted c last.graph

-- Lines of names were served on a disk whose volume was opened.
pub record HasServedNames {D : Type 0} (g : Ghosts D) (ground : Ground) (rose : Type 0) (sources : List Supply)
    (sinks sinks_after : List Intake) (report : Report) (ending : Ending) (opened new : D) : Type 0 where
  pub lines : List (List ℕ)
  pub told : List Answer
  pub counts : Counts
  pub cause : Cause
  pub served : AreNamesServed ground rose sources sinks sinks_after lines told counts cause report ending
  -- the count of failed calls rose by those that are reported
  pub faults : faults_told told (first_fault ending.refused (g.faults opened)) ≤ g.faults new
  pub on : (graph : Graph) → ground.reads graph
      → RunsNames g ground.cylinders graph lines told counts cause ending opened new

-- ---- by a core

-- The lines were answered by a core, which is over; its disk is handed back.
pub record CoreServesNames {D : Type 0} (g : Ghosts D) (core : Kernel D) (all : List (List ℕ))
    (sink sink_after : Intake) (report : Report) (ending : Ending) (disk : D) : Type 0 where
  pub lines : List (List ℕ)
  pub told : List Answer
  pub took : Bool
  pub counts : Counts
  pub cause : Cause
  pub serves : ServesNames (λ graph. StandsFor g core (opening graph)) (Rose (g.faults core.disk) (g.faults disk)) all
      sink sink_after lines told took counts cause ending
  pub report_is : report ≡ record { counts = Some counts; faults = []; cause = cause }
  pub later : g.faults core.disk ≤ g.faults disk
  pub faults : faults_told told (first_fault ending.refused (g.faults core.disk)) ≤ g.faults disk
  pub on : (graph : Graph) → StandsFor g core (opening graph)
      → RunsNames g (length core.space.free) graph lines told counts cause ending core.disk disk

-- memory was wanting before the first line
pub record CoreUnserved {D : Type 0} (core : Kernel D) (sink sink_after : Intake) (report : Report) (ending : Ending)
    (disk : D) : Type 0 where
  pub told : report ≡ untold causes.Memory
  pub no_end : ending ≡ not_begun
  pub untouched : sink_after ≡ sink
  pub disk_is : disk ≡ core.disk
