-- The report of a run: the faults of a volume that was checked, or what was served; what ended it, and the status; or a
-- page alone.
use Rattle.std.specs.Prelude.{ℕ, List, [], ◌++◌, codes, Option, Some, None}
use Rattle.std.specs.Fmt.{decimal}
use Rattle.std.specs.List.{flat_map}
use Rattle.cfs_base.specs.declared.refusal.Damage.{Damage}
use Rattle.cfs_serve.specs.declared.report.Counts.{Counts}
use Rattle.cfs_serve.specs.declared.report.Cause.{Cause}
use Rattle.cfs_serve.specs.declared.report.Cause.TheVariants as causes
use Rattle.cfs_serve.specs.declared.report.Report.{Report}
use Rattle.cfs_serve.specs.declared.report.VolumeFault.{VolumeFault}
use Rattle.cfs_serve.specs.declared.report.VolumeFault.TheVariants as faults
use Rattle.cfs_serve.specs.Pages.{page_text}

-- a line of a word and a number
abbrev pub numbered : List ℕ → ℕ → List ℕ
numbered word number = word ++ codes " " ++ decimal number ++ codes "\n"

abbrev pub status_of : Cause → ℕ
status_of causes.Nothing = 0
status_of (causes.Page page) = 0
status_of causes.Words = 2
status_of (causes.Volume fault) = 3
status_of (causes.Disk moment) = 4
status_of causes.Sink = 5
status_of (causes.Source i) = 6
status_of causes.Memory = 7
status_of (causes.Long i) = 9
status_of causes.LongTotal = 9
status_of causes.LongVolume = 9
status_of (causes.Legal n) = 0
status_of (causes.BadLine line) = 8
status_of (causes.Illegal event) = 8
status_of (causes.Sound objects left) = 0

abbrev pub served_text : Counts → List ℕ
served_text c =
    numbered (codes "sessions") c.sessions ++ numbered (codes "replies") c.replies
    ++ numbered (codes "collections") c.collections ++ numbered (codes "objects") c.objects

abbrev pub counts_text : Option Counts → List ℕ
counts_text None = []
counts_text (Some c) = served_text c ++ numbered (codes "free") c.free

-- a line of a word and two numbers
abbrev pub paired : List ℕ → (first second : ℕ) → List ℕ
paired word first second = (word ++ decimal first) ++ numbered (codes "") second

-- each fault of a volume that was checked: the block and its code
abbrev pub fault_line : Damage → List ℕ
fault_line d = paired (codes "fault ") d.block d.code

abbrev pub fault_lines : List Damage → List ℕ
fault_lines ds = flat_map fault_line ds

-- what is wrong with a volume; of a damage the block and its code
abbrev pub fault_text : VolumeFault → List ℕ
fault_text faults.NotVolume = codes "volume not-volume\n"
fault_text (faults.Version found) = numbered (codes "volume version") found
fault_text (faults.Damaged d) = paired (codes "volume damaged ") d.block d.code

abbrev pub cause_text : Cause → List ℕ
cause_text causes.Nothing = []
cause_text (causes.Page page) = []
cause_text causes.Words = codes "words\n"
cause_text (causes.Volume fault) = fault_text fault
cause_text (causes.Disk None) = codes "disk\n"
cause_text (causes.Disk (Some moment)) = numbered (codes "disk") moment
cause_text causes.Sink = codes "sink\n"
cause_text (causes.Source i) = numbered (codes "source") i
cause_text causes.Memory = codes "memory\n"
cause_text (causes.Long i) = numbered (codes "long") i
cause_text causes.LongTotal = codes "long total\n"
cause_text causes.LongVolume = codes "long volume\n"
cause_text (causes.Legal n) = numbered (codes "legal") n
cause_text (causes.BadLine line) = numbered (codes "bad line") line
cause_text (causes.Illegal event) = numbered (codes "illegal") event
cause_text (causes.Sound objects left) = paired (codes "sound ") objects left

-- the line of the cause, and the status; or the page
abbrev pub ending_text : Cause → List ℕ
ending_text (causes.Page page) = page_text page
ending_text cause = cause_text cause ++ numbered (codes "status") (status_of cause)

abbrev pub report_text : Report → List ℕ
report_text r = fault_lines r.faults ++ counts_text r.counts ++ ending_text r.cause

-- the report of a run that served nothing and found no faults to list
abbrev pub untold : Cause → Report
untold cause = record { counts = None; faults = []; cause = cause }
