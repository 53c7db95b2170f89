-- The text of a report: its lines; or, of a trace that was served, the trail.
use Rattle.std.specs.Prelude.{◌≡◌, ℕ, zero, suc, ◌≤◌, Bool, true, false, List, [], ◌++◌, length, take}
use Rattle.std.specs.Prelude.{Option, Some, None}
use Rattle.ufs_model.specs.declared.asked.Event.{Event}
use Rattle.trail_text.specs.declared.ends.Opening.{Opening}
use Rattle.trail_text.specs.Trail.{begun, ended, printed_trail, status_line}
use Rattle.cfs_serve.specs.declared.report.Cause.{Cause}
use Rattle.cfs_serve.specs.declared.report.Cause.TheVariants as causes
use Rattle.cfs_serve.specs.declared.report.Counts.{Counts}
use Rattle.cfs_serve.specs.declared.report.Report.{Report}
use Rattle.cfs_serve.specs.Report.{report_text, status_of}
use Rattle.cfs_serve.specs.Words.{Asked, Audits, Converses, Dirs, Formats, InFile, InMemory, Inspects, Nothing}
use Rattle.cfs_serve.specs.Words.{Place, Serves, Shows, Spins}

-- what the first line of a volume's trail says; the trail of a volume in a file is not printed
abbrev line_of : Place → (seed : ℕ) → Option Opening
line_of (InMemory cylinders) seed = Some (record { cylinders = cylinders; seed = seed })
line_of (InFile path pair) seed = None

abbrev pub line_if : (traced : Bool) → Place → (seed : ℕ) → Option Opening
line_if true volume seed = line_of volume seed
line_if false volume seed = None

-- what the first line says of the trail that is asked for, if one is
abbrev pub first_line : Asked → Option Opening
first_line (Serves service) = line_if service.traced service.volume service.seed
first_line (Shows page) = None
first_line (Formats format) = None
first_line (Audits trail) = None
first_line (Inspects inspection) = None
first_line (Spins spin) = None
first_line (Dirs names) = None
first_line (Converses talk) = None
first_line Nothing = None

-- the trail is printed if sessions were served
abbrev pub printed_line : Asked → Option Counts → Option Opening
printed_line asked None = None
printed_line asked (Some counts) = first_line asked

abbrev pub text_by : Option Opening → Report → List Event → List ℕ
text_by None told trail = report_text told
text_by (Some o) told trail = printed_trail o trail (status_of told.cause)

-- the whole text
abbrev pub text_of : Asked → Report → List Event → List ℕ
text_of asked told trail = text_by (printed_line asked told.counts) told trail

-- ---- where memory was wanting for a line of the trail

-- the first n lines
abbrev pub first_lines : Opening → List Event → ℕ → List ℕ
first_lines o trail zero = []
first_lines o trail (suc n) = begun o (take n trail)

-- the lines before the status: all of them, or those before the one for which memory was wanting
abbrev pub IsStart : Opening → List Event → (short : Bool) → (start : List ℕ) → Type 0
IsStart o trail false start = start ≡ begun o trail
IsStart o trail true start = (n : ℕ) × (n ≤ length trail) × (start ≡ first_lines o trail n)

-- want of memory is reported, unless something worse is
abbrev pub last_cause : (short : Bool) → Cause → Cause
last_cause true causes.Nothing = causes.Memory
last_cause short cause = cause

-- the text of a trail, whole or short
abbrev pub IsTrail : Opening → Cause → List Event → (short : Bool) → (text : List ℕ) → Type 0
IsTrail o cause trail short text =
    (start : List ℕ) × IsStart o trail short start
    × (text ≡ start ++ ended (status_line (status_of (last_cause short cause))))

abbrev pub IsTextBy : Option Opening → Report → List Event → (short : Bool) → (text : List ℕ) → Type 0
IsTextBy None told trail short text = (short ≡ false) × (text ≡ report_text told)
IsTextBy (Some o) told trail short text = IsTrail o told.cause trail short text

-- the text that is written of a report, short or not
abbrev pub IsText : Asked → Report → List Event → (short : Bool) → (text : List ℕ) → Type 0
IsText asked told trail short text = IsTextBy (printed_line asked told.counts) told trail short text
