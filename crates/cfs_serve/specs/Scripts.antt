-- The scripts of the sessions, read from their sources, and their limits.
use Rattle.std.specs.Prelude.{◌≡◌, ℕ, ◌<◌, ◌≤◌, List, [], length, map, get_or, slice_get, slice_index_or, All, sum_by}
use Rattle.std.specs.Prelude.{Some}
use Rattle.cfs_base.specs.Outside.{Rose, Supply}
use Rattle.ufs_model.specs.Script.{request_lines}
use Rattle.cfs_serve.specs.Limits.{most_script, most_lines}
use Rattle.cfs_serve.specs.declared.report.Cause.{Cause}
use Rattle.cfs_serve.specs.declared.report.Cause.TheVariants as causes

-- ---- limits

abbrev pub AreShort : List (List ℕ) → Type 0
AreShort scripts = All (λ script. length script ≤ most_script) scripts

abbrev pub lines_in : List (List ℕ) → ℕ
lines_in scripts = sum_by (λ script. length (request_lines script)) scripts

abbrev pub AreWithinLimits : List (List ℕ) → Type 0
AreWithinLimits scripts = AreShort scripts × (lines_in scripts ≤ most_lines)

-- ---- what the sources had left

-- these are all that the sources had, if each tells it
abbrev pub Had : List Supply → List (List ℕ) → Type 0
Had sources scripts = map (λ s. s.left) sources ≡ map Some scripts

-- the script that was read of a source
pub record HasScript (source : Supply) (script : List ℕ) : Type 0 where
  pub whole : (left : List ℕ) → source.left ≡ Some left → script ≡ left
  pub short : length script ≤ most_script

-- the first of the sources have these scripts
pub record HaveFirst (sources : List Supply) (scripts : List (List ℕ)) : Type 0 where
  pub count : length scripts ≤ length sources
  pub each : (k : ℕ) (source : Supply) (script : List ℕ) → slice_get sources k ≡ Some source
      → slice_get scripts k ≡ Some script → HasScript source script

-- the scripts that were read of the sources, within the limits
pub record HaveScripts (sources : List Supply) (scripts : List (List ℕ)) : Type 0 where
  pub first : HaveFirst sources scripts
  pub all : length scripts ≡ length sources
  pub few : lines_in scripts ≤ most_lines

-- ---- why they are not served

abbrev pub faults_of_sources : List Supply → List ℕ
faults_of_sources sources = map (λ s. s.faults) sources

-- why the source of that number has no script
abbrev pub IsOneCause : (n : ℕ) (source after : Supply) → Cause → Type 0
IsOneCause n source after (causes.Source i) = (i ≡ n) × Rose source.faults after.faults
IsOneCause n source after (causes.Long i) = (i ≡ n)
    × ((left : List ℕ) → source.left ≡ Some left → most_script < length left)
IsOneCause n source after causes.Memory = Unit {0}
IsOneCause n source after cause = ⊥

-- The sources before this one gave their scripts, each within its limit, and those behind it weren't read.
pub record IsFirstRead (sources after : List Supply) (n : ℕ) : Type 0 where
  pub scripts : List (List ℕ)
  pub before : HaveFirst sources scripts
  pub count : length scripts ≡ n
  pub behind : (k : ℕ) → n < k → slice_get after k ≡ slice_get sources k

-- Why the sources' scripts aren't served: the first that failed or is too long decides.
abbrev pub IsSourceCause : (sources after : List Supply) → Cause → Type 0
IsSourceCause sources after (causes.Source i) =
    (i < length sources) × Rose (get_or (faults_of_sources sources) i 0) (get_or (faults_of_sources after) i 0)
    × IsFirstRead sources after i
IsSourceCause sources after (causes.Long i) =
    (i < length sources)
    × ((scripts : List (List ℕ)) → Had sources scripts → most_script < length (slice_index_or scripts i []))
    × IsFirstRead sources after i
IsSourceCause sources after causes.LongTotal = (scripts : List (List ℕ)) → Had sources scripts → AreShort scripts
    × (most_lines < lines_in scripts)
IsSourceCause sources after causes.Memory = Unit {0}
IsSourceCause sources after cause = ⊥
