-- What an audit reports of the source of a trail.
use Rattle.std.specs.Prelude.{◌≡◌, ℕ, ◌≤◌, ◌<◌, List, length, Some}
use Rattle.cfs_audit.specs.Verdict.{IsVerdict}
use Rattle.cfs_audit.specs.declared.trail.Verdict.TheVariants as verdicts
use Rattle.cfs_base.specs.Outside.{Rose, Supply}
use Rattle.cfs_serve.specs.Limits.{most_trail}
use Rattle.cfs_serve.specs.declared.report.Cause.{Cause}
use Rattle.cfs_serve.specs.declared.report.Cause.TheVariants as causes

-- the verdict on a text that was read whole, or want of memory
abbrev pub Judges : Cause → (text : List ℕ) → Type 0
Judges (causes.Legal n) text = IsVerdict text (verdicts.Legal n)
Judges (causes.BadLine line) text = IsVerdict text (verdicts.BadLine line)
Judges (causes.Illegal event) text = IsVerdict text (verdicts.Illegal event)
Judges causes.Memory text = Unit {0}
Judges cause text = ⊥

-- the text is all that the source had left, if it tells that, and is within the limit
pub record IsTrailOf (source : Supply) (text : List ℕ) : Type 0 where
  pub whole : (left : List ℕ) → source.left ≡ Some left → text ≡ left
  pub short : length text ≤ most_trail

-- the source failed, or has too much; or its text was judged
abbrev pub Finds : Cause → (source after : Supply) → Type 0
Finds (causes.Source i) source after = (i ≡ 0) × Rose source.faults after.faults
Finds (causes.Long i) source after = (i ≡ 0) × ((left : List ℕ) → source.left ≡ Some left → most_trail < length left)
Finds causes.Memory source after = Unit {0}
Finds cause source after = (text : List ℕ) × IsTrailOf source text × Judges cause text
