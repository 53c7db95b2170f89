-- What is left of a commit, if the entries of consecutive blocks in one map are changed by one write of it.
use Rattle.std.specs.Prelude.{◌≡◌, ℕ, ◌+◌, ◌*◌, ◌≤◌, if◌then◌else◌, drop, length, Option, Some, None}
use Rattle.cfs_base.specs.Calls.{MakesAtMost}
use Rattle.cfs_base.specs.declared.disk.Disk.{Ghosts}
use Rattle.cyl_alloc.specs.Left.{LeftCommit}
use Rattle.intentions.specs.Runs.{runs}

-- nothing is left of one run
pub record AfterRun (was now : Option LeftCommit) : Type 0 where
  pub left : LeftCommit
  pub count : ℕ
  pub was_is : was ≡ Some left
  pub now_is : now ≡ Some (record left { rest = drop count left.rest })
  pub within : count ≤ length left.rest
  pub runs : 1 + runs (drop count left.rest) ≡ runs left.rest

-- ---- device calls, where each run costs one read and one write

abbrev pub calls_by_map : Option LeftCommit → ℕ
calls_by_map None = 0
calls_by_map (Some l) = (if l.copied then 0 else 3) + (2 * runs l.rest + 4)

abbrev pub tries_by_map : Option LeftCommit → ℕ
tries_by_map None = 0
tries_by_map (Some l) = (if l.copied then 0 else 2) + (runs l.rest + 3)

-- no more calls were made than what is left costs less
pub record Spends {D : Type 0} (g : Ghosts D) (old new : D) (was now : Option LeftCommit) : Type 0 where
  pub calls : ℕ
  pub tries : ℕ
  pub calls_fall : calls + calls_by_map now ≤ calls_by_map was
  pub tries_fall : tries + tries_by_map now ≤ tries_by_map was
  pub made : MakesAtMost g calls tries old new
