-- The requests that commit a draft.
use Rattle.std.specs.Prelude.{ℕ, ◌&&◌, Bool, is_some}
use Rattle.ufs_model.specs.declared.asked.Ref.TheVariants.{Through}
use Rattle.ufs_model.specs.declared.asked.Request.{Request}
use Rattle.ufs_model.specs.declared.asked.Request.TheVariants as asks
use Rattle.ufs_model.specs.State.{State, draft_of}
use Rattle.cfs_core.specs.Claimed.{commits_alone}

-- it commits the draft of a grant that is closed so, or one of its own
abbrev pub commits : State → ℕ → Request → Bool
commits s who (asks.Close grant commit) = commit && is_some (draft_of s who (Through grant))
commits s who request = commits_alone s who request
