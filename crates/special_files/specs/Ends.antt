-- How a call on a draft ends, on any disk.
use Rattle.std.specs.Prelude.{◌≡◌, ℕ, false, None, Result}
use Rattle.cfs_base.specs.Went.{Went}
use Rattle.cfs_base.specs.declared.disk.Disk.{Ghosts}
use Rattle.cfs_base.specs.declared.refusal.Refused.{Refused}
use Rattle.cfs_base.specs.declared.refusal.Refused.TheVariants as refusals
use Rattle.cyl_alloc.specs.Space.{Kept, TakesAtMost}
use Rattle.leaf_changes.specs.Tops.{Top}
use Rattle.special_files.specs.Refusal.{IsDraftRefusal}

-- At most n device calls are made, t of them writes and barriers, and k blocks taken. If the call is done, the disk
-- tells each block that it told before. If it is refused before anything was tried, and no damage was met, the counts
-- are as they were.
abbrev pub EndsCall : {D A : Type 0} → Ghosts D → (at : Top) → (floor n t k : ℕ) → (old new : D) → (before after : Kept)
    → Result A Refused → Type 0
EndsCall g at floor n t k old new before after result =
    Went g n t n old new before after (TakesAtMost k before after)
    (IsDraftRefusal g at floor old new after) (λ e. e ≡ refusals.Disk false) (λ x. None) result
