-- What was left of a commit is carried out before a change.
use Rattle.std.specs.Prelude.{◌≡◌, true, false, IfOk, OnOk, Bool, is_some, None, Result, Ok, Err}
use Rattle.cfs_base.specs.Refusals.{after_try}
use Rattle.cfs_base.specs.declared.disk.Disk.{Ghosts}
use Rattle.cfs_base.specs.declared.refusal.Refused.{Refused}
use Rattle.cfs_base.specs.declared.refusal.Trouble.{Trouble}
use Rattle.cyl_alloc.specs.Space.{Kept}
use Rattle.finisher.specs.Going.{Ends, Goes, calls_left, tries_left, unit_of}

-- It is carried out, and nothing is left then. The result says whether anything was left.
pub record FinishesLeft {D : Type 0} (g : Ghosts D) (old new : D) (before after : Kept)
    (result : Result Bool Trouble) : Type 0 where
  pub goes : Goes g old new before after (unit_of result)
  pub ends : Ends g (calls_left before.left) (tries_left before.left) old new before after (unit_of result)
  pub done : OnOk result (after.left ≡ None)
  pub told : IfOk result (λ some. some ≡ is_some before.left)
  -- if nothing was left nothing is done
  pub none : before.left ≡ None → (new ≡ old) × (after ≡ before)

-- ---- a change after it

-- the refusal of a change that may come after tries
abbrev pub refused_since : Bool → Refused → Refused
refused_since true refused = after_try refused
refused_since false refused = refused

abbrev pub since : {A : Type 0} → Bool → Result A Refused → Result A Refused
since tried (Ok x) = Ok x
since tried (Err refused) = Err (refused_since tried refused)
