-- How a call of the store went, on any disk, if it may write and may be refused: the last part of all such contracts.
use Rattle.std.specs.Prelude.{◌≡◌, ℕ, Bool, true, false, IsTrue, IfErr, IfOk, OnOk, Option, None, Some, Result}
use Rattle.cfs_base.specs.Calls.{HasTried, MakesAtMost, OnlyReads}
use Rattle.cfs_base.specs.declared.disk.Disk.{Ghosts}

-- Only reads were made, at most `reads` of them, and the store's counts of its blocks are as they were.
abbrev pub IsUnmoved : {D K : Type 0} → Ghosts D → (reads : ℕ) → (old new : D) → (before after : K) → Type 0
IsUnmoved g reads old new before after = (after ≡ before) × OnlyReads g reads old new

-- what is known of a call that is done: a write or barrier was tried, or none was tried, or nothing is known
abbrev pub KnowsTries : {D K : Type 0} → Ghosts D → (reads : ℕ) → (old new : D) → (before after : K) → Option Bool
    → Type 0
KnowsTries g reads old new before after None = Unit {0}
KnowsTries g reads old new before after (Some true) = HasTried g old new
KnowsTries g reads old new before after (Some false) = IsUnmoved g reads old new before after

-- the same for two calls, one after another
abbrev pub known_after : Option Bool → Option Bool → Option Bool
known_after None known = None
known_after (Some true) known = Some true
known_after (Some false) known = known

-- At most n device calls were made, t of them writes and barriers, and at most r if all are reads. If the call is
-- done, the disk tells each block that it told before. A refusal has its cause, and after a refusal by which nothing
-- was tried all is as it was. The store's counts moved as `Moves` says, however the call ended.
pub record Went {D K A E : Type 0} (g : Ghosts D) (n t r : ℕ) (old new : D) (before after : K) (Moves : Type 0)
    (Refuses Untried : E → Type 0) (known : A → Option Bool) (result : Result A E) : Type 0 where
  pub told : OnOk result ((b : ℕ) → IsTrue (g.told old b) → IsTrue (g.told new b))
  pub knows : IfOk result (λ x. KnowsTries g r old new before after (known x))
  pub refused : IfErr result Refuses
  pub untried : IfErr result (λ e. Untried e → IsUnmoved g r old new before after)
  pub moves : Moves
  pub calls : MakesAtMost g n t old new
