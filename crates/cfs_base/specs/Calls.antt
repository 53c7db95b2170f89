-- Calls of a store on a disk: those that only read, and those that a device call stopped.
use Rattle.std.specs.Prelude.{◌≡◌, ℕ, ◌+◌, ◌-◌, ◌^◌, ◌≤◌, min, Bool, true, false, IsTrue}
use Rattle.cfs_base.specs.Disk.{Nothing, IsSameDisk, KeepsLeft}
use Rattle.cfs_base.specs.Outside.{Rose, count_after}
use Rattle.cfs_base.specs.Run.{Leaves}
use Rattle.cfs_base.specs.declared.disk.Disk.{Ghosts}

-- Only reads were made, at most `most` of them: content, images and tries are as they were.
pub record OnlyReads {D : Type 0} (g : Ghosts D) (most : ℕ) (old new : D) : Type 0 where
  pub content : g.content new ≡ g.content old
  pub told : (n : ℕ) → IsTrue (g.told old n) → IsTrue (g.told new n)
  pub images : Leaves g old new Nothing
  pub keeps : KeepsLeft g.moment g.left_since old new
  pub same : IsSameDisk g.blocks g.honest g.tells_images old new
  pub tries : g.tries new ≡ g.tries old
  pub faults : g.faults old ≤ g.faults new
  pub calls : g.calls new ≤ g.calls old + most

-- The last device call failed, and no call came after it. So the disk is as it was when that call was made.
pub record FailedLast {D : Type 0} (g : Ghosts D) (old new : D) : Type 0 where
  pub mid : D
  pub later : g.moment old ≤ g.moment mid
  pub no_fewer : g.faults old ≤ g.faults mid
  pub one_call : g.calls new ≡ count_after (g.calls mid)
  pub clock : Rose (g.moment mid) (g.moment new)
  pub cause : Rose (g.faults mid) (g.faults new)

-- A device call failed, and it was the last: the count of faults and the clock rose.
pub record HasFailed {D : Type 0} (g : Ghosts D) (old new : D) : Type 0 where
  pub cause : Rose (g.faults old) (g.faults new)
  pub clock : Rose (g.moment old) (g.moment new)
  pub last : FailedLast g old new

-- a write or a barrier was tried
abbrev pub HasTried : {D : Type 0} → Ghosts D → D → D → Type 0
HasTried g old new = Rose (g.tries old) (g.tries new)

-- A device call failed and stopped a call of the store. If the store's call had tried a write or barrier the tries
-- rose, else all is as it was.
pub record HasStopped {D : Type 0} (g : Ghosts D) (tried : Bool) (old new : D) : Type 0 where
  pub failed : HasFailed g old new
  pub tries : tried ≡ true → HasTried g old new
  pub no_try : tried ≡ false → g.tries new ≡ g.tries old
  pub untouched : tried ≡ false → g.content new ≡ g.content old

-- At most `most` device calls were made, `most_tries` of them writes and barriers. What kind of disk it is doesn't
-- change, and nothing that a crash might have left is taken back.
pub record MakesAtMost {D : Type 0} (g : Ghosts D) (most most_tries : ℕ) (old new : D) : Type 0 where
  pub later : g.moment old ≤ g.moment new
  pub keeps : KeepsLeft g.moment g.left_since old new
  pub same : IsSameDisk g.blocks g.honest g.tells_images old new
  pub faults : g.faults old ≤ g.faults new
  pub calls : g.calls new ≤ g.calls old + most
  pub tries : g.tries new ≤ g.tries old + most_tries
  -- the tries don't fall, up to the last number of a u64
  pub no_fewer : min (g.tries old) (2 ^ 64 - 1) ≤ g.tries new
