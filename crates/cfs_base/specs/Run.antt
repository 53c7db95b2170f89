-- Runs of calls on one disk, for the contracts of the crates above.
use Rattle.std.specs.Prelude.{◌≡◌, ℕ, IsTrue}
use Rattle.cfs_base.specs.Disk.{Image, LeavesOnly, Only}
use Rattle.cfs_base.specs.declared.disk.Disk.{Ghosts}

-- what a crash at this moment may leave
abbrev pub left_now : {D : Type 0} → Ghosts D → D → Image → Type 0
left_now g d c = g.left_since d (g.moment d) c

-- A crash between old and new leaves only an image that it might have left before, or one that has P.
abbrev pub Leaves : {D : Type 0} → Ghosts D → D → D → (Image → Type 0) → Type 0
Leaves g old new P = LeavesOnly g.moment g.left_since old new P

-- the disk tells its whole content
pub record Tells {D : Type 0} (g : Ghosts D) (d : D) : Type 0 where
  pub honest : IsTrue (g.honest d)
  pub told : (n : ℕ) → IsTrue (g.told d n)

-- the disk tells its whole content, and a crash now leaves only that: no write waits for a barrier
pub record IsSettled {D : Type 0} (g : Ghosts D) (d : D) : Type 0 where
  pub tells : Tells g d
  pub only : Only (g.content d) (left_now g d)

-- The images of a run from `start` to `now`: a crash now leaves an image that has N, and a crash on the way one that
-- it might have left before `start`, or one that has P.
pub record Crashes {D : Type 0} (g : Ghosts D) (start now : D) (N P : Image → Type 0) : Type 0 where
  pub here : (c : Image) → left_now g now c → N c
  pub leaves : Leaves g start now P

-- A run from `start` has come to `now` without a failure, and the disk tells that it holds this image.
pub record Comes {D : Type 0} (g : Ghosts D) (start now : D) (image : Image) (N P : Image → Type 0) : Type 0 where
  pub tells : Tells g now
  pub content : g.content now ≡ image
  pub crashes : Crashes g start now N P
