-- What a collector keeps, and what holds of it between any two calls.
use Rattle.std.specs.Prelude.{◌≡◌, ℕ, ◌+◌, ◌-◌, ◌*◌, ◌/◌, ◌^◌, ◌<◌, ◌≤◌, List}
use Rattle.cfs_base.specs.Disk.{Image}
use Rattle.cfs_base.specs.declared.disk.Disk.{Ghosts}
use Rattle.cfs_base.specs.declared.identifier.Puid.{Puid}
use Rattle.cfs_base.specs.declared.kind.Kind.{Kind}
use Rattle.collector_marks.specs.Kept.{Marked, Waiting, blocks_marked, colours_of}
use Rattle.marking.specs.declared.memory.Rescue.{Rescue}
use Rattle.marking.specs.Colours.{Colours}
use Rattle.marking.specs.Marking.{IsMarking}
use Rattle.marking.specs.Pace.{IsPaced}
use Rattle.ufs_model.specs.State.{State}
use Rattle.ufs_model.specs.WellFormed.{IsState}
use Rattle.puid_space.specs.Kinds.{kinds_of}
use Rattle.vol_owners.specs.Account.{Accounts, Drafts, IsSwept}
use Rattle.vol_image.specs.Run.{Carries}
use Rattle.collector_steps.specs.declared.phase.Phase.{Phase}
use Rattle.collector_steps.specs.declared.phase.Phase.TheVariants as phases
use Rattle.collector_steps.specs.Sweep.{NoInner, NoStray}

pub record Collecting : Type 0 where
  pub marks : Marked
  pub rescues : Waiting
  pub phase : Phase
  -- the number of steps since the collection began, and of rescues that were added; each stays at the last number of
  -- a u64
  pub steps : ℕ
  pub added : ℕ

-- what is marked and grey, and what waits
abbrev pub colours_in : Collecting → Colours
colours_in k = colours_of k.marks

abbrev pub waiting_in : Collecting → List Rescue
waiting_in k = k.rescues.list

-- the number of blocks of the volume
abbrev pub volume_of : Collecting → ℕ
volume_of k = blocks_marked k.marks

-- only the room may have changed
pub record IsAsBefore (old new : Collecting) : Type 0 where
  pub marks : new.marks ≡ old.marks
  pub rescues : waiting_in new ≡ waiting_in old
  pub phase : new.phase ≡ old.phase
  pub steps : new.steps ≡ old.steps
  pub added : new.added ≡ old.added

-- ---- the disk

-- The disk carries the state's graph, each block has its one use, and the directory has the graph's identifiers.
pub record Serves {D : Type 0} (g : Ghosts D) (disk : D) (directory : List (Puid × Kind)) (s : State)
    (ds : Drafts) : Type 0 where
  pub state : IsState s
  pub named : directory ≡ kinds_of s.graph
  pub carries : Carries g s.graph disk
  pub accounts : Accounts (g.content disk) s.graph ds

-- ---- between any two calls

-- At most `more` steps were made beside two for each rescue and two for each block, as long as rescues were counted.
abbrev pub AreStepsWithin : Collecting → ℕ → Type 0
AreStepsWithin k more = k.added < 2 ^ 64 - 1 → k.steps ≤ 2 * volume_of k + 2 * k.added + more

-- What holds in each phase of the marks, or how far the sweep is, and how many steps were made.
abbrev pub IsCollecting : Phase → Image → State → Collecting → Type 0
IsCollecting phases.Idle image s k = Unit {0}
IsCollecting phases.Marking image s k = IsMarking s (colours_in k) (waiting_in k)
    × IsPaced s (colours_in k) (waiting_in k) (volume_of k) k.steps k.added
IsCollecting (phases.Inner cylinder) image s k = NoInner image s.graph cylinder × AreStepsWithin k (2 + cylinder)
IsCollecting (phases.Roots cylinder) image s k =
    NoInner image s.graph (volume_of k / 64)
    × (NoStray image s.graph cylinder × AreStepsWithin k (2 + volume_of k / 64 + cylinder))
IsCollecting phases.Swept image s k = IsSwept image s.graph × AreStepsWithin k (2 + 2 * (volume_of k / 64))

abbrev pub Collects : Image → State → Collecting → Type 0
Collects image s k = IsCollecting k.phase image s k
