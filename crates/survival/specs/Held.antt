-- What a crash leaves of a call, said by the objects that each image holds.
use Rattle.std.specs.Prelude.{◌≡◌, ◌⊎◌, ℕ, Some}
use Rattle.cfs_base.specs.Disk.{Image}
use Rattle.cfs_base.specs.Run.{Leaves, left_now}
use Rattle.cfs_base.specs.declared.disk.Disk.{Ghosts}
use Rattle.ufs_model.specs.declared.asked.Event.{Event}
use Rattle.ufs_model.specs.Graph.{Graph, IsClosedGraph}
use Rattle.ufs_model.specs.Next.{next}
use Rattle.ufs_model.specs.State.{State}
use Rattle.vol_image.specs.Sound.{Holds, LeavesFour}
use Rattle.survival.specs.Call.{Early, Late}

-- the objects fit a disk of this size: they refer only to objects that exist, and leave four blocks
pub record FitsDisk (size : ℕ) (graph : Graph) : Type 0 where
  pub closed : IsClosedGraph graph
  pub room : LeavesFour size graph

-- the image holds some such objects with P
pub record HoldsSome (size : ℕ) (P : Graph → Type 0) (image : Image) : Type 0 where
  pub graph : Graph
  pub may : P graph
  pub fits : FitsDisk size graph
  pub holds : Holds image graph

-- Each image on the way holds the objects of before the event or of after it, and an image that a crash leaves now
-- those of after it.
pub record LeavesSome {D : Type 0} (g : Ghosts D) (seed : ℕ) (s : State) (e : Event) (old new : D) : Type 0 where
  pub crashes : Leaves g old new (HoldsSome (g.blocks new) (λ h. Early seed s e h ⊎ Late seed s e h))
  pub now : (c : Image) → left_now g new c → HoldsSome (g.blocks new) (Late seed s e) c
