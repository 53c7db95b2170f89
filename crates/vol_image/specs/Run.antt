-- Runs of calls on a disk that stay within a frame.
use Rattle.cfs_base.specs.Disk.{Image}
use Rattle.cfs_base.specs.Run.{Tells, Leaves, left_now}
use Rattle.cfs_base.specs.declared.disk.Disk.{Ghosts}
use Rattle.ufs_model.specs.Graph.{Graph}
use Rattle.vol_image.specs.Sound.{Holds}
use Rattle.vol_image.specs.Frame.{Frames}

-- A run from `start` has come to `now` without a failure within the frame of image a: its content is, what a crash
-- leaves now, and what a crash on the way left.
pub record Within {D : Type 0} (g : Ghosts D) (a : Image) (graph : Graph) (start now : D) : Type 0 where
  pub tells : Tells g now
  pub content : Frames a graph (g.content now)
  pub here : (c : Image) → left_now g now c → Frames a graph c
  pub leaves : Leaves g start now (Frames a graph)

-- The disk tells that it holds these objects, and whatever a crash leaves now is within their frame. Writes of other
-- blocks may wait for a barrier.
pub record Carries {D : Type 0} (g : Ghosts D) (graph : Graph) (d : D) : Type 0 where
  pub tells : Tells g d
  pub holds : Holds (g.content d) graph
  pub here : (c : Image) → left_now g d c → Frames (g.content d) graph c
