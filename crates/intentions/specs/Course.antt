-- What all images of a run keep to, whatever other writes wait for a barrier.
use Rattle.std.specs.Prelude.{◌≡◌, ℕ, false, Some}
use Rattle.cfs_base.specs.Disk.{Image, block_at}
use Rattle.cfs_base.specs.Run.{Tells, left_now}
use Rattle.cfs_base.specs.declared.disk.Disk.{Ghosts}
use Rattle.cfs_base.specs.declared.identifier.Puid.{Puid}
use Rattle.cyl_map.specs.Entry.{IsEntry}
use Rattle.cyl_map.specs.declared.entry.MapEntry.{MapEntry}
use Rattle.ufs_model.specs.declared.object.Object.{Object}
use Rattle.ufs_model.specs.Graph.{Graph, object_at}
use Rattle.vol_image.specs.Commit.{MaySettle, Settles}
use Rattle.vol_image.specs.Frame.{Frames, MayChange}
use Rattle.vol_image.specs.Part.{OwnsItself, is_fixed}
use Rattle.vol_image.specs.Sight.{source}
use Rattle.vol_image.specs.Sound.{Holds}

-- The frame of an image with these objects, or what may differ while one object settles, whose root in image c has
-- the content of its shadow root s.
pub data Course : Type 0 where
  Frame : (a : Image) (graph : Graph) → Course
  Settling : (c : Image) (graph : Graph) (id : Puid) (o : Object) (s : ℕ) → Course

-- image c holds these objects, and the root of this one has the content by which it is read
pub record IsCopied (c : Image) (graph : Graph) (id : Puid) (o : Object) (s : ℕ) : Type 0 where
  pub holds : Holds c graph
  pub at : object_at graph id ≡ Some o
  pub copied : block_at c (source c id.block) ≡ block_at c id.block
  pub apart : is_fixed s ≡ false

abbrev pub IsCourse : Course → Type 0
IsCourse (Frame a graph) = Holds a graph
IsCourse (Settling c graph id o s) = IsCopied c graph id o s

-- the objects that each image of the course holds
abbrev pub graph_of : Course → Graph
graph_of (Frame a graph) = graph
graph_of (Settling c graph id o s) = graph

-- the image keeps to the course
abbrev pub IsOn : Course → Image → Type 0
IsOn (Frame a graph) b = Frames a graph b
IsOn (Settling c graph id o s) b = Settles c graph id s b

-- on the course this entry of block n may take the place of the old one
abbrev pub MayPut : Course → ℕ → MapEntry → MapEntry → Type 0
MayPut (Frame a graph) n old e = IsEntry e × OwnsItself n e × MayChange a graph n (Some old) (Some e)
MayPut (Settling c graph id o s) n old e = MaySettle c graph id s n old e

-- The disk tells its content. The content is on the course, and so is all that a crash leaves now.
pub record Keeps {D : Type 0} (g : Ghosts D) (course : Course) (d : D) : Type 0 where
  pub tells : Tells g d
  pub content : IsOn course (g.content d)
  pub here : (c : Image) → left_now g d c → IsOn course c
