-- The images that a crash may leave of a run.
use Rattle.std.specs.Prelude.{◌≡◌, ◌⊎◌, ℕ, ◌*◌, ◌<◌, true, List, ◌++◌, length, take, drop, replicate, slice_get, Option}
use Rattle.std.specs.Prelude.{Some, None}
use Rattle.cfs_base.specs.Disk.{Image}
use Rattle.cfs_base.specs.declared.identifier.Puid.{Puid}
use Rattle.cfs_base.specs.declared.kind.FileKind.TheVariants as kinds
use Rattle.ufs_model.specs.declared.asked.Event.{Event}
use Rattle.ufs_model.specs.declared.asked.Event.TheVariants as events
use Rattle.ufs_model.specs.declared.asked.Reply.{Reply}
use Rattle.ufs_model.specs.declared.asked.Reply.TheVariants as replies
use Rattle.ufs_model.specs.declared.asked.Request.{Request}
use Rattle.ufs_model.specs.declared.asked.Request.TheVariants as asks
use Rattle.ufs_model.specs.declared.object.File.{File}
use Rattle.ufs_model.specs.declared.object.Object.TheVariants as objects
use Rattle.ufs_model.specs.Object.{changed_object}
use Rattle.ufs_model.specs.declared.change.Change.{Change}
use Rattle.ufs_model.specs.declared.change.Change.TheVariants.{Overwrite, SetSize}
use Rattle.ufs_model.specs.Graph.{Graph, object_at, with_object, is_free_root}
use Rattle.ufs_model.specs.State.{State, named}
use Rattle.ufs_model.specs.Refusal.{refusal_of, target}
use Rattle.ufs_model.specs.Outcome.{outcome_of, creates}
use Rattle.ufs_model.specs.Run.{replay}
use Rattle.vol_image.specs.Sound.{IsSoundAs, rooted_part}

-- ---- a normal file whose change a crash cuts short

-- a leaf of a file, with fill bytes past the end
abbrev pub leaf_of_file : File → ℕ → List ℕ
leaf_of_file f leaf = take 512 (drop (512 * leaf) f.bytes ++ replicate 512 f.fill)

-- each leaf and the size are those of one file or of the other
pub record IsBetween (old new f : File) : Type 0 where
  pub kind : f.kind ≡ old.kind
  pub fill : f.fill ≡ old.fill
  pub size : (length f.bytes ≡ length old.bytes) ⊎ (length f.bytes ≡ length new.bytes)
  pub leaves : (leaf : ℕ)
      → (leaf_of_file f leaf ≡ leaf_of_file old leaf) ⊎ (leaf_of_file f leaf ≡ leaf_of_file new leaf)

-- what a write or a resize changes
abbrev pub change_of : Request → Option Change
change_of (asks.CreateFile kind fill index slot) = None
change_of (asks.CreateIndex slots index slot) = None
change_of (asks.Retain index slot id) = None
change_of (asks.Retrieve index slot) = None
change_of (asks.Delete index slot) = None
change_of (asks.Slots index) = None
change_of (asks.OpenFor id mode) = None
change_of (asks.Close grant commit) = None
change_of (asks.Read file offset count) = None
change_of (asks.Write file offset bytes) = Some (Overwrite offset bytes)
change_of (asks.Size file) = None
change_of (asks.Resize file size) = Some (SetSize size)

-- the request is not refused, and changes a normal file in place, from the old one to the new one
pub record ChangesInPlace (s : State) (who : ℕ) (request : Request) (id : Puid) (old new : File) : Type 0 where
  pub allowed : refusal_of s who request ≡ None
  pub named_is : named s who (target request) ≡ Some id
  pub there : object_at s.graph id ≡ Some (objects.File old)
  pub normal : old.kind ≡ kinds.Normal
  pub change : Change
  pub change_is : change_of request ≡ Some change
  pub after : changed_object change (objects.File old) ≡ objects.File new

-- ---- what may be read

-- the server did it, or may have done it
abbrev pub IsDoneOrInDoubt : Reply → Type 0
IsDoneOrInDoubt r = (r ≡ replies.Done) ⊎ ((moment : ℕ) × (r ≡ replies.Disk (Some moment)))

-- a create names a block of its own, and other requests name none
abbrev pub MayName : State → Request → ℕ → Type 0
MayName s request b = creates request ≡ true → is_free_root s.graph b ≡ true

-- the graphs whose rooted part may be read after m events of a trail
pub data MayRead (seed : ℕ) (g : Graph) (trail : List Event) (m : ℕ) : Graph → Type 0 where
  -- the graph after these events
  Whole : (s : State) → replay seed g (take m trail) ≡ Some s → MayRead seed g trail m s.graph
  -- the next event was under way, and changes a normal file in place
  CutShort : (s : State) (who : ℕ) (request : Request) (reply : Reply) (id : Puid) (old new f : File)
      → replay seed g (take m trail) ≡ Some s → slice_get trail m ≡ Some (events.Ask who request reply)
      → IsDoneOrInDoubt reply
      → ChangesInPlace s who request id old new → IsBetween old new f
      → MayRead seed g trail m (with_object s.graph id (objects.File f))
  -- a request among these events is in doubt, and was done
  Done : (s : State) (k who b moment : ℕ) (request : Request) → k < m → replay seed g (take k trail) ≡ Some s
      → slice_get trail k ≡ Some (events.Ask who request (replies.Disk (Some moment))) → refusal_of s who request ≡ None
      → MayName s request b → MayRead seed g trail m (outcome_of seed s who request b).1.graph
  -- a request among these events is in doubt, and was cut short
  CutInDoubt : (s : State) (k who moment : ℕ) (request : Request) (id : Puid) (old new f : File) → k < m
      → replay seed g (take k trail) ≡ Some s
      → slice_get trail k ≡ Some (events.Ask who request (replies.Disk (Some moment)))
      → ChangesInPlace s who request id old new → IsBetween old new f
      → MayRead seed g trail m (with_object s.graph id (objects.File f))

-- the image survives the first m events of the trail on this graph
pub record Survives (image : Image) (seed : ℕ) (g : Graph) (trail : List Event) (m : ℕ) : Type 0 where
  pub graph : Graph
  pub may : MayRead seed g trail m graph
  pub reads : IsSoundAs image (rooted_part graph)
