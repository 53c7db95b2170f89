-- What mending makes of a volume.
use Rattle.std.specs.Prelude.{◌≡◌, ◌≢◌, ◌⊎◌, ℕ, ◌%◌, ◌≤◌, List, length, Some}
use Rattle.cfs_base.specs.Disk.{Image, block_at}
use Rattle.cfs_base.specs.Run.{IsSettled}
use Rattle.cfs_base.specs.declared.disk.Disk.{Ghosts}
use Rattle.cfs_base.specs.declared.identifier.Puid.{Puid}
use Rattle.block_tree.specs.declared.root.Root.{Root}
use Rattle.block_tree.specs.Root.{IsRootBlock}
use Rattle.ufs_model.specs.declared.object.Object.{Object}
use Rattle.ufs_model.specs.Graph.{Graph, object_at}
use Rattle.vol_image.specs.Fault.{IsSameSort, shown_root, standing}
use Rattle.vol_image.specs.Sound.{IsSoundAs}
use Rattle.cfs_recover.specs.Grounds.{HasNoLabel, HasVersion}
use Rattle.cfs_recover.specs.Recovered.{IsClean, IsUntouched, LeavesSinceBarrier}
use Rattle.cfs_check.specs.Checked.{IsFirstUnhealed}
use Rattle.cfs_check.specs.Sized.{AreSized}
use Rattle.cfs_check.specs.declared.mended.MendFault.{MendFault}
use Rattle.cfs_check.specs.declared.mended.MendFault.TheVariants as faults

-- the block is the root block of an object of the graph
abbrev pub IsRootOf : Graph → ℕ → Type 0
IsRootOf g n = (id : Puid) × (o : Object) × (object_at g id ≡ Some o) × (id.block ≡ n)

-- an object is read by at most one root, which has the kind and word of its own root and this content
pub record IsReadByOne (a : Image) (id : Puid) (content : List ℕ) : Type 0 where
  pub one : length (standing a id.block) ≤ 1
  pub own : Root
  pub root : Root
  pub own_spelled : IsRootBlock (block_at a id.block) own
  pub spelled : IsRootBlock content root
  pub same : IsSameSort own root
  pub shown : shown_root a id.block ≡ content

-- Image b is sound, reads as this graph and has nothing else, in blocks of 512 bytes. It is image a, except that each
-- object's root block has the root by which the object is read there, and except for the maps.
pub record MendsTo (a : Image) (g : Graph) (b : Image) : Type 0 where
  pub size : length b ≡ length a
  pub whole : AreSized b
  pub sound : IsSoundAs b g
  pub clean : IsClean b g
  pub roots : (id : Puid) (o : Object) → object_at g id ≡ Some o → IsReadByOne a id (block_at b id.block)
  pub others : (n : ℕ) → n % 64 ≢ 0 → ¬ IsRootOf g n → block_at b n ≡ block_at a n

-- the disk holds what mending makes of what it held
pub record IsMended {D : Type 0} (g : Ghosts D) (old new : D) : Type 0 where
  pub graph : Graph
  pub mends : MendsTo (g.content old) graph (g.content new)
  pub settled : IsSettled g new

-- Nothing was written, or what a crash leaves since the first barrier is mended to what the disk would be.
abbrev pub LeavesMending : {D : Type 0} → Ghosts D → D → D → Type 0
LeavesMending g old new = IsUntouched g old new
    ⊎ ((graph : Graph) × (b : Image) × MendsTo (g.content old) graph b
    × LeavesSinceBarrier g old new (λ c. MendsTo c graph b))

-- why it isn't mended
abbrev pub IsMendFault : Image → MendFault → Type 0
IsMendFault image faults.Disk = Unit {0}
IsMendFault image faults.NotVolume = HasNoLabel image
IsMendFault image (faults.Version found) = HasVersion image found
IsMendFault image (faults.Damaged d) = IsFirstUnhealed image d
IsMendFault image faults.Memory = Unit {0}
