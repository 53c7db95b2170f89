-- Nodes that were read along the path of a leaf.
use Rattle.std.specs.Prelude.{◌≡◌, ◌<◌, ℕ, false, get_or, IfErr, OnOk, Result}
use Rattle.cfs_base.specs.Calls.{OnlyReads}
use Rattle.cfs_base.specs.Disk.{Image}
use Rattle.cfs_base.specs.Refusals.{trouble_had_tried}
use Rattle.cfs_base.specs.Run.{Tells}
use Rattle.cfs_base.specs.declared.disk.Disk.{Ghosts}
use Rattle.cfs_base.specs.declared.refusal.Trouble.{Trouble}
use Rattle.cyl_alloc.specs.Space.{Kept}
use Rattle.block_tree.specs.Along.{IsTo, IsTopWithin, IsWay, IsWayWithin}
use Rattle.block_tree.specs.Reads.{is_damage}
use Rattle.block_tree.specs.declared.along.Way.{Way}
use Rattle.block_tree.specs.declared.root.Root as roots
use Rattle.special_files.specs.Drafting.{Drafting}
use Rattle.special_files.specs.Refusal.{IsDraftTrouble, top_of}
use Rattle.special_files.specs.View.{HasTree}

-- the number of the node above the leaf
abbrev pub node_number : Way → ℕ
node_number way = get_or way.path 0 0

-- the node with this number was read
pub record HasNode (number : ℕ) (way : Way) : Type 0 where
  pub number_is : node_number way ≡ number
  pub some : 0 < way.read

-- the nodes that were read are those of the draft
abbrev pub IsRead : Image → Drafting → Way → Type 0
IsRead image drafting way = IsWay image drafting.root way

-- on any disk these nodes and their pointers lead to blocks of a disk of this size
abbrev pub IsSafeIn : ℕ → roots.Root → Way → Type 0
IsSafeIn size root way = IsWayWithin size way × IsTopWithin size root way

abbrev pub IsSafe : ℕ → Drafting → Way → Type 0
IsSafe size drafting way = IsSafeIn size drafting.root way

-- A call turned to a leaf of the draft. It made at most n device calls, all of them reads.
pub record TurnsTo {D A : Type 0} (g : Ghosts D) (was : Drafting) (leaf n : ℕ) (old new : D) (before after : Way)
    (result : Result A Trouble) : Type 0 where
  pub node : Tells g old → IsRead (g.content old) was before → OnOk result (IsRead (g.content old) was after)
  pub safe : OnOk result (IsSafe (g.blocks old) was after)
  pub to : OnOk result (IsTo leaf after)
  pub refused : (kept : Kept) → IfErr result (IsDraftTrouble g (top_of was) old new kept)
  pub untried : IfErr result (λ t. trouble_had_tried t ≡ false)
  -- no damage if the disk holds its tree
  pub sound : HasTree g old was → IsRead (g.content old) was before → IfErr result (λ t. is_damage t ≡ false)
  pub reads : OnlyReads g n old new
