-- The leaves that bytes touch in one node.
use Rattle.std.specs.Prelude.{◌≡◌, ◌≢◌, ℕ, ◌/◌, ◌+◌, ◌-◌, ◌*◌, ◌%◌, ◌<◌, ◌≤◌, Bool, ◌==◌, ◌&&◌, nat_lt, if◌then◌else◌}
use Rattle.std.specs.Prelude.{List, length, get_or, filter}
use Rattle.std.specs.List.{range_with_len}
use Rattle.block_tree.specs.Along.{IsTo, IsWayWithin}
use Rattle.block_tree.specs.Reads.{leaves_at}
use Rattle.block_tree.specs.Pointers.{leaf_pointers, node_pointers}
use Rattle.cfs_base.specs.Disk.{Image}
use Rattle.ufs_model.specs.Object.{leaves_in}
use Rattle.normal_files.specs.Laid.{node_of}
use Rattle.block_tree.specs.Along.{way_leaves}
use Rattle.normal_files.specs.declared.part.Part.{Part}
use Rattle.block_tree.specs.declared.root.Root as roots

-- all that is known of a part on any disk
pub record IsReadPart (size : ℕ) (part : Part) : Type 0 where
  pub number : part.number < node_pointers.count
  pub from : leaf_pointers.count * part.number ≤ part.leaves.from
  pub to : part.leaves.to ≤ leaf_pointers.count * part.number + leaf_pointers.count
  pub some : part.leaves.from ≤ part.leaves.to
  pub within : IsWayWithin size part.way
  -- the way leads to the first of its leaves
  pub leads : part.leaves.from < part.leaves.to → IsTo part.leaves.from part.way

-- the node that was read is the root's, if any of its leaves is touched
pub record IsPart (image : Image) (root : roots.Root) (part : Part) : Type 0 where
  pub own : part.leaves.from < part.leaves.to → way_leaves part.way ≡ leaves_at image (node_of root part.number)

-- the two parts that bytes touch at most, the low one and the high one
pub record AreParts (size offset count : ℕ) (low high : Part) : Type 0 where
  pub low_read : IsReadPart size low
  pub high_read : IsReadPart size high
  pub first : low.leaves.from ≡ offset / 512
  pub next : high.leaves.from ≡ low.leaves.to
  pub last : high.leaves.to ≡ leaves_in (offset + count)
  pub apart : high.leaves.from < high.leaves.to → low.number ≢ high.number
  pub some : low.leaves.from < low.leaves.to

-- those of these leaves whose pointers lead nowhere
abbrev pub absent_in : (leaves : List ℕ) → ℕ → Bool
absent_in leaves l = get_or leaves (l % leaf_pointers.count) 0 == 0

abbrev pub lacking_to : (leaves : List ℕ) → (from to : ℕ) → ℕ
lacking_to leaves from to = length (filter (absent_in leaves) (range_with_len from (to - from)))

-- how many blocks the touched leaves of a part and their node take
abbrev pub part_need : roots.Root → Part → ℕ
part_need root part =
    lacking_to (way_leaves part.way) part.leaves.from part.leaves.to
    + (if nat_lt part.leaves.from part.leaves.to && (node_of root part.number == 0) then 1 else 0)
