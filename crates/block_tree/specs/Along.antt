-- The nodes along a path, as they were read, and as other blocks are put along it.
use Rattle.std.specs.Prelude.{◌≡◌, ◌≢◌, ℕ, zero, suc, ◌-◌, ◌<◌, ◌≤◌, false, List, length, get_or}
use Rattle.std.specs.List.{All}
use Rattle.cfs_base.specs.Calls.{HasStopped}
use Rattle.cfs_base.specs.Codes.{past_disk}
use Rattle.cfs_base.specs.Disk.{Image, block_at}
use Rattle.cfs_base.specs.Run.{Tells}
use Rattle.cfs_base.specs.declared.disk.Disk.{Ghosts}
use Rattle.cfs_base.specs.declared.refusal.Damage.{Damage}
use Rattle.cfs_base.specs.declared.refusal.Trouble.{Trouble}
use Rattle.cfs_base.specs.declared.refusal.Trouble.TheVariants as trouble
use Rattle.block_tree.specs.Node.{node_spelling}
use Rattle.block_tree.specs.Path.{no_node, path_of}
use Rattle.block_tree.specs.Pointers.{leaf_pointers, node_levels, pointers_of}
use Rattle.block_tree.specs.Reads.{IsNear, IsPast, leaves_at}
use Rattle.block_tree.specs.Tree.{tree_of}
use Rattle.block_tree.specs.Way.{CutsAt, CutsPast}
use Rattle.block_tree.specs.declared.along.Way.{Way}
use Rattle.block_tree.specs.declared.node.Node.{Node}
use Rattle.block_tree.specs.declared.root.Root.{Root}

-- ---- what was read

-- the pointers at a depth: the root's, and then those of the nodes along the path
abbrev pub pointers_at : Root → Way → ℕ → List ℕ
pointers_at root way zero = root.nodes
pointers_at root way (suc d) = (get_or way.nodes d no_node).leaves

-- the pointer on the path at that depth
abbrev pub pointer_on : Root → Way → ℕ → ℕ
pointer_on root way d = get_or (pointers_at root way d) (get_or way.path d 0) 0

-- the block that has the pointer at a depth: the root's, and then those of the nodes
abbrev pub holder_on : ℕ → Root → Way → ℕ → ℕ
holder_on at root way zero = at
holder_on at root way (suc d) = pointer_on root way d

-- the lowest node along a way, and its pointers, which lead to leaves
abbrev pub way_node : Way → Node
way_node way = get_or way.nodes (node_levels - 1) no_node

abbrev pub way_leaves : Way → List ℕ
way_leaves way = (way_node way).leaves

-- each node that was read is the one to which the pointer above it leads
abbrev pub IsWay : Image → Root → Way → Type 0
IsWay image root way = (d : ℕ) → d < way.read → pointers_at root way (suc d) ≡ leaves_at image (pointer_on root way d)

-- on any disk the pointers of the nodes that were read lead to blocks of a disk of this size
abbrev pub IsWayWithin : ℕ → Way → Type 0
IsWayWithin size way = (d : ℕ) → d < way.read → All (λ n. n < size) (get_or way.nodes d no_node).leaves

-- so does the root's pointer on the path, if its node was read
abbrev pub IsTopWithin : ℕ → Root → Way → Type 0
IsTopWithin size root way = 0 < way.read → pointer_on root way 0 < size

-- each node of the tree is on a disk of this size, and so is each leaf to which it leads
abbrev pub IsNearTree : ℕ → Image → List ℕ → Type 0
IsNearTree size image root = (path : List ℕ) → length path ≤ node_levels → IsNear size image (tree_of image root path)

-- all nodes on the path of a leaf were read
pub record IsTo (leaf : ℕ) (way : Way) : Type 0 where
  pub path : way.path ≡ path_of leaf
  pub whole : way.read ≡ node_levels

-- ---- why a leaf isn't found

-- a pointer of the root leads past the disk, or one of the node that is named
pub data IsWayDamage {D : Type 0} (g : Ghosts D) (at : ℕ) (root : Root) (old : D) (damage : Damage) : Type 0 where
  FarTop : (k : ℕ) → damage ≡ record { block = at; code = past_disk } → IsPast (g.blocks old) (get_or root.nodes k 0)
      → IsWayDamage g at root old damage
  FarBelow : damage.code ≡ past_disk
      → (Tells g old → (k : ℕ)
      × (g.blocks old ≤ get_or (pointers_of leaf_pointers (block_at (g.content old) damage.block)) k 0))
      → IsWayDamage g at root old damage

abbrev pub IsWayTrouble : {D : Type 0} → Ghosts D → ℕ → Root → D → D → Trouble → Type 0
IsWayTrouble g at root old new (trouble.Disk tried) = (tried ≡ false) × HasStopped g tried old new
IsWayTrouble g at root old new (trouble.Damaged damage) = IsWayDamage g at root old damage

-- ---- other blocks put along a path

-- each of these nodes is spelled by the block that is put for it
pub record ArePut (image : Image) (nodes : List Node) (blocks : List ℕ) : Type 0 where
  pub some : (d : ℕ) → d < node_levels → get_or blocks d 0 ≢ 0
  pub spelled : (d : ℕ) → d < node_levels → block_at image (get_or blocks d 0) ≡ node_spelling (get_or nodes d no_node)

-- ---- a path cut

-- A node along the path. The last has no pointer from this place on. Each before it has the next of the blocks at its
-- place, and no pointer past it.
pub record CutsAlong (path blocks : List ℕ) (place d : ℕ) (old new : Node) : Type 0 where
  pub last : suc d ≡ node_levels → CutsAt (λ j. get_or old.leaves j 0) place (λ j. get_or new.leaves j 0)
  pub inner : suc d < node_levels → CutsPast (λ j. get_or old.leaves j 0) (get_or path (suc d) 0)
      (get_or blocks (suc d) 0) (λ j. get_or new.leaves j 0)

-- the root has another block at a place, and leads nowhere past it
pub record CutsRootPast (old : Root) (place block : ℕ) (new : Root) : Type 0 where
  pub kind : new.kind ≡ old.kind
  pub fill : new.fill ≡ old.fill
  pub word : new.word ≡ old.word
  pub size : new.size ≡ old.size
  pub nodes : CutsPast (λ n. get_or old.nodes n 0) place block (λ n. get_or new.nodes n 0)
