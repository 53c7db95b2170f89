-- Blocks that a file had and that become Free, once its root no longer leads to them.
use Rattle.std.specs.Prelude.{◌≡◌, ◌≢◌, ◌⊎◌, ℕ, ◌+◌, ◌*◌, ◌%◌, ◌<◌, ◌≤◌, true, false, List, None, length, Result}
use Rattle.std.specs.Prelude.{IfErr, OnOk}
use Rattle.block_tree.specs.Reads.{IsNear, leaves_at, is_damage}
use Rattle.block_tree.specs.Pointers.{leaf_pointers, node_pointers}
use Rattle.cfs_base.specs.Calls.{HasStopped}
use Rattle.cfs_base.specs.Codes.{no_entry}
use Rattle.cfs_base.specs.Disk.{Image, Written, block_at}
use Rattle.cfs_base.specs.Refusals.{trouble_after_try}
use Rattle.cfs_base.specs.Run.{Leaves, Tells, left_now}
use Rattle.cfs_base.specs.Went.{Went}
use Rattle.cfs_base.specs.declared.disk.Disk.{Ghosts}
use Rattle.cfs_base.specs.declared.identifier.Puid.{Puid}
use Rattle.cfs_base.specs.declared.kind.Place.{Place}
use Rattle.cfs_base.specs.declared.kind.Place.TheVariants.{Leaf, Node}
use Rattle.cfs_base.specs.declared.refusal.Damage.{Damage}
use Rattle.cfs_base.specs.declared.refusal.Refused.{Refused}
use Rattle.cfs_base.specs.declared.refusal.Trouble.{Trouble}
use Rattle.cyl_alloc.specs.Space.{AreCounts, IsBadMap, Kept, unheld_entry}
use Rattle.cyl_map.specs.Volume.{AreMaps, entry_in, is_free_in, map_of, map_with, with_entry}
use Rattle.ufs_model.specs.Graph.{Graph}
use Rattle.vol_image.specs.Frame.{Frames, IsLoose}
use Rattle.vol_image.specs.Part.{BelongsTo, part_at}
use Rattle.vol_image.specs.Run.{Within}
use Rattle.vol_image.specs.Sound.{Holds}
use Rattle.vol_owners.specs.Change.{ChangesOnly, of_owner}
use Rattle.normal_files.specs.Cuts.{last_node}
use Rattle.normal_files.specs.Laid.{leaf_of, node_of}
use Rattle.leaf_changes.specs.Tops.{Top}
use Rattle.normal_files.specs.Refusal.{IsDamage, IsRefusal}
use Rattle.normal_files.specs.Steps.{HasCome}
use Rattle.block_tree.specs.Along.{way_leaves}
use Rattle.block_tree.specs.Way.{CutsPast}
use Rattle.normal_files.specs.declared.cut.End.{End}
use Rattle.ufs_model.specs.Object.{leaves_in}
use Rattle.cfs_base.specs.declared.refusal.Trouble.TheVariants as trouble
use Rattle.block_tree.specs.declared.root.Root as roots

-- ---- on any disk

-- what is wrong: the map block of a block is no map, or a block of the file is damaged, on the disk as it is then
pub data IsDropDamage {D : Type 0} (g : Ghosts D) (at : Top) (start new : D) (damage : Damage) : Type 0 where
  NoMap : damage.code ≡ no_entry → damage.block ≡ map_of damage.block
      → (Tells g start → IsBadMap (g.content new) damage.block) → IsDropDamage g at start new damage
  OfFile : (mid : D) → (Tells g start → Tells g mid) → g.content mid ≡ g.content new → g.blocks mid ≡ g.blocks new
      → IsDamage g at mid damage → IsDropDamage g at start new damage

-- a device call failed, or a block that was read is damaged
abbrev pub IsDropTrouble : {D : Type 0} → Ghosts D → Top → D → D → Trouble → Type 0
IsDropTrouble g at start new (trouble.Disk tried) = HasStopped g tried start new
IsDropTrouble g at start new (trouble.Damaged damage) = IsDropDamage g at start new damage

-- the same, or a block that was read before any write is damaged
abbrev pub IsShrinkTrouble : {D : Type 0} → Ghosts D → Top → D → D → Trouble → Type 0
IsShrinkTrouble g at old new (trouble.Disk tried) = HasStopped g tried old new
IsShrinkTrouble g at old new (trouble.Damaged damage) = IsDamage g at old damage ⊎ IsDropDamage g at old new damage

-- calls were made from `start`, and none failed; a write was tried
pub record HasBegun {D : Type 0} (g : Ghosts D) (start now : D) : Type 0 where
  pub n : ℕ
  pub t : ℕ
  pub went : HasCome g n t true start now

-- there are as many cylinders, and the same is left of a commit
pub record StaysCounted (before after : Kept) : Type 0 where
  pub cylinders : length after.free ≡ length before.free
  pub left : after.left ≡ before.left

-- the trouble of a call that follows such a start, once it is reported as one after a try
abbrev pub FollowsTrouble : {D : Type 0} → Ghosts D → Top → D → D → Trouble → Type 0
FollowsTrouble {D = D} g at old new e =
    (start : D) → HasBegun g start old → IsDropTrouble g at start new (trouble_after_try e)

-- at most n device calls are made, t of them writes, after such a start
abbrev pub FollowsStart : {D : Type 0} → Ghosts D → Top → (n t : ℕ) → D → D → Kept → Kept → Result (Unit {0}) Trouble
    → Type 0
FollowsStart g at n t old new before after result =
    Went g n t n old new before after (StaysCounted before after) (FollowsTrouble g at old new)
    (λ e. ⊥) (λ done. None) result

-- one block becomes Free; block 0 is no block
pub record FreesBlock {D : Type 0} (g : Ghosts D) (block : ℕ) (old new : D) (before after : Kept)
    (result : Result (Unit {0}) Trouble) : Type 0 where
  pub none : block ≡ 0 → (new ≡ old) × (after ≡ before)
  pub freed : block ≢ 0 → Tells g old → OnOk result (g.content new ≡ with_entry (g.content old) block unheld_entry)
  pub counts : block ≢ 0 → Tells g old → AreCounts (g.content old) before → is_free_in (g.content old) block ≡ false
      → OnOk result (AreCounts (g.content new) after)
  pub images : block ≢ 0 → Tells g old
      → Leaves g old new (Written (left_now g old) (map_of block) (map_with (g.content old) block unheld_entry))
  pub sound : Tells g old → AreMaps (g.content old) → IfErr result (λ t. is_damage t ≡ false)

-- ---- what the file had

-- the block has this owner and place in image b, which reads as a graph that doesn't use it
pub record IsDropped (b : Image) (graph : Graph) (owner : ℕ) (place : Place) (block : ℕ) : Type 0 where
  pub part : BelongsTo owner place (part_at b block)
  pub loose : IsLoose b graph block

-- Image b has the file with a new root that keeps its first leaves. Image a, before it, has the old root.
pub record Drops (a b : Image) (graph : Graph) (id : Puid) (root next : roots.Root) (keep : ℕ) : Type 0 where
  pub holds : Holds b graph
  pub size : length b ≡ length a
  pub leaves : (q k : ℕ) → k < leaf_pointers.count → keep ≤ leaf_pointers.count * q + k → leaf_of a root q k ≢ 0
      → IsDropped b graph id.block (Leaf (leaf_pointers.count * q + k)) (leaf_of a root q k)
  pub nodes : (q : ℕ) → node_of root q ≢ 0 → node_of next q ≡ 0 → IsDropped b graph id.block (Node q) (node_of root q)
  pub same : (q : ℕ) → node_of root q ≢ 0 → node_of next q ≡ 0
      → leaves_at b (node_of root q) ≡ leaves_at a (node_of root q)
  pub near : (q : ℕ) → IsNear (length a) a (node_of root q)

-- the leaves from `keep` on that are before `leaf`, and the nodes before `node` to which the new root doesn't lead
pub data IsFreed (a : Image) (root next : roots.Root) (keep leaf node block : ℕ) : Type 0 where
  FreedLeaf : (q k : ℕ) → k < leaf_pointers.count → keep ≤ leaf_pointers.count * q + k
      → leaf_pointers.count * q + k < leaf → leaf_of a root q k ≢ 0
      → block ≡ leaf_of a root q k → IsFreed a root next keep leaf node block
  FreedNode : (q : ℕ) → q < node → node_of root q ≢ 0 → node_of next q ≡ 0 → block ≡ node_of root q
      → IsFreed a root next keep leaf node block

-- These blocks are Free, and all else is as it was in image b.
pub record IsFreeing {D : Type 0} (g : Ghosts D) (a b : Image) (graph : Graph) (id : Puid) (root next : roots.Root)
    (keep leaf node : ℕ) (start now : D) (kept : Kept) : Type 0 where
  pub within : Within g b graph start now
  pub entries : (m : ℕ) → (entry_in (g.content now) m ≡ entry_in b m) ⊎ IsFreed a root next keep leaf node m
  pub free : (m : ℕ) → IsFreed a root next keep leaf node m → is_free_in (g.content now) m ≡ true
  pub contents : (m : ℕ) → m % 64 ≢ 0 → block_at (g.content now) m ≡ block_at b m
  pub only : ChangesOnly (λ e. of_owner id.block e) b (g.content now)
  pub counts : AreCounts (g.content now) kept

-- A call that frees from one leaf and node up to others, given what is known of the file.
pub record FreesTo {D : Type 0} (g : Ghosts D) (root : roots.Root) (Given : Image → roots.Root → ℕ → Type 0)
    (leaf node to_leaf to_node : ℕ) (old new : D) (before after : Kept)
    (result : Result (Unit {0}) Trouble) : Type 0 where
  pub on : (a b : Image) (graph : Graph) (id : Puid) (next : roots.Root) (keep : ℕ) (start : D)
      → Drops a b graph id root next keep → Given a next keep
      → IsFreeing g a b graph id root next keep leaf node start old before
      → OnOk result (IsFreeing g a b graph id root next keep to_leaf to_node start new after)
  pub leaves : (a b : Image) (graph : Graph) (id : Puid) (next : roots.Root) (keep : ℕ) (start : D)
      → Drops a b graph id root next keep → Given a next keep
      → IsFreeing g a b graph id root next keep leaf node start old before
      → Leaves g start new (Frames b graph)
  pub sound : (a b : Image) (graph : Graph) (id : Puid) (next : roots.Root) (keep : ℕ) (start : D)
      → Drops a b graph id root next keep → Given a next keep
      → IsFreeing g a b graph id root next keep leaf node start old before
      → IfErr result (λ t. is_damage t ≡ false)

-- ---- what is given

-- a list has the leaf pointers of a node, of which those from a place on are dropped
abbrev pub GivesLeaves : roots.Root → List ℕ → (number from : ℕ) → Image → roots.Root → ℕ → Type 0
GivesLeaves root leaves number from a next keep =
    (leaves ≡ leaves_at a (node_of root number)) × (keep ≤ leaf_pointers.count * number + from)

-- the node with this number is dropped, and all its leaves
abbrev pub GivesNode : (number : ℕ) → Image → roots.Root → ℕ → Type 0
GivesNode number a next keep = (node_of next number ≡ 0) × (keep ≤ leaf_pointers.count * number)

-- all nodes from this one on are dropped so
abbrev pub GivesNodes : (from : ℕ) → Image → roots.Root → ℕ → Type 0
GivesNodes from a next keep =
    ((q : ℕ) → from ≤ q → q < node_pointers.count → node_of next q ≡ 0) × (keep ≤ leaf_pointers.count * from)

-- the last node is as it was read, and the root leads to it if it is kept, and to none past it
abbrev pub GivesEnd : roots.Root → (size : ℕ) → End → Image → roots.Root → ℕ → Type 0
GivesEnd root size end a next keep =
    (keep ≡ leaves_in size) × (way_leaves end.way ≡ leaves_at a (node_of root (last_node size)))
    × CutsPast (node_of root) (last_node size) end.kept (node_of next)

-- ---- a resize

-- no block is taken: each has the entry that it had, or is Free
abbrev pub TakesNone : Image → Image → Type 0
TakesNone a c = (m : ℕ) → (entry_in c m ≡ entry_in a m) ⊎ (is_free_in c m ≡ true)

abbrev pub IsResizeRefusal : {D : Type 0} → Ghosts D → Top → (floor : ℕ) → D → D → Kept → Refused → Type 0
IsResizeRefusal g at floor old new = IsRefusal g (λ damage. IsDamage g at old damage
    ⊎ IsDropDamage g at old new damage) floor old new
