-- Blocks that a write takes for absent leaves, and for their node.
use Rattle.std.specs.Prelude.{◌≡◌, ◌≢◌, ◌⊎◌, ◌==◌, ◌&&◌, if◌then◌else◌, ℕ, ◌+◌, ◌*◌, ◌/◌, ◌%◌, ◌<◌, ◌≤◌, Bool, true}
use Rattle.std.specs.Prelude.{false, List, length, get_or, replicate, Some, Result, Ok, Err}
use Rattle.block_tree.specs.Reads.{leaves_at}
use Rattle.block_tree.specs.Pointers.{leaf_pointers}
use Rattle.block_tree.specs.Way.{with_leaf}
use Rattle.cfs_base.specs.Disk.{Image, block_at}
use Rattle.cfs_base.specs.Run.{Leaves}
use Rattle.cfs_base.specs.declared.disk.Disk.{Ghosts}
use Rattle.cfs_base.specs.declared.identifier.BlockNo.{BlockNo}
use Rattle.cfs_base.specs.declared.kind.Place.{Place}
use Rattle.cfs_base.specs.declared.kind.Place.TheVariants.{Leaf, Node}
use Rattle.cfs_base.specs.declared.refusal.Refused.{Refused}
use Rattle.claims.specs.Claims.{AreClaimed}
use Rattle.cyl_alloc.specs.Enters.{Enters}
use Rattle.cyl_alloc.specs.Space.{IsLeastFree, Kept, allocated}
use Rattle.cyl_map.specs.Volume.{entry_in, is_free_in, with_entry}
use Rattle.leaf_changes.specs.Bytes.{patched}
use Rattle.ufs_model.specs.Object.{leaves_in}
use Rattle.normal_files.specs.Ends.{Halts, HasGone, is_damaged}
use Rattle.normal_files.specs.Parts.{absent_in}
use Rattle.normal_files.specs.Order.{TellsHeld, claims_from, nodes_now}
use Rattle.normal_files.specs.Steps.{IsAmid, MayLeave}
use Rattle.normal_files.specs.View.{Way}
use Rattle.block_tree.specs.Along.{way_leaves}
use Rattle.normal_files.specs.declared.next.Next.{Next}
use Rattle.normal_files.specs.Plans.{Plan}
use Rattle.normal_files.specs.declared.part.Part.{Part}

-- a block that was Free in image a has an owner in image c
pub record IsNew (a c : Image) (owner : ℕ) (place : Place) (block : ℕ) : Type 0 where
  pub free : is_free_in a block ≡ true
  pub no_map : block % 64 ≢ 0
  pub below : block < length c
  pub entry : entry_in c block ≡ Some (allocated place owner)

-- a block that wasn't Free stays as it is
pub record KeepsTaken (a c : Image) : Type 0 where
  pub size : length c ≡ length a
  pub entries : (m : ℕ) → is_free_in a m ≡ false → entry_in c m ≡ entry_in a m
  pub contents : (m : ℕ) → m % 64 ≢ 0 → is_free_in a m ≡ false → block_at c m ≡ block_at a m

-- a block that is Free was Free before
abbrev pub FreesNone : Image → Image → Type 0
FreesNone a c = (m : ℕ) → is_free_in c m ≡ true → is_free_in a m ≡ true

-- ---- one leaf

-- if the node has this block already nothing is done, else the least-numbered Free block becomes its block
pub data GetsNode {D : Type 0} (g : Ghosts D) (n owner : ℕ) (held : Bool) (block : ℕ) (old new : D)
    (before after : Kept) (result : Result BlockNo Refused) : Type 0 where
  Had : held ≡ true → new ≡ old → after ≡ before → result ≡ Ok (record { 0 = block })
      → GetsNode g n owner held block old new before after result
  Claims : held ≡ false → Enters g (allocated (Node n) owner) old new before after result
      → GetsNode g n owner held block old new before after result

-- From image a to image c the leaf got block x, with this content, and its node block y. Each is the least-numbered
-- Free block.
pub record TakesLeaf (a c : Image) (owner leaf : ℕ) (held : Bool) (block x y : ℕ) (content : List ℕ) : Type 0 where
  pub least_x : IsLeastFree a x
  pub least_y : held ≡ false → IsLeastFree (with_entry a x (allocated (Leaf leaf) owner)) y
  pub x_new : IsNew a c owner (Leaf leaf) x
  pub x_content : block_at c x ≡ content
  pub y_new : held ≡ false → IsNew a c owner (Node (leaf / leaf_pointers.count)) y
  pub y_kept : held ≡ true → y ≡ block
  pub keeps : KeepsTaken a c
  pub rest : (m : ℕ) → m ≢ x → (held ≡ false → m ≢ y) → entry_in c m ≡ entry_in a m

-- ---- the touched leaves of one node

-- the content of a leaf that was absent
abbrev pub fresh_content : (fill leaf offset : ℕ) → (bytes : List ℕ) → List ℕ
fresh_content fill leaf offset bytes = patched leaf offset bytes (replicate 512 fill)

-- the k-th leaf of a part was absent, and is one of those before `upto` that are taken
pub record IsTakenTo (part : Part) (upto k : ℕ) : Type 0 where
  pub small : k < leaf_pointers.count
  pub from : part.leaves.from ≤ leaf_pointers.count * part.number + k
  pub to : leaf_pointers.count * part.number + k < upto
  pub absent : get_or (way_leaves part.way) k 0 ≡ 0

-- whether the node has a block: it had one, or one was taken
abbrev pub is_held : (had : ℕ) → (grown : Bool) → Bool
is_held had grown = if had == 0 then grown else true

-- the plan with one more leaf
abbrev pub with_taken : Plan → (k x y : ℕ) → Plan
with_taken next k x y = record { block = y; node = with_leaf next.node k x; grown = true }

-- a block is one of a leaf that was taken, or the node's
abbrev pub IsOneOf : Part → (had upto : ℕ) → Plan → ℕ → Type 0
IsOneOf part had upto next m =
    ((k : ℕ) × IsTakenTo part upto k × (m ≡ get_or next.node.leaves k 0))
    ⊎ ((had ≡ 0) × (next.grown ≡ true) × (m ≡ next.block))

-- From image a to image c the absent leaves of a part before `upto` were taken, and are written. `had` is the node's
-- old block.
pub record HasTaken (a c : Image) (owner fill offset : ℕ) (bytes : List ℕ) (part : Part) (had upto : ℕ)
    (next : Plan) : Type 0 where
  pub count : length next.node.leaves ≡ leaf_pointers.count
  pub others : (k : ℕ) → (IsTakenTo part upto k → ⊥) → get_or next.node.leaves k 0 ≡ get_or (way_leaves part.way) k 0
  pub leaves : (k : ℕ) → IsTakenTo part upto k
      → IsNew a c owner (Leaf (leaf_pointers.count * part.number + k)) (get_or next.node.leaves k 0)
  pub contents : (k : ℕ) → IsTakenTo part upto k
      → block_at c (get_or next.node.leaves k 0)
      ≡ fresh_content fill (leaf_pointers.count * part.number + k) offset bytes
  pub node_had : had ≢ 0 → next.block ≡ had
  pub node_new : had ≡ 0 → next.grown ≡ true → IsNew a c owner (Node part.number) next.block
  pub none : next.grown ≡ false → (k : ℕ) → IsTakenTo part upto k → ⊥
  pub some : next.grown ≡ true → (k : ℕ) × IsTakenTo part upto k
  pub keeps : KeepsTaken a c
  pub rest : (m : ℕ) → (entry_in c m ≡ entry_in a m) ⊎ IsOneOf part had upto next m
  -- what is claimed for more leaves, up to image e, follows what was claimed for these
  pub order : (leaves nodes : List ℕ) → TellsHeld part had leaves nodes → (n m : ℕ) (e : Image)
      → part.leaves.from + m ≡ upto + n
      → AreClaimed (claims_from owner leaves (nodes_now (had == 0) next.grown part.number nodes) upto n) c e
      → AreClaimed (claims_from owner leaves nodes part.leaves.from m) a e

-- the new node is written too
abbrev pub IsWhole : Image → (had : ℕ) → Plan → Type 0
IsWhole c had next = had ≡ 0 → next.grown ≡ true → leaves_at c next.block ≡ next.node.leaves

-- how many blocks a leaf takes, with its node if that isn't held
abbrev pub leaf_takes : Bool → ℕ
leaf_takes held = if held then 1 else 2

-- how many of these are for the node, once a leaf of it was taken
abbrev pub node_takes : (had : ℕ) → (grown : Bool) → ℕ
node_takes had grown = if had == 0 && grown then 1 else 0

-- how a call ends that passes one leaf: if it is held nothing is done, else it is taken
abbrev pub Passes : {D : Type 0} → Ghosts D → (had : ℕ) → (own : List ℕ) → (leaf : ℕ) → Next → D → D → Kept → Kept
    → Result Next Refused → Type 0
Passes g had own leaf next old new before after (Ok more) =
    ((absent_in own leaf ≡ false) × (more ≡ next) × (new ≡ old) × (after ≡ before))
    ⊎ ((absent_in own leaf ≡ true) × (more.grown ≡ true)
    × HasGone g 5 3 (leaf_takes (is_held had next.grown)) true old new before after)
Passes g had own leaf next old new before after (Err e) =
    (absent_in own leaf ≡ true) × Halts g 5 3 (leaf_takes (is_held had next.grown)) old new before after e

-- ---- runs

-- The held leaves are written, and a block is Free only if it was at the start: blocks may be taken.
pub record MayTake {D : Type 0} {g : Ghosts D} {block : ℕ} (w : Way g block) (offset : ℕ) (bytes : List ℕ) (now : D)
    (kept : Kept) : Type 0 where
  pub amid : IsAmid w offset bytes (leaves_in (offset + length bytes)) now kept
  pub frees : FreesNone (g.content w.start) (g.content now)

-- How a call ends on the way. If it is done, more blocks may be taken, and P holds of the image before it and after
-- it. Else a crash leaves what a write may leave, and nothing was damaged.
abbrev pub Took : {D A : Type 0} {g : Ghosts D} {block : ℕ} → Way g block → (offset : ℕ) → (bytes : List ℕ) → D → D
    → Kept
    → Result A Refused → (Image → Image → A → Type 0) → Type 0
Took {g = g} w offset bytes old new after (Ok x) P =
    MayTake w offset bytes new after × P (g.content old) (g.content new) x
Took {g = g} w offset bytes old new after (Err e) P =
    Leaves g w.start new (MayLeave w offset bytes) × (is_damaged e ≡ false)

-- it ends so whenever blocks may be taken
abbrev pub TakesBlocks : {D A : Type 0} → Ghosts D → (block offset : ℕ) → (bytes : List ℕ) → D → D → Kept → Kept
    → Result A Refused → (Image → Image → A → Type 0) → Type 0
TakesBlocks g block offset bytes old new before after result P =
    (w : Way g block) → MayTake w offset bytes old before → Took w offset bytes old new after result P

-- ---- both parts

-- from image a to image c the leaves of two parts were taken, those of the low part first, and their new nodes are
-- written
pub record TakesBoth (a c : Image) (owner fill offset : ℕ) (bytes : List ℕ) (low : Part) (low_had : ℕ) (low_next : Plan)
    (high : Part) (high_had : ℕ) (high_next : Plan) : Type 0 where
  pub mid : Image
  pub low_has : HasTaken a mid owner fill offset bytes low low_had low.leaves.to low_next
  pub low_whole : IsWhole mid low_had low_next
  pub high_has : HasTaken mid c owner fill offset bytes high high_had high.leaves.to high_next
  pub high_whole : IsWhole c high_had high_next
