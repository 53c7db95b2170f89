-- Leaves dropped from a draft, from one leaf on, with the nodes that have no leaf before it.
use Rattle.std.specs.Prelude.{◌≡◌, ◌≢◌, ◌⊎◌, ℕ, zero, suc, Bool, not, ◌&&◌, ◌||◌, ◌++◌, get_or, ◌+◌, ◌-◌, ◌*◌, ◌/◌, ◌%◌}
use Rattle.std.specs.Prelude.{◌<◌, ◌≤◌, true, false, if◌then◌else◌, ◌==◌, List, [], ◌∷◌, length, None, slice_index, sum}
use Rattle.std.specs.Prelude.{IfErr, OnOk, Result, Ok, Err}
use Rattle.cfs_base.specs.Calls.{HasTried, OnlyReads}
use Rattle.cfs_base.specs.Disk.{Image}
use Rattle.cfs_base.specs.Refusals.{trouble_after_try}
use Rattle.cfs_base.specs.Run.{Tells}
use Rattle.cfs_base.specs.declared.disk.Disk.{Ghosts}
use Rattle.cfs_base.specs.declared.identifier.BlockNo.{BlockNo}
use Rattle.cfs_base.specs.declared.identifier.Puid.{Puid}
use Rattle.cfs_base.specs.declared.refusal.Refused.{Refused}
use Rattle.cfs_base.specs.declared.refusal.Refused.TheVariants as refusals
use Rattle.cfs_base.specs.declared.refusal.Trouble.{Trouble}
use Rattle.block_tree.specs.Pointers.{leaf_pointers, node_pointers, pointers_of, size_limit}
use Rattle.block_tree.specs.Along.{IsTo, way_leaves}
use Rattle.block_tree.specs.Tree.{tree_of}
use Rattle.block_tree.specs.declared.along.Way.{Way}
use Rattle.block_tree.specs.declared.root.Root as roots
use Rattle.cyl_alloc.specs.Space.{Kept}
use Rattle.cyl_map.specs.declared.entry.MapEntry.{MapEntry}
use Rattle.special_files.specs.Limits.{drop_calls, drop_tries, resize_calls, resize_tries}
use Rattle.ufs_model.specs.Graph.{Graph}
use Rattle.ufs_model.specs.Numbers.{has_number}
use Rattle.ufs_model.specs.Object.{leaves_in, written_anew}
use Rattle.ufs_model.specs.State.{changed_draft}
use Rattle.ufs_model.specs.declared.change.Change.TheVariants.{SetSize}
use Rattle.ufs_model.specs.declared.object.Draft.{Draft}
use Rattle.ufs_model.specs.declared.object.File.{File}
use Rattle.ufs_model.specs.declared.object.Object.TheVariants as objects
use Rattle.vol_owners.specs.Account.{Drafts, Opened, content_of, is_meant_for, numbers_differ}
use Rattle.special_files.specs.Becomes.{DraftBecomes}
use Rattle.special_files.specs.Calls.{GetsDraftNode, WritesDraftBlock}
use Rattle.special_files.specs.Drafting.{Drafting, HasNoneFresh, IsOpen, is_fresh_leaf, is_fresh_node, draft_takes}
use Rattle.special_files.specs.Drafting.{need_beside, pointer_to_node, one_unless, shadow_need}
use Rattle.special_files.specs.Ends.{EndsCall}
use Rattle.special_files.specs.Leaves.{draft_in, leaves_below}
use Rattle.special_files.specs.Nodes.{IsRead, IsSafe}
use Rattle.special_files.specs.Order.{ClaimsAndDrops, claims_anew, node_claims}
use Rattle.special_files.specs.Puts.{CutsLeaf, LeafCall, StaysBut, drafts_with}
use Rattle.leaf_changes.specs.Tops.{IsFarRoot}
use Rattle.special_files.specs.Refusal.{is_full_refusal, top_of}
use Rattle.special_files.specs.Store.{Steps}
use Rattle.special_files.specs.View.{GoesHolding, DraftView}
use Rattle.special_files.specs.declared.shrink.Plan.{Plan}

-- a path to such a leaf or node
abbrev pub IsPathPast : ℕ → List ℕ → Type 0
IsPathPast from [] = ⊥
IsPathPast from (m ∷ []) = from ≤ leaf_pointers.count * m
IsPathPast from (m ∷ j ∷ []) = (from / leaf_pointers.count < m)
    ⊎ ((m ≡ from / leaf_pointers.count) × (from % leaf_pointers.count ≤ j))
IsPathPast from (m ∷ j ∷ i ∷ p) = ⊥

-- a block of the draft's own at such a path
pub record IsShed (image : Image) (id : Puid) (d : Opened) (from n : ℕ) : Type 0 where
  pub meant : is_meant_for image id.block n ≡ true
  pub path : List ℕ
  pub past : IsPathPast from path
  pub there : tree_of image (content_of d) path ≡ n

-- these are all such blocks, each once
pub record AreShed (image : Image) (id : Puid) (d : Opened) (from : ℕ) (ns : List ℕ) : Type 0 where
  pub each : (n : ℕ) → has_number n ns ≡ true → IsShed image id d from n
  pub all : (n : ℕ) → IsShed image id d from n → has_number n ns ≡ true
  pub once : numbers_differ ns ≡ true

-- how they are listed: a block, if `b` is set
abbrev pub list_if : Bool → ℕ → List ℕ
list_if b n = if b then n ∷ [] else []

-- those of a node's pointers that are of fresh leaves, `count` of them beginning at a place
unfoldable pub fresh_in : (flags : List Bool) (leaves : List ℕ) (node from count : ℕ) → List ℕ
fresh_in flags leaves node from zero = []
fresh_in flags leaves node from (suc k) = fresh_in flags leaves node from k
    ++ list_if (get_or flags (leaf_pointers.count * node + (from + k)) false) (slice_index leaves (from + k))

-- The leaf from which a draft drops its leaves, if it is to keep those before `to`. `to` is in a node with these
-- leaves, or at its end. If `from` is within the node, the node keeps a leaf and drops one.
pub record IsBorder (leaves : List ℕ) (node to from : ℕ) : Type 0 where
  pub low : leaf_pointers.count * node ≤ from
  pub high : from ≤ leaf_pointers.count * node + leaf_pointers.count
  pub none : (j : ℕ) → j < leaf_pointers.count
      → ((from ≤ leaf_pointers.count * node + j) × (leaf_pointers.count * node + j < to))
      ⊎ ((to ≤ leaf_pointers.count * node + j) × (leaf_pointers.count * node + j < from)) → slice_index leaves j ≡ 0
  pub keeps : from % leaf_pointers.count ≢ 0
      → (from ≡ to) × ((j : ℕ) × (leaf_pointers.count * node + j < to) × (slice_index leaves j ≢ 0))
  pub drops : from % leaf_pointers.count ≢ 0
      → (j : ℕ) × (j < leaf_pointers.count) × (to ≤ leaf_pointers.count * node + j) × (slice_index leaves j ≢ 0)

-- a root that leads to none of them; if the first is within a node, it leads to this block at that place
pub record CutsRootAt (from block : ℕ) (old new : roots.Root) : Type 0 where
  pub kind : new.kind ≡ old.kind
  pub fill : new.fill ≡ old.fill
  pub word : new.word ≡ old.word
  pub size : new.size ≡ old.size
  pub before : (m : ℕ) → leaf_pointers.count * m + leaf_pointers.count ≤ from
      → slice_index new.nodes m ≡ slice_index old.nodes m
  pub past : (m : ℕ) → from ≤ leaf_pointers.count * m → slice_index new.nodes m ≡ 0
  pub here : from % leaf_pointers.count ≢ 0 → slice_index new.nodes (from / leaf_pointers.count) ≡ block

-- The draft has none of them. If the first is within a node, that node is at the block, and fresh.
pub record Forgets (from block : ℕ) (was now : Drafting) : Type 0 where
  pub stays : StaysBut was now
  pub long_leaves : length now.leaves ≡ length was.leaves
  pub long_nodes : length now.nodes ≡ length was.nodes
  pub count : length now.root.nodes ≡ length was.root.nodes
  pub leaf_before : (l : ℕ) → l < from → is_fresh_leaf now l ≡ is_fresh_leaf was l
  pub leaf_past : (l : ℕ) → from ≤ l → is_fresh_leaf now l ≡ false
  pub before : (m : ℕ) → leaf_pointers.count * m + leaf_pointers.count ≤ from
      → (is_fresh_node now m ≡ is_fresh_node was m)
      × (pointer_to_node now.root m ≡ pointer_to_node was.root m)
  pub past : (m : ℕ) → from ≤ leaf_pointers.count * m → (is_fresh_node now m ≡ false) × (pointer_to_node now.root m ≡ 0)
  pub here : from % leaf_pointers.count ≢ 0
      → (is_fresh_node now (from / leaf_pointers.count) ≡ true)
      × (pointer_to_node now.root (from / leaf_pointers.count) ≡ block)

-- what it claims: a block for the node of the first leaf that is dropped, if that is within a node that isn't fresh
abbrev pub border_claims : Drafting → ℕ → List MapEntry
border_claims was from =
    if from % leaf_pointers.count == 0 then [] else node_claims was.at was.nodes (from / leaf_pointers.count)

-- the same for the store, and for the draft that the model has then
pub record DropsFrom {D : Type 0} (g : Ghosts D) (graph : Graph) (ds : Drafts) (id : Puid) (from : ℕ)
    (old new : D) (after : Kept) (was now : Drafting) : Type 0 where
  pub steps : Steps g graph id (drafts_with (g.content new) ds id now) old new after
  pub is_open : IsOpen (drafts_with (g.content new) ds id now) id now (draft_in (g.content new) now)
  pub block : ℕ
  pub forgets : Forgets from block was now
  pub gone : (l : ℕ) → from ≤ l → leaves_below (g.content new) now.root l ≡ None
  pub kept : (l : ℕ) → l < from → leaves_below (g.content new) now.root l ≡ leaves_below (g.content old) was.root l
  pub order : ClaimsAndDrops id.block (border_claims was from) (g.content old) (g.content new)

-- how many blocks it takes: one for the node, if that isn't fresh
abbrev pub border_takes : Drafting → ℕ → ℕ
border_takes was from =
    if from % leaf_pointers.count == 0 then 0 else one_unless (is_fresh_node was (from / leaf_pointers.count))

-- ---- what is known of a draft by its parts

pub record HasParts (was : Drafting) (root : roots.Root) (leaves nodes : List Bool) : Type 0 where
  pub root_is : was.root ≡ root
  pub leaves_is : was.leaves ≡ leaves
  pub nodes_is : was.nodes ≡ nodes

-- the result of a call before which a write was tried
abbrev pub as_tried : Result (Unit {0}) Trouble → Result (Unit {0}) Trouble
as_tried (Ok t) = Ok t
as_tried (Err t) = Err (trouble_after_try t)

-- ---- how the node of the first leaf is written

-- a block that spells a node with these leaves before a place, and none from there on
pub record IsShortNode (leaves : List ℕ) (place : ℕ) (block : List ℕ) : Type 0 where
  pub before : (j : ℕ) → j < place → slice_index (pointers_of leaf_pointers block) j ≡ slice_index leaves j
  pub past : (j : ℕ) → place ≤ j → j < leaf_pointers.count → slice_index (pointers_of leaf_pointers block) j ≡ 0

-- the node is written so, into a block of the draft's own, which is claimed if the draft has none
pub data PutsShort {D : Type 0} (g : Ghosts D) (from : ℕ) (leaves : List ℕ) (was : Drafting) (old new : D)
    (before after : Kept) (result : Result BlockNo Refused) : Type 0 where
  NoBlock : (e : Refused) → GetsDraftNode g (from / leaf_pointers.count) old new before after was (Err e)
      → result ≡ Err e
      → PutsShort g from leaves was old new before after result
  NoWrite : (mid : D) (y : BlockNo) (block : List ℕ) (e : Refused)
      → GetsDraftNode g (from / leaf_pointers.count) old mid before after was (Ok y)
      → IsShortNode leaves (from % leaf_pointers.count) block
      → WritesDraftBlock g y.0 block mid new (Err e) → result ≡ Err e
      → PutsShort g from leaves was old new before after result
  Put : (mid : D) (y : BlockNo) (block : List ℕ)
      → GetsDraftNode g (from / leaf_pointers.count) old mid before after was (Ok y)
      → IsShortNode leaves (from % leaf_pointers.count) block → WritesDraftBlock g y.0 block mid new (Ok tt)
      → result ≡ Ok y
      → PutsShort g from leaves was old new before after result

-- The node is written so if the first leaf that is dropped is within it. Else nothing is done.
pub data PutsWithin {D : Type 0} (g : Ghosts D) (from : ℕ) (leaves : List ℕ) (was : Drafting) (old new : D)
    (before after : Kept) (result : Result BlockNo Refused) : Type 0 where
  Whole : (y : BlockNo) → from % leaf_pointers.count ≡ 0 → new ≡ old → after ≡ before → result ≡ Ok y
      → PutsWithin g from leaves was old new before after result
  Within : from % leaf_pointers.count ≢ 0 → PutsShort g from leaves was old new before after result
      → PutsWithin g from leaves was old new before after result

-- the node that was read keeps a leaf, if it is to be written
abbrev pub KeepsOne : ℕ → Way → Type 0
KeepsOne from way = from % leaf_pointers.count ≢ 0
    → (j : ℕ) × (j < from % leaf_pointers.count) × (slice_index (way_leaves way) j ≢ 0)

-- what a call that drops leaves from one on did, on any disk
pub record DropCall {D : Type 0} (g : Ghosts D) (from : ℕ) (old new : D) (before after : Kept) (was now : Drafting)
    (result : Result (Unit {0}) Refused) : Type 0 where
  pub stays : StaysBut was now
  pub forgets : OnOk result ((block : ℕ) × Forgets from block was now)
  -- something was tried if a node is written; else, if no node is fresh, nothing was done to the disk
  pub tried : from % leaf_pointers.count ≢ 0 → OnOk result (HasTried g old new)
  pub untried : from % leaf_pointers.count ≡ 0 → ((n : ℕ) → is_fresh_node was n ≡ false)
      → (new ≡ old) × (after ≡ before)
  pub near : IsFarRoot (g.blocks new) now.root → IsFarRoot (g.blocks new) was.root
  pub ends : EndsCall g (top_of was) 0 drop_calls drop_tries (sum before.free) old new before after result
  pub kept : IfErr result (λ e. now ≡ was)
  pub room : border_takes was from ≤ sum before.free → IfErr result (λ e. is_full_refusal e ≡ false)

-- ---- a resize to less

-- whether the leaf in which a size ends is cut: the size ends within it, and it is held
pub record IsCutHere (size : ℕ) (leaves : List ℕ) (cut : Bool) : Type 0 where
  pub is : cut ≡ true → (size % 512 ≢ 0) × (slice_index leaves ((size / 512) % leaf_pointers.count) ≢ 0)
  pub none : cut ≡ false → size % 512 ≢ 0 → slice_index leaves ((size / 512) % leaf_pointers.count) ≡ 0

-- The leaf within which the size ends is cut, if it is to be. Else nothing is done.
pub data CutsIf {D : Type 0} (g : Ghosts D) (size : ℕ) (cut : Bool) (old new : D) (before after : Kept)
    (was now : Drafting) (way next : Way) (result : Result (Unit {0}) Refused) : Type 0 where
  Spares : cut ≡ false → result ≡ Ok tt → new ≡ old → after ≡ before → now ≡ was → next ≡ way
      → CutsIf g size cut old new before after was now way next result
  Cuts : cut ≡ true → ((v : DraftView g old before was) → IsRead (g.content old) was way → size < was.root.size
      → GoesHolding g v.graph (CutsLeaf g v.graph v.ds v.id size old new after was now next) old new result)
      → LeafCall g 8 (size / 512) old new before after was now next result
      → CutsIf g size cut old new before after was now way next result

-- the leaf within which the size ends takes its blocks if it is cut
abbrev pub cut_takes : Drafting → Bool → ℕ → ℕ
cut_takes was cut leaf = if cut then draft_takes was leaf else 0

-- whether that leaf takes a block
abbrev pub is_stale_cut : Drafting → Bool → ℕ → Bool
is_stale_cut was cut leaf = cut && not (is_fresh_leaf was leaf)

-- how many blocks it takes: one for the leaf if it is cut and isn't fresh, and one for its node if that changes and
-- isn't fresh
abbrev pub shrink_takes : Drafting → (cut : Bool) → (from leaf node : ℕ) → ℕ
shrink_takes was cut from leaf node =
    (if is_stale_cut was cut leaf then 1 else 0)
    + (if is_stale_cut was cut leaf || not (from % leaf_pointers.count == 0) then one_unless (is_fresh_node was node)
    else 0)

-- the draft with another size
abbrev pub sized : Drafting → ℕ → Drafting
sized was size = record was { root = record was.root { size = size } }

-- only the root's pointers and what is fresh may have changed, and the size if the resize is done
abbrev pub Resizes : ℕ → Drafting → Drafting → Result (Unit {0}) Refused → Type 0
Resizes size was now (Ok t) = StaysBut (sized was size) now
Resizes size was now (Err e) = StaysBut was now

-- If a draft had no fresh block, a resize of it tried something exactly if a node is fresh then. Else it read at most
-- one node.
pub record IsToldByNodes {D : Type 0} (g : Ghosts D) (old new : D) (before after : Kept) (now : Drafting) : Type 0 where
  pub tried : (n : ℕ) → is_fresh_node now n ≡ true → HasTried g old new
  pub untried : ((n : ℕ) → is_fresh_node now n ≡ false) → (after ≡ before) × OnlyReads g 1 old new

-- the node of the last leaf of a file of this size, or the first node for an empty file
abbrev pub last_draft_node : ℕ → ℕ
last_draft_node size = (leaves_in size - 1) / leaf_pointers.count

-- the last leaf, or the first leaf
abbrev pub last_draft_leaf : ℕ → ℕ
last_draft_leaf size = leaves_in size - 1

-- The nodes above that leaf were read. The plan says from which leaf on a resize to less drops leaves, and whether
-- one is cut.
pub record IsPlan {D : Type 0} (g : Ghosts D) (size : ℕ) (was : Drafting) (old new : D) (plan : Plan) : Type 0 where
  pub reads : OnlyReads g 1 old new
  pub less : size < was.root.size
  pub limit : was.root.size ≤ size_limit
  pub nodes : length was.nodes ≡ node_pointers.count
  pub read_is : Tells g old → IsRead (g.content old) was plan.way
  pub safe : IsSafe (g.blocks old) was plan.way
  pub to : IsTo (last_draft_leaf size) plan.way
  pub border : IsBorder (way_leaves plan.way) (last_draft_node size) (leaves_in size) plan.from
  pub cuts : IsCutHere size (way_leaves plan.way) plan.cut

-- how many blocks such a resize needs, with the shadow root that a commit takes
abbrev pub plan_needs : ℕ → Drafting → Plan → ℕ
plan_needs size was plan = shrink_takes was plan.cut plan.from (size / 512) (last_draft_node size) + shadow_need was

-- The draft is the model's with another size. Its blocks were claimed in their order, each the least Free one. What
-- it dropped of its own is Free. What it needed was Free beside the floor.
pub record Resized {D : Type 0} (g : Ghosts D) (graph : Graph) (ds : Drafts) (id : Puid) (d : Draft)
    (size floor : ℕ) (old new : D) (before after : Kept) (was now : Drafting) : Type 0 where
  pub becomes : DraftBecomes g graph ds id (changed_draft (SetSize size) d) old new after now
  pub order : ClaimsAndDrops id.block
      (claims_anew was.at (written_anew (SetSize size) d.object d.fresh) d.fresh) (g.content old) (g.content new)
  pub room : need_beside (SetSize size) d was + floor ≤ sum before.free

-- the same for a file
abbrev pub ResizesIfFile : {D : Type 0} {g : Ghosts D} {old : D} {before : Kept} {was : Drafting}
    → DraftView g old before was → (size floor : ℕ) → D → Kept → Drafting → Type 0
ResizesIfFile {g = g} {old = old} {before = before} {was = was} v size floor new after now = (f : File)
    → v.draft.object ≡ objects.File f
    → Resized g v.graph v.ds v.id v.draft size floor old new before after was now

-- the refusal of a resize if fewer blocks are Free than the model's need plus the floor
pub record IsFullFor (size floor : ℕ) (d : Draft) (space : Kept) (was : Drafting) (e : Refused) : Type 0 where
  pub is : e ≡ refusals.Full (record { free = sum space.free; need = need_beside (SetSize size) d was })
  pub less : sum space.free < need_beside (SetSize size) d was + floor

-- what a resize did, on any disk
pub record ResizeCall {D : Type 0} (g : Ghosts D) (size floor : ℕ) (old new : D) (before after : Kept)
    (was now : Drafting) (result : Result (Unit {0}) Refused) : Type 0 where
  pub stays : Resizes size was now result
  pub spared : IfErr result (λ e. is_full_refusal e ≡ true → OnlyReads g 1 old new × (after ≡ before) × (now ≡ was))
  pub told : HasNoneFresh was → OnOk result (IsToldByNodes g old new before after now)
  pub near : IsFarRoot (g.blocks new) now.root → IsFarRoot (g.blocks new) was.root
  pub ends : EndsCall g (top_of was) floor resize_calls resize_tries (sum before.free) old new before after result
  pub kept : IfErr result (λ e. e ≡ refusals.Disk false → now ≡ was)
