-- Entries that are changed one after another, as a commit and an abort change them.
use Rattle.std.specs.Prelude.{◌≡◌, ◌⊎◌, ℕ, ◌+◌, ◌≤◌, ◌≢◌, ◌==◌, ◌%◌, true, false, List, [], ◌∷◌, ◌++◌, IfErr, OnOk}
use Rattle.std.specs.Prelude.{Ok, Err, Result, IsSome, Option, Some, None, drop, length, option_to_list, take}
use Rattle.cfs_base.specs.Codes.{past_disk}
use Rattle.cfs_base.specs.Calls.{HasFailed, HasTried, MakesAtMost, OnlyReads}
use Rattle.cfs_base.specs.Disk.{Image, block_at}
use Rattle.cfs_base.specs.Refusals.{refused_by}
use Rattle.cfs_base.specs.declared.refusal.Refused.{Refused}
use Rattle.cfs_base.specs.Run.{IsSettled, Leaves, Tells}
use Rattle.cfs_base.specs.declared.disk.Disk.{Ghosts}
use Rattle.cfs_base.specs.declared.identifier.Puid.{Puid}
use Rattle.cfs_base.specs.declared.refusal.Trouble.{Trouble}
use Rattle.cfs_base.specs.declared.refusal.Trouble.TheVariants as trouble
use Rattle.block_tree.specs.Root.{root_spelling}
use Rattle.cyl_alloc.specs.Left.{LeftCommit}
use Rattle.cyl_alloc.specs.Space.{IsLeastFree, AreCounts, Kept, after_giving}
use Rattle.cyl_map.specs.Volume.{entry_in, is_free_in}
use Rattle.cyl_map.specs.Mapped.{IsMapped, mapped}
use Rattle.intentions.specs.Turned.{MayTurn, changed_if, turned}
use Rattle.intentions.specs.Course.{Course, IsCourse, IsOn, Keeps}
use Rattle.intentions.specs.Runs.{runs}
use Rattle.intentions.specs.declared.change.EntryChange.{EntryChange}
use Rattle.intentions.specs.declared.change.EntryChange.TheVariants.{Release, SetBit}
use Rattle.special_files.specs.Limits.{abort_calls, abort_tries, changed_reads, commit_calls, commit_tries}
use Rattle.ufs_model.specs.declared.object.Object.{Object}
use Rattle.ufs_model.specs.Graph.{Graph, object_at, with_object}
use Rattle.ufs_model.specs.Numbers.{has_number}
use Rattle.vol_image.specs.Commit.{IsDraft}
use Rattle.vol_image.specs.Run.{Carries}
use Rattle.vol_image.specs.Seen.{tree_in}
use Rattle.vol_image.specs.Part.{SameAt}
use Rattle.vol_image.specs.Reading.{bare_object}
use Rattle.vol_image.specs.Sound.{Holds, IsBareRoot}
use Rattle.intentions.specs.Left.{AreOpen, IsGoing, StoreIs, final_image}
use Rattle.intentions.specs.Store.{StoreHas}
use Rattle.vol_owners.specs.Account.{Drafts, HasItsBlocks, IsMadeRoot, Opened, StandsIn, content_of, is_meant_for}
use Rattle.vol_owners.specs.Account.{numbers_differ, without_draft}
use Rattle.vol_owners.specs.Change.{ChangesOnly, of_drafts, of_owners}
use Rattle.vol_owners.specs.Owner.{is_had, is_owned_by, is_taken}
use Rattle.block_tree.specs.declared.root.Root as roots
use Rattle.special_files.specs.Drafting.{Drafting}
use Rattle.block_tree.specs.Reads.{is_damage}
use Rattle.leaf_changes.specs.Tops.{IsFarRoot, Top, still_top}
use Rattle.special_files.specs.Refusal.{IsDraftDamage, IsDraftTrouble}

-- ---- entries changed

-- a device call failed after a write or barrier was tried, or a block that was read is damaged
abbrev pub CommitFails : {D : Type 0} → Ghosts D → Top → D → D → Kept → Trouble → Type 0
CommitFails g at old new kept (trouble.Disk tried) = (tried ≡ true) × HasFailed g old new
CommitFails g at old new kept (trouble.Damaged damage) = IsDraftDamage g at old new kept damage

-- The entries of these blocks are changed so, with at most n device calls, t of them writes and barriers.
pub record Flips {D : Type 0} (g : Ghosts D) (n t : ℕ) (how : EntryChange) (ns : List ℕ) (old new : D)
    (result : Result (Unit {0}) Trouble) : Type 0 where
  pub tells : Tells g old → OnOk result (Tells g new)
  -- if they may be changed on a course
  pub put : (course : Course) → IsCourse course → Keeps g course old → MayTurn course (g.content old) (λ m. how) ns
      → OnOk result (IsMapped (turned (λ m. how) ns) (g.content old) (g.content new))
  -- a run stays on its course, and each image that a crash leaves is on it
  pub keeps : (course : Course) → IsCourse course → Keeps g course old → MayTurn course (g.content old) (λ m. how) ns
      → OnOk result (Keeps g course new)
  pub leaves : (course : Course) → IsCourse course → Keeps g course old → MayTurn course (g.content old) (λ m. how) ns
      → Leaves g old new (IsOn course)
  -- no damage is met on it
  pub sound : (course : Course) → IsCourse course → Keeps g course old → MayTurn course (g.content old) (λ m. how) ns
      → IfErr result (λ t. is_damage t ≡ false)
  pub fails : (at : ℕ) (kept : Kept) → IfErr result (CommitFails g (still_top at) old new kept)
  pub calls : MakesAtMost g n t old new

-- The same for the first of these blocks, which lie in one map, by one read and one write of it. The result says how
-- many they are.
abbrev pub FlipsRun : {D : Type 0} → Ghosts D → EntryChange → List ℕ → D → D → Result ℕ Trouble → Type 0
FlipsRun g how ns old new (Ok i) = (i ≤ length ns) × (1 + runs (drop i ns) ≡ runs ns)
    × Flips g 2 1 how (take i ns) old new (Ok tt)
FlipsRun g how ns old new (Err t) = Flips g 2 1 how ns old new (Err t)

-- ---- counts

-- each of these blocks is counted as Free again
abbrev pub given_all : Kept → List ℕ → Kept
given_all kept [] = kept
given_all kept (n ∷ ns) = given_all (after_giving kept n 1) ns

-- ---- a commit

-- The image holds these objects. One of them has a draft whose root is in the shadow root s. `taken` has those blocks
-- of the draft's tree that are meant for the object, and `dropped` those of the object's own tree that the draft's
-- doesn't have. The root of the object that is made with the commit, if one is, exists.
pub record IsReady (a : Image) (graph : Graph) (id : Puid) (was o : Object) (s : ℕ) (taken dropped : List ℕ)
    (created : Option ℕ) : Type 0 where
  pub holds : Holds a graph
  pub at : object_at graph id ≡ Some was
  pub has : HasItsBlocks a id.block
  pub draft : IsDraft a id.block s o
  pub meant : (n : ℕ) → has_number n taken ≡ true → is_meant_for a id.block n ≡ true
  pub stands : (n : ℕ) → has_number n taken ≡ true → StandsIn (tree_in a (block_at a s)) n
  pub all : (n : ℕ) → is_meant_for a id.block n ≡ true → (n ≡ s) ⊎ (has_number n taken ≡ true)
  pub once : numbers_differ taken ≡ true
  pub own : (n : ℕ) → has_number n dropped ≡ true → StandsIn (tree_in a (block_at a id.block)) n
  pub gone : (n : ℕ) → has_number n dropped ≡ true → ¬ StandsIn (tree_in a (block_at a s)) n
  pub others : (n : ℕ) → StandsIn (tree_in a (block_at a id.block)) n
      → StandsIn (tree_in a (block_at a s)) n ⊎ (has_number n dropped ≡ true)
  pub dropped_once : numbers_differ dropped ≡ true
  pub made : (c : ℕ) → created ≡ Some c → IsMadeRoot a c

-- an image in which these blocks are released and the commit bit of root r is set
abbrev pub bit_set : Image → ℕ → List ℕ → Image
bit_set a r dropped = mapped (λ n e. changed_if (n == r) SetBit (turned (λ m. Release) dropped n e)) a

-- the identifier of an object with this root block
abbrev pub puid_at : ℕ → ℕ → Puid
puid_at block word = record { block = block; word = word }

-- the image holds these objects, or those with this one as it is afterwards
abbrev pub IsOldOrNew : (graph full : Graph) → Puid → Object → Image → Type 0
IsOldOrNew graph full id o c = Holds c graph ⊎ Holds c (with_object full id o)

-- From image a to image b the root of an object that is made became Allocated. It is all that has this owner.
pub record IsEntered (a b : Image) (c : ℕ) : Type 0 where
  pub had : is_owned_by is_had c (entry_in b c) ≡ true
  pub alone : (n : ℕ) → is_owned_by is_taken c (entry_in b n) ≡ true → n ≡ c
  pub same : SameAt a b c

-- One commit, of the object with this root block, is past its bit, and all of it is left.
pub record IsNoted (at : ℕ) (kept : Option LeftCommit) (l : LeftCommit) : Type 0 where
  pub is : kept ≡ Some l
  pub root : l.root ≡ at
  pub uncopied : l.copied ≡ false

-- If a commit is unfinished now, its bit was tried in this call, and no write waits for a barrier.
pub record IsAtBit {D : Type 0} (g : Ghosts D) (old new : D) (left : Option LeftCommit) : Type 0 where
  pub tried : IsSome left → HasTried g old new
  pub settled : IsSome left → Tells g old → IsSettled g new

-- From its commit bit on, which is durable, the draft of an object is the object, and what is left of the commit is
-- kept. In the image that is to come no block of the object waits for anything, and the root of the object that is
-- made with it exists.
pub record Decided {D : Type 0} (g : Ghosts D) (graph : Graph) (id : Puid) (o : Object) (s : ℕ) (created : Option ℕ)
    (old new : D) (after : Kept) : Type 0 where
  pub left : LeftCommit
  pub kept : IsNoted id.block after.left left
  pub going : IsGoing g (with_object graph id o) new after left
  pub opens : AreOpen (id.block ∷ option_to_list created) (g.content new) left.rest
  pub settled : IsSettled g new
  pub holds : Holds (final_image g new after) (with_object graph id o)
  pub has : HasItsBlocks (final_image g new after) id.block
  pub none_meant : (n : ℕ) → is_meant_for (final_image g new after) id.block n ≡ false
  pub made : (c : ℕ) → created ≡ Some c → IsEntered (g.content old) (final_image g new after) c
  pub only : ChangesOnly (λ entry. of_owners (id.block ∷ option_to_list created) entry) (g.content old)
      (final_image g new after)
  pub tree : tree_in (final_image g new after) (block_at (final_image g new after) id.block)
      ≡ tree_in (g.content old) (block_at (g.content old) s)
  pub stays : (n : ℕ) → n % 64 ≢ 0 → n ≢ id.block → block_at (final_image g new after) n ≡ block_at (g.content old) n
  pub copied : block_at (final_image g new after) id.block ≡ block_at (g.content old) s
  pub given_back : is_free_in (final_image g new after) s ≡ true

-- A draft that is ready becomes its object. Each image that a crash leaves on the way has all old, or all new, and no
-- damage is met.
pub record FinishesCommit {D : Type 0} (g : Ghosts D) (at s : ℕ) (taken dropped : List ℕ) (created : Option ℕ)
    (old new : D)
    (before after : Kept) (result : Result (Unit {0}) Trouble) : Type 0 where
  pub done : (graph full : Graph) (word : ℕ) (was o : Object) → Carries g graph old
      → AreCounts (g.content old) before
      → IsReady (g.content old) full (puid_at at word) was o s taken dropped created
      → OnOk result (Decided g full (puid_at at word) o s created old new after)
  pub leaves : (graph full : Graph) (word : ℕ) (was o : Object) → Carries g graph old
      → AreCounts (g.content old) before
      → IsReady (g.content old) full (puid_at at word) was o s taken dropped created
      → Leaves g old new (IsOldOrNew graph full (puid_at at word) o)
  pub sound : (graph full : Graph) (word : ℕ) (was o : Object) → Carries g graph old
      → AreCounts (g.content old) before
      → IsReady (g.content old) full (puid_at at word) was o s taken dropped created
      → IfErr result (λ t. is_damage t ≡ false)

-- the draft in memory leads past the disk
abbrev pub far_root : ℕ → Trouble
far_root at = trouble.Damaged (record { block = at; code = past_disk })

-- ---- an object that is made with a commit

pub record Making : Type 0 where
  pub id : Puid
  pub object : Object

-- the root block of the object that is made, if one is
abbrev pub making_root : Option Making → Option ℕ
making_root None = None
making_root (Some m) = Some m.id.block

abbrev pub with_making : Graph → Option Making → Graph
with_making graph None = graph
with_making graph (Some m) = with_object graph m.id m.object

-- The draft makes no object, or this one, whose root is written and leads to nothing.
abbrev pub Makes : Image → Option ℕ → Option Making → Type 0
Makes image created None = created ≡ None
Makes image created (Some m) = (created ≡ Some m.id.block) × ((root : roots.Root) × IsBareRoot image m.id root
    × (bare_object root ≡ m.object))

-- The least Free block of image a was taken for a shadow root of the object with this root block. In image b it is
-- Free again, and has the content that was copied from it to the root block.
pub record TakesShadow (at : ℕ) (a b : Image) : Type 0 where
  pub shadow : ℕ
  pub least : IsLeastFree a shadow
  pub given_back : is_free_in b shadow ≡ true
  pub copied : block_at b shadow ≡ block_at b at

-- The store has this object in the place of its draft, and the object that is made with it. No write waits for a
-- barrier. In the image that is to come only blocks of these objects and Free blocks changed.
pub record Committed {D : Type 0} (g : Ghosts D) (graph : Graph) (ds : Drafts) (id : Puid) (o : Object)
    (made : Option Making) (old new : D) (space : Kept) : Type 0 where
  pub store : StoreIs g (with_object (with_making graph made) id o) (without_draft id ds) new space
  pub settled : IsSettled g new
  pub only : ChangesOnly (λ entry. of_owners (id.block ∷ option_to_list (making_root made)) entry) (g.content old)
      (final_image g new space)
  -- the object's tree is the draft's: each node and leaf is where it was, in the same block, with its part and
  -- content
  pub tree : (d : Opened) → ds id ≡ Some d → tree_in (final_image g new space)
      (block_at (final_image g new space) id.block) ≡ tree_in (g.content old) (content_of d)
  -- a draft without a shadow root took the least Free block for it, and gave it back
  pub order : (d : Opened) → ds id ≡ Some d → d.shadow ≡ None
      → TakesShadow id.block (g.content old) (final_image g new space)
  -- the object's root is the draft's
  pub root : (d : Opened) → ds id ≡ Some d
      → block_at (final_image g new space) id.block ≡ root_spelling d.root

-- how a commit ends if the store has the draft
pub record CommitEnds {D : Type 0} (g : Ghosts D) (graph : Graph) (ds : Drafts) (id : Puid) (o : Object)
    (made : Option Making) (old new : D) (space : Kept) (result : Result (Unit {0}) Trouble) : Type 0 where
  pub done : OnOk result (Committed g graph ds id o made old new space)
  pub leaves : Leaves g old new (IsOldOrNew graph (with_making graph made) id o)
  pub sound : IfErr result (λ t. is_damage t ≡ false)

-- the parts of a draft as the layers above see it: where its root and its shadow root are, its two roots, and what it
-- makes
pub record AreDraftParts (was : Drafting) (at : ℕ) (shadow : Option ℕ) (own root : roots.Root)
    (created : Option ℕ) : Type 0 where
  pub at_is : was.at ≡ at
  pub shadow_is : was.shadow ≡ shadow
  pub own_is : was.own ≡ own
  pub root_is : was.root ≡ root
  pub created_is : was.created ≡ created

-- the same result as that of a call that takes blocks
abbrev pub as_refused : {A : Type 0} → Result A Trouble → Result A Refused
as_refused (Ok x) = Ok x
as_refused (Err t) = Err (refused_by t)

-- ---- an abort

-- the blocks that were claimed for it
abbrev pub undoing : List ℕ → Option ℕ → Option ℕ → List ℕ
undoing taken shadow made = taken ++ (option_to_list shadow ++ option_to_list made)

-- The store no longer has a draft of the object. Only blocks that were meant for it changed, and the root of the
-- object that was to be made with it, which is Free.
pub record Dropped {D : Type 0} (g : Ghosts D) (graph : Graph) (ds : Drafts) (id : Puid) (created : Option ℕ)
    (old new : D) (space : Kept) : Type 0 where
  pub store : StoreHas g graph (without_draft id ds) new space
  pub freed : (c : ℕ) → created ≡ Some c → is_free_in (g.content new) c ≡ true
  pub only : ChangesOnly (λ entry. of_drafts (id.block ∷ option_to_list created) entry) (g.content old) (g.content new)

-- how an abort ends if the store has the draft
pub record AbortEnds {D : Type 0} (g : Ghosts D) (graph : Graph) (ds : Drafts) (id : Puid) (created : Option ℕ)
    (old new : D) (space : Kept) (result : Result (Unit {0}) Trouble) : Type 0 where
  pub done : OnOk result (Dropped g graph ds id created old new space)
  pub leaves : Leaves g old new (λ c. Holds c graph)
  pub sound : IfErr result (λ t. is_damage t ≡ false)

-- ---- a draft that leads past the disk

-- there is such a block, and it is past a disk of this size
pub record IsFar (size : ℕ) (block : Option ℕ) : Type 0 where
  pub n : ℕ
  pub is : block ≡ Some n
  pub far : size ≤ n

-- a node of its object's root or of its own root is past the disk, or its shadow root, or the root that is made with
-- it
pub data IsFarPart (size : ℕ) (shadow : Option ℕ) (own root : roots.Root) (created : Option ℕ) : Type 0 where
  FarRoots : IsFarRoot size own ⊎ IsFarRoot size root → IsFarPart size shadow own root created
  FarShadow : IsFar size shadow → IsFarPart size shadow own root created
  FarMade : IsFar size created → IsFarPart size shadow own root created

-- the draft of an object with its root at this block
abbrev pub parts_top : (at : ℕ) (shadow : Option ℕ) (own root : roots.Root) (created : Option ℕ) → Top
parts_top at shadow own root created =
    record { block = at; IsFar = λ size. IsFarPart size shadow own root created }

abbrev pub made_top : (at : ℕ) (created : Option ℕ) → Top
made_top at created = record { block = at; IsFar = λ size. IsFar size created }

abbrev pub draft_top : Drafting → Top
draft_top was = parts_top was.at was.shadow was.own was.root was.created

-- ---- how they end on any disk

-- A commit. If it is done it had tried something. Past its bit no write waits for a barrier, on any disk that tells
-- its content, and what is left of it is kept.
pub record CommitsSo {D : Type 0} (g : Ghosts D) (at : Top) (n t : ℕ) (old new : D) (before after : Kept)
    (result : Result (Unit {0}) Trouble) : Type 0 where
  pub refused : IfErr result (IsDraftTrouble g at old new after)
  pub made : OnOk result (HasTried g old new)
  pub settled : Tells g old → OnOk result (IsSettled g new)
  pub cylinders : length after.free ≡ length before.free
  pub left : OnOk result ((l : LeftCommit) × IsNoted at.block after.left l)
  pub calls : MakesAtMost g n t old new

-- a commit of a draft
pub record CommitCall {D : Type 0} (g : Ghosts D) (was : Drafting) (old new : D) (before after : Kept)
    (result : Result (Unit {0}) Trouble) : Type 0 where
  pub ends : CommitsSo g (draft_top was) commit_calls commit_tries old new before after result
  -- if the draft has a shadow root and a device call failed, a write or a barrier was tried
  pub tried : was.shadow ≢ None → IfErr result (λ t. t ≢ trouble.Disk false)
  -- if a call failed before the first try, only reads were made
  pub untried : IfErr result (λ t. t ≡ trouble.Disk false → (after ≡ before) × OnlyReads g (1 + changed_reads) old new)

-- a commit of a draft that equalled its object until one slot was filled
abbrev pub SwapCall : {D : Type 0} → Ghosts D → Drafting → D → D → Kept → Kept → Result (Unit {0}) Trouble → Type 0
SwapCall g was old new before after result =
    CommitsSo g (made_top was.at was.created) 11 7 old new before after result

-- an abort: if a device call failed, a write or a barrier was tried
pub record AbortCall {D : Type 0} (g : Ghosts D) (was : Drafting) (old new : D) (before after : Kept)
    (result : Result (Unit {0}) Trouble) : Type 0 where
  pub refused : IfErr result (IsDraftTrouble g (draft_top was) old new after)
  pub tried : IfErr result (λ t. t ≢ trouble.Disk false)
  pub made : OnOk result (HasTried g old new)
  pub cylinders : length after.free ≡ length before.free
  pub left : after.left ≡ before.left
  pub calls : MakesAtMost g abort_calls abort_tries old new
