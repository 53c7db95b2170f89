-- What a damage says: which block is outside its table, and how.
use Rattle.std.specs.Prelude.{◌≡◌, ◌⊎◌, ℕ, ◌+◌, ◌*◌, ◌<◌, ◌≤◌, Bool, true, false, length, sum, Ok, Option, Some, None}
use Rattle.cfs_base.specs.Calls.{OnlyReads}
use Rattle.cfs_base.specs.Codes.{no_entry, no_root, not_owned, other_count, past_disk, too_full}
use Rattle.cfs_base.specs.Disk.{Image, block_at}
use Rattle.cfs_base.specs.Run.{Tells}
use Rattle.cfs_base.specs.declared.disk.Disk.{Ghosts}
use Rattle.cfs_base.specs.declared.identifier.Puid.{Puid}
use Rattle.cfs_base.specs.declared.refusal.Damage.{Damage}
use Rattle.block_tree.specs.Pointers.{node_pointers}
use Rattle.block_tree.specs.Root.{IsRootBlock, root_spelling}
use Rattle.block_tree.specs.declared.root.Root.{Root}
use Rattle.block_tree.specs.Tree.{LeadsPast}
use Rattle.collector_steps.specs.Collecting.{Collecting, colours_in}
use Rattle.cyl_alloc.specs.Left.{LeftCommit}
use Rattle.cyl_map.specs.Volume.{is_free_in, map_of}
use Rattle.cyl_alloc.specs.Space.{AreCounts, IsBadMap, IsMiscounted, Kept}
use Rattle.leaf_changes.specs.Tops.{IsFarBlock}
use Rattle.marking.specs.Colours.{first_grey}
use Rattle.marking.specs.declared.memory.Grey.{Grey}
use Rattle.puid_space.specs.Directory.{has_root_in}
use Rattle.special_files.specs.Committing.{IsFarPart}
use Rattle.special_files.specs.Drafting.{Drafting}
use Rattle.special_files.specs.Refusal.{IsFarNode}
use Rattle.ufs_model.specs.declared.asked.Request.{Request}
use Rattle.ufs_model.specs.declared.asked.Request.TheVariants as asks
use Rattle.ufs_model.specs.Outcome.{creates}
use Rattle.cfs_core.specs.Claimed.{is_set_size}
use Rattle.cfs_core.specs.Finished.{FinishesLeft}
use Rattle.cfs_core.specs.Kernel.{Kernel}
use Rattle.cfs_core.specs.Handles.{drafting_at, root_at}

-- how many bytes the root must have to which the request goes
abbrev pub bytes_wanted : Option Request → ℕ
bytes_wanted None = 0
bytes_wanted (Some (asks.Retain index slot id)) = 8 * slot + 8
bytes_wanted (Some (asks.Retrieve index slot)) = 0
bytes_wanted (Some (asks.Delete index slot)) = 8 * slot + 8
bytes_wanted (Some (asks.Slots index)) = 0
bytes_wanted (Some (asks.CreateFile kind fill index slot)) = 8 * slot + 8
bytes_wanted (Some (asks.CreateIndex slots index slot)) = 8 * slot + 8
bytes_wanted (Some (asks.OpenFor id mode)) = 0
bytes_wanted (Some (asks.Close grant commit)) = 0
bytes_wanted (Some (asks.Read file offset count)) = 0
bytes_wanted (Some (asks.Write file offset bytes)) = offset + length bytes
bytes_wanted (Some (asks.Size file)) = 0
bytes_wanted (Some (asks.Resize file size)) = 0

-- In this image, of a disk of this size, the block is outside its table, if the disk tells it: that of the maps, of
-- an object whose root must have this many bytes, or of an index.
pub data IsOutside (Told : Type 0) (image : Image) (size : ℕ) (IsRoot : ℕ → Type 0) (bytes : ℕ)
    (damage : Damage) : Type 0 where
  -- the bytes of a map's entry spell no entry
  NoEntry : damage.code ≡ no_entry → damage.block ≡ map_of damage.block → (Told → IsBadMap image damage.block)
      → IsOutside Told image size IsRoot bytes damage
  -- the block is no root of this many bytes
  NoRoot : damage.code ≡ no_root → IsRoot damage.block
      → (Told → (root : Root) → IsRootBlock (block_at image damage.block) root → root.size < bytes)
      → IsOutside Told image size IsRoot bytes damage
  -- a node that has a pointer past the disk
  FarNode : damage.code ≡ past_disk → (Told → IsFarNode size image damage.block)
      → IsOutside Told image size IsRoot bytes damage
  -- the same for a root that the disk has
  FarRoot : damage.code ≡ past_disk → IsRoot damage.block
      → (Told → IsFarBlock size image node_pointers damage.block) → IsOutside Told image size IsRoot bytes damage
  -- the same for a block of the tree of a root that the disk has
  FarBelow : damage.code ≡ past_disk → (at : ℕ) → IsRoot at
      → (Told → LeadsPast image size (block_at image at) at damage.block)
      → IsOutside Told image size IsRoot bytes damage

-- there is a draft of the object with this root
abbrev pub IsOfDraft : {D : Type 0} → Kernel D → ℕ → Type 0
IsOfDraft k at = (draw : ℕ) × (was : Drafting) × (drafting_at k.handles draw ≡ Some was) × (was.at ≡ at)

-- it is the root of the first index that is grey
abbrev pub IsOfGrey : {D : Type 0} → Kernel D → ℕ → Type 0
IsOfGrey k at = (c : Collecting) × (e : Grey) × (k.collections.collector ≡ Some c)
    × (first_grey (colours_in c) ≡ Some e) × (e.id.block ≡ at)

-- it is the shadow root of the commit that is left
abbrev pub IsOfCommit : {D : Type 0} → Kernel D → ℕ → Type 0
IsOfCommit k at = (l : LeftCommit) × (k.space.left ≡ Some l) × (l.shadow ≡ at)

-- During a request it is the root of an object that has a name, or of one that has a draft, or the shadow root that
-- stands in for one. During a step of the collector it is that of a grey index, and while a session leaves that of an
-- object that has a draft.
abbrev pub IsRootHere : {D : Type 0} → Kernel D → Option Request → ℕ → Type 0
IsRootHere k None at = IsOfDraft k at ⊎ IsOfGrey k at
IsRootHere k (Some request) at = (has_root_in k.directory.named at ≡ true) ⊎ (IsOfDraft k at ⊎ IsOfCommit k at)

abbrev pub asks_delete : Request → Bool
asks_delete (asks.Delete index slot) = true
asks_delete request = false

-- fewer blocks were counted Free than a delete takes, or none is left after a resize
abbrev pub FindsFew : Option Request → (before after : ℕ) → Type 0
FindsFew None before after = ⊥
FindsFew (Some request) before after =
    ((asks_delete request ≡ true) × (before < 3)) ⊎ ((is_set_size request ≡ true) × (after ≡ 0))

-- A damage that is met in a call, for a request or for none. If the disk tells its content, it is so in what the disk
-- had before the call or has after it.
pub data IsDamageTold {D : Type 0} (g : Ghosts D) (old new : Kernel D) (request : Option Request)
    (damage : Damage) : Type 0 where
  Before : IsOutside (Tells g old.disk) (g.content old.disk) (g.blocks old.disk) (IsRootHere old request)
      (bytes_wanted request) damage → IsDamageTold g old new request damage
  After : IsOutside (Tells g old.disk) (g.content new.disk) (g.blocks old.disk) (IsRootHere old request)
      (bytes_wanted request) damage → IsDamageTold g old new request damage
  -- the first map's own block is Free by that map
  OpenMap : damage.code ≡ no_entry → damage.block ≡ 0 → (Tells g old.disk → AreCounts (g.content old.disk) old.space
      → (is_free_in (g.content old.disk) 0 ≡ true) ⊎ (is_free_in (g.content new.disk) 0 ≡ true))
      → IsDamageTold g old new request damage
  -- a map has no Free block, though some of its blocks are counted Free
  OtherCount : damage.code ≡ other_count → IsMiscounted (Tells g old.disk) (g.content new.disk) new.space damage.block
      → IsDamageTold g old new request damage
  -- a draft leads past the disk, as it is in memory: by its object's root, its own root, its shadow root or what it
  -- makes
  FarDraft : damage.code ≡ past_disk → (draw : ℕ) (was : Drafting) → drafting_at old.handles draw ≡ Some was
      → damage.block ≡ was.at → IsFarPart (g.blocks new.disk) was.shadow was.own was.root was.created
      → IsDamageTold g old new request damage
  -- a Free block was taken for a new object that is the root of an object, or no block of the disk
  NotOwned : (made : Request) → request ≡ Some made → creates made ≡ true → damage.code ≡ not_owned
      → (damage.block ≡ 0)
      ⊎ ((g.blocks old.disk ≤ damage.block) ⊎ (has_root_in old.directory.named damage.block ≡ true))
      → IsDamageTold g old new request damage
  -- in a step of the collector, a block of the tree of a draft has a pointer past the disk
  FarDrafted : damage.code ≡ past_disk → (id : Puid) (root : Root) → IsRootHere old request id.block
      → root_at old.handles id ≡ Some root
      → (Tells g old.disk
      → LeadsPast (g.content old.disk) (g.blocks old.disk) (root_spelling root) id.block damage.block)
      → IsDamageTold g old new request damage
  FewLeft : damage.code ≡ too_full → damage.block ≡ 0 → FindsFew request (sum old.space.free) (sum new.space.free)
      → IsDamageTold g old new request damage

-- It is so for the core as it was; or after reads, once what was left of a commit was carried out.
pub data IsMet {D : Type 0} (g : Ghosts D) (old : Kernel D) (Is : Kernel D → Type 0) : Type 0 where
  AtOnce : Is old → IsMet g old Is
  Afterwards : (n : ℕ) (read disk : D) (space : Kept) → OnlyReads g n old.disk read
      → FinishesLeft g read disk old.space space (Ok true) → Is (record old { disk = disk; space = space })
      → IsMet g old Is

-- a damage that is met in a request, which may first have carried out what was left of a commit
abbrev pub IsDamageMet : {D : Type 0} → Ghosts D → (old new : Kernel D) → Request → Damage → Type 0
IsDamageMet g old new request damage = IsMet g old (λ k. IsDamageTold g k new (Some request) damage)
