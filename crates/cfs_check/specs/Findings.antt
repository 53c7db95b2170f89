-- What may be wrong with a block of an object's tree, looked at by itself.
use Rattle.std.specs.Prelude.{◌≡◌, ◌≢◌, ◌⊎◌, ℕ, ◌+◌, ◌*◌, ◌<◌, ◌≤◌, Bool, true, false, List, length, MatchBool, Some}
use Rattle.std.specs.List.{Contains}
use Rattle.cfs_base.specs.Codes as codes
use Rattle.cfs_base.specs.Disk.{Image, block_at}
use Rattle.cfs_base.specs.declared.identifier.Puid.{Puid}
use Rattle.cfs_base.specs.declared.kind.Kind.TheVariants as kinds
use Rattle.cfs_base.specs.declared.kind.Place.TheVariants as places
use Rattle.block_tree.specs.Pointers.{leaf_pointers}
use Rattle.block_tree.specs.Root.{IsRootBlock}
use Rattle.block_tree.specs.Tree.{pointer}
use Rattle.block_tree.specs.declared.root.Root.{Root}
use Rattle.ufs_model.specs.Numbers.{has_number}
use Rattle.ufs_model.specs.Object.{leaves_in}
use Rattle.vol_image.specs.Fault.{NamesNothing, NamesRoot}
use Rattle.vol_image.specs.Part.{BelongsTo, part_at}
use Rattle.vol_image.specs.Reading.{slot_in}
use Rattle.cfs_recover.specs.Checks.{IsNotFilled}
use Rattle.cfs_check.specs.Twigs.{Extent, Twig}
use Rattle.cfs_check.specs.declared.findings.Findings.{Findings}

-- ---- a block that an identifier names

-- it is a root
abbrev pub IsSomeRoot : List ℕ → Type 0
IsSomeRoot content = (root : Root) × IsRootBlock content root

-- it is a root of another word
abbrev pub IsOtherRoot : List ℕ → (word : ℕ) → Type 0
IsOtherRoot content word = (root : Root) × IsRootBlock content root × (root.word ≢ word)

-- it is a root of this word, or none
abbrev pub IsNoOtherRoot : List ℕ → (word : ℕ) → Type 0
IsNoOtherRoot content word = (root : Root) → IsRootBlock content root → root.word ≡ word

-- ---- slots of a leaf with this number

-- the slot is within the size, and has this identifier
pub record HasIdInSlot (extent : Extent) (leaf : ℕ) (content : List ℕ) (slot : ℕ) (x : Puid) : Type 0 where
  pub small : slot < 64
  pub within : 512 * leaf + 8 * slot < extent.size
  pub is : slot_in content slot ≡ Some x

-- one of the first slots, below `below`, has an identifier that names nothing
pub record HasBadSlot (image : Image) (extent : Extent) (leaf : ℕ) (content : List ℕ) (below : ℕ) : Type 0 where
  pub slot : ℕ
  pub id : Puid
  pub before : slot < below
  pub has : HasIdInSlot extent leaf content slot id
  pub nothing : NamesNothing image id

-- each root that these slots name was found
abbrev pub NamesFound : Image → (found : List ℕ) → Extent → (leaf : ℕ) → List ℕ → (below : ℕ) → Type 0
NamesFound image found extent leaf content below =
    (slot : ℕ) (x : Puid) → slot < below → HasIdInSlot extent leaf content slot x → NamesRoot image x
    → has_number x.block found ≡ true

-- ---- a block to which a pointer leads

-- it is on the disk, a leaf with this number
pub record IsLeafTwig (image : Image) (t : Twig) (leaf : ℕ) : Type 0 where
  pub on_disk : t.spot.block < length image
  pub place : t.spot.place ≡ places.Leaf leaf

-- a node
pub record IsNodeTwig (image : Image) (t : Twig) : Type 0 where
  pub on_disk : t.spot.block < length image
  pub number : ℕ
  pub place : t.spot.place ≡ places.Node number

abbrev pub twig_content : Image → Twig → List ℕ
twig_content image t = block_at image t.spot.block

abbrev pub IsPastDisk : Image → Twig → Type 0
IsPastDisk image t = length image ≤ t.spot.block

abbrev pub IsNotOwned : Image → Twig → Type 0
IsNotOwned image t =
    (t.spot.block < length image) × ¬ BelongsTo t.spot.owner t.spot.place (part_at image t.spot.block)

abbrev pub HasBadName : Image → Twig → Type 0
HasBadName image t = (leaf : ℕ) × IsLeafTwig image t leaf × (t.extent.kind ≡ kinds.Index)
    × HasBadSlot image t.extent leaf (twig_content image t) 64

abbrev pub IsLateLeaf : Image → Twig → Type 0
IsLateLeaf image t = (leaf : ℕ) × IsLeafTwig image t leaf × (leaves_in t.extent.size ≤ leaf)

abbrev pub HasLateByte : Image → Twig → Type 0
HasLateByte image t = (leaf : ℕ) × IsLeafTwig image t leaf
    × IsNotFilled t.extent.size t.extent.fill leaf (twig_content image t)

abbrev pub IsDeadEnd : Image → Twig → Type 0
IsDeadEnd image t = IsNodeTwig image t × ((j : ℕ) → pointer leaf_pointers (twig_content image t) j ≡ 0)

-- a fault of the block, with its number and the block that it names
pub data TwigFault (image : Image) (t : Twig) : ℕ → ℕ → Type 0 where
  PastDisk : IsPastDisk image t → TwigFault image t codes.past_disk t.spot.holder
  NotOwned : IsNotOwned image t → TwigFault image t codes.not_owned t.spot.block
  BadName : HasBadName image t → TwigFault image t codes.names_nothing t.spot.block
  LateLeaf : IsLateLeaf image t → TwigFault image t codes.late_leaf t.spot.block
  LateByte : HasLateByte image t → TwigFault image t codes.late_byte t.spot.block
  DeadEnd : IsDeadEnd image t → TwigFault image t codes.dead_end t.spot.block

-- ---- what is found of it

-- `told` says whether P holds
abbrev pub Decides : Bool → Type 0 → Type 0
Decides told P = MatchBool told P (¬ P)

-- what is found of its content
pub record IsLookAtContent (image : Image) (found : List ℕ) (t : Twig) (f : Findings) : Type 0 where
  pub names_nothing : Decides f.names_nothing (HasBadName image t)
  pub late_leaf : Decides f.late_leaf (IsLateLeaf image t)
  pub late_byte : Decides f.late_byte (HasLateByte image t)
  pub dead_end : Decides f.dead_end (IsDeadEnd image t)
  -- if it names nothing new, all that it names was found
  pub names_new : f.names_new ≡ false → (leaf : ℕ) → IsLeafTwig image t leaf → t.extent.kind ≡ kinds.Index
      → NamesFound image found t.extent leaf (twig_content image t) 64

pub record IsLookAt (image : Image) (found : List ℕ) (t : Twig) (f : Findings) : Type 0 where
  pub not_owned : Decides f.not_owned (IsNotOwned image t)
  pub content : IsLookAtContent image found t f

-- ---- the same for a leaf with this number

pub record IsLookAtLeaf (image : Image) (found : List ℕ) (extent : Extent) (leaf : ℕ) (content : List ℕ)
    (f : Findings) : Type 0 where
  pub names_nothing : Decides f.names_nothing
      ((extent.kind ≡ kinds.Index) × HasBadSlot image extent leaf content 64)
  pub late_leaf : Decides f.late_leaf (leaves_in extent.size ≤ leaf)
  pub late_byte : Decides f.late_byte (IsNotFilled extent.size extent.fill leaf content)
  pub names_new : f.names_new ≡ false → extent.kind ≡ kinds.Index → NamesFound image found extent leaf content 64
  pub dead_end : f.dead_end ≡ false

-- what is found of its first slots
pub record IsLookAtSlots (image : Image) (found : List ℕ) (extent : Extent) (leaf : ℕ) (content : List ℕ) (below : ℕ)
    (bad new : Bool) : Type 0 where
  pub names_nothing : Decides bad (HasBadSlot image extent leaf content below)
  pub names_new : new ≡ false → NamesFound image found extent leaf content below

-- what is found of one slot
pub record IsLookAtSlot (image : Image) (found : List ℕ) (content : List ℕ) (slot : ℕ) (bad new : Bool) : Type 0 where
  pub names_nothing : Decides bad ((x : Puid) × (slot_in content slot ≡ Some x) × NamesNothing image x)
  pub names_new : new ≡ false → (x : Puid) → slot_in content slot ≡ Some x → NamesRoot image x
      → has_number x.block found ≡ true

-- ---- a root block that a slot names

pub record IsNamedBy (image : Image) (extent : Extent) (leaf : ℕ) (content : List ℕ) (below n : ℕ) : Type 0 where
  pub slot : ℕ
  pub id : Puid
  pub before : slot < below
  pub has : HasIdInSlot extent leaf content slot id
  pub names : NamesRoot image id
  pub is : id.block ≡ n

-- the block is a leaf of an index that names the root block
pub record IsNamedByTwig (image : Image) (t : Twig) (n : ℕ) : Type 0 where
  pub leaf : ℕ
  pub is_leaf : IsLeafTwig image t leaf
  pub index : t.extent.kind ≡ kinds.Index
  pub named : IsNamedBy image t.extent leaf (twig_content image t) 64 n

-- a fault that was found of this block
pub data IsToldBy (f : Findings) (block : ℕ) : ℕ → ℕ → Type 0 where
  NotOwned : f.not_owned ≡ true → IsToldBy f block codes.not_owned block
  BadName : f.names_nothing ≡ true → IsToldBy f block codes.names_nothing block
  LateLeaf : f.late_leaf ≡ true → IsToldBy f block codes.late_leaf block
  LateByte : f.late_byte ≡ true → IsToldBy f block codes.late_byte block
  DeadEnd : f.dead_end ≡ true → IsToldBy f block codes.dead_end block

-- the slot names the root block
pub record IsNamedInSlot (image : Image) (content : List ℕ) (slot n : ℕ) : Type 0 where
  pub id : Puid
  pub has : slot_in content slot ≡ Some id
  pub names : NamesRoot image id
  pub is : id.block ≡ n

-- if it isn't found that the block names new root blocks, all that it names were found
abbrev pub NamesOnlyKnown : Image → (found : List ℕ) → Twig → (new : Bool) → Type 0
NamesOnlyKnown image found t new = new ≡ false → (n : ℕ) → IsNamedByTwig image t n → has_number n found ≡ true

-- the blocks that hold the pointers are on the disk
abbrev pub HoldersAreOn : Image → List Twig → Type 0
HoldersAreOn image ts = (t : Twig) → Contains ts t → t.spot.holder < length image
