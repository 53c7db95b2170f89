-- What is looked at as a volume is surveyed: root blocks, and blocks of objects' trees.
use Rattle.std.specs.Prelude.{◌≡◌, ◌≢◌, ◌⊎◌, ℕ, ◌*◌, ◌<◌, ◌≤◌, Bool, true, false, List, length, get_or}
use Rattle.std.specs.List.{Contains}
use Rattle.cfs_base.specs.Codes as codes
use Rattle.cfs_base.specs.Disk.{Image, block_at}
use Rattle.cfs_base.specs.declared.identifier.Puid.{Puid}
use Rattle.cfs_base.specs.declared.kind.Place.{Place}
use Rattle.cfs_base.specs.declared.kind.Place.TheVariants as places
use Rattle.block_tree.specs.declared.root.Root.{Root}
use Rattle.ufs_model.specs.Numbers.{has_number}
use Rattle.vol_image.specs.Fault.{HasNoRoot, HasRootSlots, IsReachedIn, IsShownRoot, standing}
use Rattle.vol_image.specs.Part.{BelongsTo, is_fixed, part_at}
use Rattle.cfs_check.specs.Findings.{IsNamedByTwig, TwigFault}
use Rattle.cfs_check.specs.Marks.{is_marked}
use Rattle.cfs_check.specs.Roots.{Found}
use Rattle.cfs_check.specs.Twigs.{IsShownBy, Twig, twigs_of}
use Rattle.cfs_check.specs.Uses.{Use}
use Rattle.cfs_check.specs.declared.survey.Survey.{Survey}
use Rattle.cfs_check.specs.declared.uses.Use.TheVariants as uses

pub data Item : Type 0 where
  AtRoot : ℕ → Item
  AtTwig : Twig → Item

-- ---- what is wrong with one

-- what is wrong with a root block, except with its shadow roots
pub data RootFault (image : Image) (r : ℕ) : ℕ → ℕ → Type 0 where
  NoRoot : HasNoRoot (block_at image r) → RootFault image r codes.no_root r
  NotOwned : ¬ BelongsTo r places.Root (part_at image r) → RootFault image r codes.not_owned r
  TwoShadows : 2 ≤ length (standing image r) → RootFault image r codes.two_shadows r
  OtherIndex : (root : Root) → r ≡ 2 → IsShownRoot image r root → ¬ HasRootSlots root
      → RootFault image r codes.names_nothing r

abbrev pub ItemFault : Image → Item → (code block : ℕ) → Type 0
ItemFault image (AtRoot r) = RootFault image r
ItemFault image (AtTwig t) = TwigFault image t

-- ---- what it uses, and which root blocks it names

abbrev pub ItemUses : Image → Item → (owner : ℕ) → Place → (n : ℕ) → Type 0
ItemUses image (AtRoot r) owner place n = (owner ≡ r) × (place ≡ places.Root) × (n ≡ r)
ItemUses image (AtTwig t) owner place n =
    (n < length image) × (owner ≡ t.spot.owner) × (place ≡ t.spot.place) × (n ≡ t.spot.block)

abbrev pub ItemNames : Image → Item → (n : ℕ) → Type 0
ItemNames image (AtRoot r) n = ⊥
ItemNames image (AtTwig t) n = IsNamedByTwig image t n

-- ---- what some of them say

pub record IsFaultIn (image : Image) (items : List Item) (code n : ℕ) : Type 0 where
  pub item : Item
  pub its : Contains items item
  pub fault : ItemFault image item code n

pub record IsUsedIn (image : Image) (items : List Item) (n owner : ℕ) (place : Place) : Type 0 where
  pub item : Item
  pub its : Contains items item
  pub uses : ItemUses image item owner place n

-- a block has two uses
pub record IsUsedTwiceIn (image : Image) (items : List Item) (n : ℕ) : Type 0 where
  pub owner : ℕ
  pub other : ℕ
  pub place : Place
  pub place_of_other : Place
  pub used : IsUsedIn image items n owner place
  pub used_too : IsUsedIn image items n other place_of_other
  pub differs : ¬ ((owner ≡ other) × (place ≡ place_of_other))

pub record IsNamedIn (image : Image) (items : List Item) (n : ℕ) : Type 0 where
  pub item : Item
  pub its : Contains items item
  pub names : ItemNames image item n

-- ---- what is known once they were looked at

abbrev pub IsUseOf : Image → List Item → (n : ℕ) → Use → Type 0
IsUseOf image items n uses.Free = (is_fixed n ≡ false)
    × ((owner : ℕ) (place : Place) → ¬ IsUsedIn image items n owner place)
IsUseOf image items n uses.Fixed = (is_fixed n ≡ true)
    × ((owner : ℕ) (place : Place) → ¬ IsUsedIn image items n owner place)
IsUseOf image items n (uses.By r p) = (is_fixed n ≡ false) × IsUsedIn image items n r p
    × ((owner : ℕ) (place : Place) → IsUsedIn image items n owner place → (r ≡ owner) × (p ≡ place))
IsUseOf image items n uses.Twice = IsUsedTwiceIn image items n
    ⊎ ((is_fixed n ≡ true) × ((owner : ℕ) × (place : Place) × IsUsedIn image items n owner place))

-- what blocks are used for, and which root blocks are found: block 2, and those that are named
pub record HasFound (image : Image) (items : List Item) (of : List Use) (roots : Found) : Type 0 where
  pub room : roots.room ≡ length image
  pub size : length of ≡ length image
  pub uses : (n : ℕ) → n < length image → IsUseOf image items n (get_or of n uses.Free)
  pub found : (n : ℕ) → has_number n roots.blocks ≡ true → (n ≡ 2) ⊎ IsNamedIn image items n
  pub first : has_number 2 roots.blocks ≡ true
  pub named : (n : ℕ) → IsNamedIn image items n → has_number n roots.blocks ≡ true
  -- for each root block that was looked at, the root by which it is read, if there is one
  pub shown : (r : ℕ) → Contains items (AtRoot r)
      → ((root : Root) × IsShownRoot image r root) ⊎ ((root : Root) → ¬ IsShownRoot image r root)

-- The marks have the faults that were marked before and exactly those of the items.
pub record Knows (image : Image) (before : List Bool) (items : List Item) (s : Survey) : Type 0 where
  pub size : length s.marks ≡ 12 * length image
  pub kept : (code n : ℕ) → is_marked before code n ≡ true → is_marked s.marks code n ≡ true
  pub marked : (code n : ℕ) → IsFaultIn image items code n → (code < 12) × (is_marked s.marks code n ≡ true)
  pub only : (code n : ℕ) → code < 12 → is_marked s.marks code n ≡ true
      → (is_marked before code n ≡ true) ⊎ IsFaultIn image items code n
  pub found : HasFound image items s.uses s.roots

-- ---- all of an object

-- an item of a rooted object
pub data IsItemOf (image : Image) : Item → Type 0 where
  ItsRoot : (id : Puid) → IsReachedIn image id → IsItemOf image (AtRoot id.block)
  ItsTwig : (id : Puid) (root : Root) (t : Twig) → IsReachedIn image id → IsShownBy image id.block root
      → Contains (twigs_of image id.block root) t → IsItemOf image (AtTwig t)

-- all items of the object with this root block are among them
pub record HasAllOf (image : Image) (items : List Item) (r : ℕ) : Type 0 where
  pub root : Contains items (AtRoot r)
  pub twigs : (root : Root) (t : Twig) → IsShownBy image r root → Contains (twigs_of image r root) t
      → Contains items (AtTwig t)
