-- What is checked of the blocks of an object, each by itself. After each check: what is wrong if it doesn't hold.
use Rattle.std.specs.Prelude.{◌≡◌, ◌≢◌, ℕ, ◌+◌, ◌*◌, ◌<◌, ◌≤◌, true, List, length, get_or}
use Rattle.cfs_base.specs.Codes as codes
use Rattle.cfs_base.specs.Disk.{Image, block_at}
use Rattle.cfs_base.specs.declared.refusal.Damage.{Damage}
use Rattle.block_tree.specs.declared.root.Root.{Root}
use Rattle.block_tree.specs.Root.{IsRootBlock}
use Rattle.ufs_model.specs.Numbers.{has_number}
pub use Rattle.vol_image.specs.Fault.{HasNoRoot, HasRootSlots}
use Rattle.vol_image.specs.Part.{BelongsTo, part_at}
use Rattle.vol_image.specs.Sight.{shadows, source}
use Rattle.cfs_recover.specs.Entries.{damage}
use Rattle.cfs_recover.specs.declared.head.Head.{Head}
use Rattle.cfs_recover.specs.declared.spot.Spot.{Spot}

-- ---- a block to which a pointer leads: it is on the disk, and its entry has its owner and place

pub record IsInPlace (image : Image) (spot : Spot) : Type 0 where
  pub on_disk : spot.block < length image
  pub owned : BelongsTo spot.owner spot.place (part_at image spot.block)

pub data SpotFault (image : Image) (spot : Spot) : Damage → Type 0 where
  PastDisk : length image ≤ spot.block → SpotFault image spot (damage spot.holder codes.past_disk)
  NotOwned : spot.block < length image → ¬ BelongsTo spot.owner spot.place (part_at image spot.block)
      → SpotFault image spot (damage spot.block codes.not_owned)

-- ---- the root by which an object is read

-- this block is a root of the same kind and word
pub record IsLike (own : Root) (content : List ℕ) (root : Root) : Type 0 where
  pub spelled : IsRootBlock content root
  pub same_kind : root.kind ≡ own.kind
  pub same_word : root.word ≡ own.word

abbrev pub HasNoneLike : Root → List ℕ → Type 0
HasNoneLike own content = (root : Root) → IsRootBlock content root → root.kind ≡ own.kind → root.word ≢ own.word

-- the object with this root block and root is read from the block of the head, which has the head's root
pub record IsHead (image : Image) (r : ℕ) (own : Root) (head : Head) : Type 0 where
  pub from : head.from ≡ source image r
  pub one_shadow : length (shadows image r) ≤ 1
  pub like : IsLike own (block_at image head.from) head.root

pub data HeadFault (image : Image) (r : ℕ) (own : Root) : Damage → Type 0 where
  TwoShadows : 2 ≤ length (shadows image r) → HeadFault image r own (damage r codes.two_shadows)
  NoShadow : (s : ℕ) → has_number s (shadows image r) ≡ true → HasNoneLike own (block_at image s)
      → HeadFault image r own (damage s codes.no_root)

-- ---- a leaf with this number, of an object of this size: past the size it has fill bytes

abbrev pub IsFilled : (size fill leaf : ℕ) → List ℕ → Type 0
IsFilled size fill leaf content = (i : ℕ) → i < 512 → size ≤ 512 * leaf + i → get_or content i 0 ≡ fill

abbrev pub IsNotFilled : (size fill leaf : ℕ) → List ℕ → Type 0
IsNotFilled size fill leaf content = (i : ℕ) × (i < 512) × (size ≤ 512 * leaf + i) × (get_or content i 0 ≢ fill)
