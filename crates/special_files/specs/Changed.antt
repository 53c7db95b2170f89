-- The blocks that a commit takes, and those that it drops.
use Rattle.std.specs.Prelude.{◌≡◌, ◌≢◌, ◌⊎◌, ℕ, zero, suc, ◌+◌, ◌<◌, ◌≤◌, true, false, ◌==◌, ◌||◌, if◌then◌else◌, List}
use Rattle.std.specs.Prelude.{[], ◌∷◌, ◌++◌, length, get_or, Some}
use Rattle.std.specs.List.{All}
use Rattle.cfs_base.specs.Disk.{Image}
use Rattle.cfs_base.specs.declared.identifier.Puid.{Puid}
use Rattle.block_tree.specs.Root.{root_spelling}
use Rattle.cyl_map.specs.Volume.{entry_in}
use Rattle.ufs_model.specs.Numbers.{has_number}
use Rattle.vol_image.specs.Seen.{tree_in}
use Rattle.vol_owners.specs.Account.{Opened, StandsIn, content_of, is_meant_for, numbers_differ}
use Rattle.vol_owners.specs.Owner.{is_had, is_owned_by}
use Rattle.block_tree.specs.Reads.{leaves_at}

-- ---- what the two lists are

-- `taken` has those blocks of the draft's tree that are meant for the object, each once. These are all that are meant
-- for it, except the shadow root.
pub record AreTaken (image : Image) (id : Puid) (d : Opened) (taken : List ℕ) : Type 0 where
  pub stands : (n : ℕ) → has_number n taken ≡ true → StandsIn (tree_in image (content_of d)) n
  pub meant : (n : ℕ) → has_number n taken ≡ true → is_meant_for image id.block n ≡ true
  pub no_shadow : (n : ℕ) → d.shadow ≡ Some n → has_number n taken ≡ false
  pub all : (n : ℕ) → is_meant_for image id.block n ≡ true → (d.shadow ≡ Some n) ⊎ (has_number n taken ≡ true)
  pub once : numbers_differ taken ≡ true

-- `dropped` has those blocks of the object's tree that the draft's tree doesn't have, each once.
pub record AreDropped (image : Image) (id : Puid) (d : Opened) (dropped : List ℕ) : Type 0 where
  pub stands : (n : ℕ) → has_number n dropped ≡ true → StandsIn (tree_in image (root_spelling d.own)) n
  pub had : (n : ℕ) → has_number n dropped ≡ true → is_owned_by is_had id.block (entry_in image n) ≡ true
  pub gone : (n : ℕ) → has_number n dropped ≡ true → ¬ StandsIn (tree_in image (content_of d)) n
  pub all : (n : ℕ) → StandsIn (tree_in image (root_spelling d.own)) n
      → StandsIn (tree_in image (content_of d)) n ⊎ (has_number n dropped ≡ true)
  pub once : numbers_differ dropped ≡ true

pub record IsChanged (image : Image) (id : Puid) (d : Opened) (taken dropped : List ℕ) : Type 0 where
  pub takes : AreTaken image id d taken
  pub drops : AreDropped image id d dropped
  pub apart : (n : ℕ) → has_number n taken ≡ true → has_number n dropped ≡ false
  -- neither has the root of an object that the draft makes
  pub no_created : (c : ℕ) → d.created ≡ Some c → (has_number c taken ≡ false) × (has_number c dropped ≡ false)

-- they are blocks of a disk of this size, and none is block 0
abbrev pub AreOnDisk : ℕ → List ℕ → Type 0
AreOnDisk size ns = All (λ n. (n ≢ 0) × (n < size)) ns

-- ---- how the lists are found

-- a pointer that leads to a block, if the other at its place is not the same
abbrev pub unlike : ℕ → ℕ → List ℕ
unlike n m = if (n == 0) || (n == m) then [] else n ∷ []

-- those of the first pointers of one table that are unlike the other's
unfoldable pub all_unlike : (ℕ → ℕ) → (ℕ → ℕ) → ℕ → List ℕ
all_unlike f g zero = []
all_unlike f g (suc k) = all_unlike f g k ++ unlike (f k) (g k)

-- the pointers to a node and to its leaves, as one table
abbrev pub pointer_table : ℕ → List ℕ → ℕ → ℕ
pointer_table block leaves zero = block
pointer_table block leaves (suc k) = get_or leaves k 0

-- the same table for the node at a block
abbrev pub in_node : Image → ℕ → ℕ → ℕ
in_node image block = pointer_table block (leaves_at image block)

-- at most `most` more blocks are on a list, and they are on a disk of this size
pub record Adds (size most : ℕ) (old new : List ℕ) : Type 0 where
  pub room : length new ≤ length old + most
  pub on_disk : AreOnDisk size old → AreOnDisk size new
