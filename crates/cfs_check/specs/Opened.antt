-- Objects that are opened: the root by which each is read, and the list of its blocks.
use Rattle.std.specs.Prelude.{◌≡◌, ◌≢◌, ◌⊎◌, ℕ, ◌<◌, ◌≤◌, Bool, List, ◌++◌, length, slice_get, Some}
use Rattle.std.specs.List.{Contains}
use Rattle.cfs_base.specs.Disk.{Image}
use Rattle.block_tree.specs.declared.root.Root.{Root}
use Rattle.vol_image.specs.Fault.{HasLabel, IsShownRoot, reader}
use Rattle.vol_label.specs.declared.label.Label.{Label}
use Rattle.cfs_recover.specs.Entries.{AreStanding}
use Rattle.cfs_recover.specs.declared.head.Head.{Head}
use Rattle.cfs_recover.specs.declared.standing.Shadow.{Shadow}
use Rattle.cfs_check.specs.Items.{AtRoot, HasAllOf, IsItemOf, Item, Knows}
use Rattle.cfs_check.specs.Twigs.{IsShownBy, Twig, twigs_of}
use Rattle.cfs_check.specs.declared.survey.Survey.{Survey}

-- the table of the shadow roots that stand for root blocks
pub record IsStandingOf (image : Image) (standing : List Shadow) : Type 0 where
  pub size : length standing ≡ length image
  pub stand : AreStanding image (length image) standing

-- the object with this root block is shown, and read by this head
pub record IsHeadOf (image : Image) (r : ℕ) (head : Head) : Type 0 where
  pub from : head.from ≡ reader image r
  pub on_disk : head.from < length image
  pub shown : IsShownBy image r head.root

-- the object with this root block is read by this head, shown or not
pub record IsReadFrom (image : Image) (r : ℕ) (head : Head) : Type 0 where
  pub from : head.from ≡ reader image r
  pub on_disk : head.from < length image
  pub root : IsShownRoot image r head.root

-- the object is read by some root, or by none
abbrev pub IsShownOrNot : Image → ℕ → Type 0
IsShownOrNot image r = ((root : Root) × IsShownRoot image r root) ⊎ ((root : Root) → ¬ IsShownRoot image r root)

-- if the object is shown, the blocks of its tree were added to a list
pub record ListsTree (image : Image) (r : ℕ) (old new : List Twig) : Type 0 where
  pub added : List Twig
  pub is : new ≡ old ++ added
  pub all : (root : Root) (t : Twig) → IsShownBy image r root → Contains (twigs_of image r root) t → Contains added t
  pub only : (t : Twig) → Contains added t
      → (root : Root) × IsShownBy image r root × Contains (twigs_of image r root) t

-- ---- some of the root blocks that were found are opened

-- this is one of them, from one place in the list up to another
pub record IsFoundBetween (blocks : List ℕ) (from to r : ℕ) : Type 0 where
  pub place : ℕ
  pub low : from ≤ place
  pub high : place < to
  pub here : slice_get blocks place ≡ Some r

-- these were looked at, and the blocks of their trees are listed
pub record OpensBatch (image : Image) (before : List Bool) (items : List Item) (blocks : List ℕ) (from to : ℕ)
    (s : Survey) (ts : List Twig) : Type 0 where
  pub its : List Item
  pub knows : Knows image before its s
  pub kept : (i : Item) → Contains items i → Contains its i
  pub all : (r : ℕ) → IsFoundBetween blocks from to r → Contains its (AtRoot r)
  pub only : (i : Item) → Contains its i
      → Contains items i ⊎ ((r : ℕ) × IsFoundBetween blocks from to r × (i ≡ AtRoot r))
  pub listed : (r : ℕ) (root : Root) (t : Twig) → IsFoundBetween blocks from to r → IsShownBy image r root
      → Contains (twigs_of image r root) t → Contains ts t
  pub of_these : (t : Twig) → Contains ts t → (r : ℕ) × (root : Root) × IsFoundBetween blocks from to r
      × IsShownBy image r root × Contains (twigs_of image r root) t

-- ---- the walk

-- All items of the first `done` objects that were found were looked at, and only items of rooted objects.
pub record IsWalkTo (image : Image) (before : List Bool) (done : ℕ) (s : Survey) : Type 0 where
  pub label : Label
  pub has : HasLabel image label
  pub items : List Item
  pub knows : Knows image before items s
  pub within : done ≤ length s.roots.blocks
  pub all : (k r : ℕ) → k < done → slice_get s.roots.blocks k ≡ Some r → HasAllOf image items r
  pub only : (i : Item) → Contains items i → IsItemOf image i
