-- The leaves of a draft on a disk, and how one of them is put.
use Rattle.std.specs.Prelude.{◌≡◌, ◌≢◌, ℕ, ◌/◌, ◌%◌, List, [], ◌∷◌, Option, Some}
use Rattle.block_tree.specs.Pointers.{leaf_pointers}
use Rattle.cfs_base.specs.Disk.{Image}
use Rattle.block_tree.specs.declared.root.Root as roots
use Rattle.block_tree.specs.Root.{root_spelling}
use Rattle.leaf_changes.specs.Leaves.{bytes_held}
use Rattle.ufs_model.specs.declared.object.Draft.{Draft}
use Rattle.ufs_model.specs.declared.object.Object.{Object}
use Rattle.vol_image.specs.Reading.{leaf_in, object_with}
use Rattle.vol_image.specs.Seen.{Held, Tree, tree_in}
use Rattle.special_files.specs.Drafting.{Drafting, fresh_of}

-- the leaves below a root, and the object that they give
abbrev pub leaves_below : Image → roots.Root → ℕ → Option Held
leaves_below image root = leaf_in (tree_in image (root_spelling root))

abbrev pub object_below : Image → roots.Root → Object
object_below image root = object_with root (leaves_below image root)

-- one leaf is held and has these bytes, and all others are as they were
pub record PutsAt (leaf : ℕ) (content : List ℕ) (old new : ℕ → Option Held) : Type 0 where
  pub here : bytes_held (new leaf) ≡ Some content
  pub others : (m : ℕ) → m ≢ leaf → bytes_held (new m) ≡ bytes_held (old m)

-- except for one leaf and its node, each node and leaf is where it was, in the same block, with its part and content
abbrev pub SameBeside : ℕ → Tree → Tree → Type 0
SameBeside leaf old new = (path : List ℕ) → path ≢ leaf / leaf_pointers.count ∷ []
    → path ≢ leaf / leaf_pointers.count ∷ leaf % leaf_pointers.count ∷ []
    → new.below path ≡ old.below path

-- the draft of the model that an image and a draft in memory give
abbrev pub draft_in : Image → Drafting → Draft
draft_in image drafting = record { object = object_below image drafting.root; fresh = fresh_of drafting }
