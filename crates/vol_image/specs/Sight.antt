-- All that an image shows of one object.
use Rattle.std.specs.Prelude.{ℕ, if◌then◌else◌, List, [], ◌∷◌, length, filter, Option}
use Rattle.std.specs.List.{range_with_len}
use Rattle.cfs_base.specs.Disk.{Image, block_at}
use Rattle.cyl_map.specs.Volume.{entry_in}
use Rattle.vol_image.specs.Part.{EntryPart, part_at, is_committed, stands_for}
use Rattle.vol_image.specs.Seen.{Tree, tree_in}

-- the shadow roots that stand for an object, if its commit bit is set
unfoldable pub shadows : Image → ℕ → List ℕ
shadows image r = if is_committed (part_at image r) then filter (λ n. stands_for r (entry_in image n))
    (range_with_len 0 (length image)) else []

abbrev pub first_or : ℕ → List ℕ → ℕ
first_or r [] = r
first_or r (s ∷ ss) = s

-- the block by which the object is read: its shadow root if one stands for it, else its root
abbrev pub source : Image → ℕ → ℕ
source image r = first_or r (shadows image r)

-- the tree by which the object is read
abbrev pub source_tree : Image → ℕ → Tree
source_tree image r = tree_in image (block_at image (source image r))

-- the root's part and content, the shadow roots that stand for it, and the tree by which the object is read
pub record Sight : Type 0 where
  pub part : Option EntryPart
  pub root : List ℕ
  pub standing : List ℕ
  pub tree : Tree

unfoldable pub sight : Image → ℕ → Sight
sight image r = record {
  part = part_at image r;
  root = block_at image r;
  standing = shadows image r;
  tree = tree_in image (block_at image (source image r));
}
