-- A tree as it is seen: at the end of each path of pointers the block that is there, with its part and content.
use Rattle.std.specs.Prelude.{ℕ, zero, suc, ◌+◌, ◌*◌, List, [], ◌∷◌, Option, Some, None}
use Rattle.cfs_base.specs.Disk.{Image, block_at}
use Rattle.cfs_base.specs.declared.kind.Place.{Place}
use Rattle.cfs_base.specs.declared.kind.Place.TheVariants.{Node, Leaf}
use Rattle.block_tree.specs.Pointers.{Level}
use Rattle.block_tree.specs.Tree.{tree_of}
use Rattle.vol_image.specs.Part.{EntryPart, part_at}

-- a block with its part and content
pub record Held : Type 0 where
  pub block : ℕ
  pub part : Option EntryPart
  pub content : List ℕ

-- what a pointer leads to
abbrev pub held_at : Image → ℕ → Option Held
held_at image zero = None
held_at image (suc n) = Some (record { block = suc n; part = part_at image (suc n); content = block_at image (suc n) })

-- the content of a root, and what is at the end of each path below it
pub record Tree : Type 0 where
  pub root : List ℕ
  pub below : List ℕ → Option Held

-- the tree of a root of this content
abbrev pub tree_in : Image → List ℕ → Tree
tree_in image root = record { root = root; below = λ path. held_at image (tree_of image root path) }

-- ---- the place of a path: its kind by the levels below its end, its number by all the pointers on the way

abbrev pub place_above : List Level → ℕ → Place
place_above [] n = Leaf n
place_above (level ∷ levels) n = Node n

abbrev pub place_from : ℕ → List Level → List ℕ → Place
place_from n levels [] = place_above levels n
place_from n [] (k ∷ path) = Leaf n
place_from n (level ∷ levels) (k ∷ path) = place_from (n * level.count + k) levels path

unfoldable pub place_at : List Level → List ℕ → Place
place_at levels path = place_from 0 levels path
