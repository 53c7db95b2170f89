-- What a walk over the held leaves finds.
use Rattle.std.specs.Prelude.{◌≡◌, ◌≢◌, ℕ, ◌<◌, ◌≤◌, List, Option, Some, None}
use Rattle.cfs_base.specs.Disk.{Image}
use Rattle.block_tree.specs.declared.follow.Pointer.{Pointer}
use Rattle.block_tree.specs.declared.walk.HeldLeaf.{HeldLeaf}
use Rattle.block_tree.specs.Tree.{AreQuiet, HasNearPath, PastAbove, leaf_block, leaf_count}

-- the first held leaf from `from` on; nothing before it stops the walk
pub record IsFirstHeld (image : Image) (size : ℕ) (root : List ℕ) (from : ℕ) (held : HeldLeaf) : Type 0 where
  pub on : from ≤ held.leaf
  pub inside : held.leaf < leaf_count root
  pub block : leaf_block image root held.leaf ≡ held.block
  pub is_held : held.block ≢ 0
  pub before : AreQuiet image size root from held.leaf
  pub followed : HasNearPath image size root held.leaf

-- what is found from a leaf on: the first held one, or that all are quiet
abbrev pub IsFound : Image → ℕ → List ℕ → ℕ → Option HeldLeaf → Type 0
IsFound image size root from (Some held) = IsFirstHeld image size root from held
IsFound image size root from None = AreQuiet image size root from (leaf_count root)

-- the pointer at which the walk stops: it is past the end and above a leaf, and nothing before that leaf stops the
-- walk
pub record IsFirstPast (image : Image) (size : ℕ) (root : List ℕ) (from : ℕ) (p : Pointer) : Type 0 where
  pub leaf : ℕ
  pub on : from ≤ leaf
  pub inside : leaf < leaf_count root
  pub past : PastAbove image size root leaf p
  pub before : AreQuiet image size root from leaf
