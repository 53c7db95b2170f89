-- One commit past its bit that isn't carried out yet, and its parts.
use Rattle.std.specs.Prelude.{ℕ, ◌+◌, ◌<◌, ◌==◌, ◌&&◌, if◌then◌else◌, not, drop, length, Bool, true, false, List, []}
use Rattle.std.specs.Prelude.{◌∷◌, Option, Some, None}
use Rattle.std.specs.List.{All}
use Rattle.cfs_base.specs.declared.identifier.BlockNo.{BlockNo}
use Rattle.cyl_alloc.specs.declared.part.Part.{Part}
use Rattle.cyl_alloc.specs.declared.part.Part.TheVariants.{Copy, Flip, Clear}

-- the object's root block and shadow root; the blocks whose entries are still to be changed, the shadow root last;
-- and whether the root has the shadow root's content
pub record LeftCommit : Type 0 where
  pub root : ℕ
  pub shadow : ℕ
  pub rest : List ℕ
  pub copied : Bool

-- ---- the parts

abbrev pub block_no : ℕ → BlockNo
block_no n = record { 0 = n }

abbrev pub next_part_in : LeftCommit → Bool → List ℕ → Part
next_part_in l false rest = Copy (block_no l.root) (block_no l.shadow)
next_part_in l true [] = Clear (block_no l.root)
next_part_in l true (n ∷ ns) = Flip (block_no n)

-- the next part
abbrev pub next_part_of : LeftCommit → Part
next_part_of l = next_part_in l l.copied l.rest

abbrev pub after_in : LeftCommit → Bool → List ℕ → Option LeftCommit
after_in l false rest = Some (record l { copied = true })
after_in l true [] = None
after_in l true (n ∷ ns) = Some (record l { rest = ns })

-- what is left after that part
abbrev pub after_part : LeftCommit → Option LeftCommit
after_part l = after_in l l.copied l.rest

abbrev pub after_next : Option LeftCommit → Option LeftCommit
after_next None = None
after_next (Some l) = after_part l

-- how many parts there are
abbrev pub parts_left : Option LeftCommit → ℕ
parts_left None = 0
parts_left (Some l) = 1 + length l.rest + (if l.copied then 0 else 1)

-- ---- the entries that are changed one after another

-- the blocks whose entries are changed next, if the root is copied
abbrev pub flips_in : Option LeftCommit → List ℕ
flips_in None = []
flips_in (Some l) = if l.copied then l.rest else []

-- what is left once the entries of the first i of them are changed
abbrev pub after_flips : ℕ → Option LeftCommit → Option LeftCommit
after_flips i None = None
after_flips i (Some l) = Some (record l { rest = drop i l.rest })

-- the first of these blocks is the shadow root
abbrev pub is_first : ℕ → List ℕ → Bool
is_first s [] = false
is_first s (n ∷ ns) = n == s

-- ---- reads

-- the block by which an object with this root block is read
abbrev pub block_shown : Option LeftCommit → ℕ → ℕ
block_shown None r = r
block_shown (Some l) r = if (l.root == r) && not l.copied then l.shadow else r

-- ---- a disk of this many blocks

-- all its blocks are on the disk
abbrev pub LiesOnDisk : ℕ → Option LeftCommit → Type 0
LiesOnDisk size None = Unit {0}
LiesOnDisk size (Some l) = (l.root < size) × (l.shadow < size) × All (λ n. n < size) l.rest

abbrev pub IsPartNear : ℕ → Part → Type 0
IsPartNear size (Copy root shadow) = (root.0 < size) × (shadow.0 < size)
IsPartNear size (Flip block) = block.0 < size
IsPartNear size (Clear root) = root.0 < size
