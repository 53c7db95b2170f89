-- Roots from which calls go down, and when one of their pointers leads past the disk.
use Rattle.std.specs.Prelude.{ℕ, ◌≤◌, get_or, slice_index}
use Rattle.cfs_base.specs.Disk.{Image, block_at}
use Rattle.cfs_base.specs.Run.{Tells}
use Rattle.cfs_base.specs.declared.disk.Disk.{Ghosts}
use Rattle.block_tree.specs.Pointers.{Level, node_pointers, pointers_of}
use Rattle.block_tree.specs.Reads.{IsPast}
use Rattle.block_tree.specs.declared.root.Root.{Root}

-- the block of a root, and when a pointer of the root leads past a disk of a size
pub record Top : Type 1 where
  pub block : ℕ
  pub IsFar : ℕ → Type 0

-- a pointer of this root to a node leads past the disk
abbrev pub IsFarRoot : ℕ → Root → Type 0
IsFarRoot size root = (k : ℕ) × IsPast size (slice_index root.nodes k)

-- a pointer in a block of this image leads past the disk
abbrev pub IsFarBlock : ℕ → Image → Level → ℕ → Type 0
IsFarBlock size image level block = (k : ℕ) × (size ≤ get_or (pointers_of level (block_at image block)) k 0)

-- ---- a root at a block

-- the root that a call has in memory
abbrev pub root_top : ℕ → Root → Top
root_top at root = record { block = at; IsFar = λ size. IsFarRoot size root }

-- the root that the disk has there, if it tells its content
abbrev pub disk_top : {D : Type 0} → Ghosts D → ℕ → D → Top
disk_top g at d = record { block = at; IsFar = λ size. Tells g d → IsFarBlock size (g.content d) node_pointers at }

-- a root of which no pointer is followed
abbrev pub still_top : ℕ → Top
still_top at = record { block = at; IsFar = λ size. ⊥ }
