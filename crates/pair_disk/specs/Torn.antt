-- What a crash may leave of a disk whose writes may tear.
use Rattle.std.specs.Prelude.{◌≡◌, ℕ, List, set}
use Rattle.cfs_base.specs.Disk.{Image, IsBlock}

-- c is the image except for this block, which has any bytes
abbrev pub TornAt : ℕ → Image → Image → Type 0
TornAt at image c = (bytes : List ℕ) × IsBlock bytes × (c ≡ set image at bytes)

-- one of these images, with this block torn
abbrev pub Torn : (Image → Type 0) → ℕ → Image → Type 0
Torn images at c = (before : Image) × images before × TornAt at before c
