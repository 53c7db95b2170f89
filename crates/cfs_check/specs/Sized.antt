-- The images that are kept in memory.
use Rattle.std.specs.Prelude.{◌≡◌, ℕ, ◌<◌, ◌≤◌, List, length, map, take, drop}
use Rattle.std.specs.Int.{from_be_bytes, w32}
use Rattle.cfs_base.specs.Disk.{Image, block_at}

-- each block has 512 bytes
abbrev pub AreSized : Image → Type 0
AreSized image = (n : ℕ) → n < length image → length (block_at image n) ≡ 512

-- the same, and there are at most 524,288 blocks
pub record IsLoadable (image : Image) : Type 0 where
  pub most : length image ≤ 524288
  pub whole : AreSized image

-- the word of a block, if it is a root
abbrev pub word_in : List ℕ → ℕ
word_in block = from_be_bytes w32 (take 4 (drop 4 block))

-- the image is kept with these words
pub record IsLoadedImage (image : Image) (words : List ℕ) : Type 0 where
  pub most : length image ≤ 524288
  pub whole : AreSized image
  pub count : length words ≡ length image
  pub words_are : words ≡ map word_in image
