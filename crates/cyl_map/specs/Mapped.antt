-- An image with each entry of its maps changed.
use Rattle.std.specs.Prelude.{◌≡◌, ◌≢◌, ◌==◌, ℕ, ◌+◌, ◌%◌, ◌<◌, if◌then◌else◌, List, ◌++◌, drop, length, map}
use Rattle.std.specs.Prelude.{IsSome, Some}
use Rattle.std.specs.List.{range_with_len}
use Rattle.cfs_base.specs.Disk.{Image, block_at}
use Rattle.cyl_map.specs.declared.entry.MapEntry.{MapEntry}
use Rattle.cyl_map.specs.Map.{bytes_at, map_spelling}
use Rattle.cyl_map.specs.Reading.{said_by}
use Rattle.cyl_map.specs.Volume.{entry_in, map_of}

-- what the bytes of its map say of block n
abbrev pub said_in : Image → ℕ → MapEntry
said_in image n = said_by (bytes_at (block_at image (map_of n)) (n % 64))

-- the entries of the map in block m, each changed by f
unfoldable pub entries_mapped : (ℕ → MapEntry → MapEntry) → Image → ℕ → List MapEntry
entries_mapped f image m = map (λ k. f (m + k) (said_in image (m + k))) (range_with_len 0 64)

-- the block with these entries; what follows them stays
abbrev pub map_mapped : (ℕ → MapEntry → MapEntry) → Image → ℕ → List ℕ
map_mapped f image m = map_spelling (entries_mapped f image m) ++ drop 512 (block_at image m)

abbrev pub block_mapped : (ℕ → MapEntry → MapEntry) → Image → ℕ → List ℕ
block_mapped f image m = if m % 64 == 0 then map_mapped f image m else block_at image m

-- the image with the entry of each block n changed by f n
unfoldable pub mapped : (ℕ → MapEntry → MapEntry) → Image → Image
mapped f image = map (block_mapped f image) (range_with_len 0 (length image))

-- each block of a cylinder that begins in the image has an entry
abbrev pub AreWhole : Image → Type 0
AreWhole image = (n : ℕ) → map_of n < length image → IsSome (entry_in image n)

-- Image b is image a with each entry changed by f.
pub record IsMapped (f : ℕ → MapEntry → MapEntry) (a b : Image) : Type 0 where
  pub size : length b ≡ length a
  pub entries : (n : ℕ) (e : MapEntry) → entry_in a n ≡ Some e → entry_in b n ≡ Some (f n e)
  pub contents : (n : ℕ) → n % 64 ≢ 0 → block_at b n ≡ block_at a n
  pub behind : (n : ℕ) → drop 512 (block_at b n) ≡ drop 512 (block_at a n)
