-- A map as a disk holds it.
use Rattle.std.specs.Prelude.{◌≡◌, ℕ, List}
use Rattle.cfs_base.specs.Disk.{Image, block_at}
use Rattle.cyl_map.specs.declared.entry.MapEntry.{MapEntry}
use Rattle.cyl_map.specs.Map.{IsMap, map_spelling}
use Rattle.cyl_map.specs.Volume.{map_of}

-- the map block of a block spells this map
pub record IsMapOf (image : Image) (n : ℕ) (map : List MapEntry) : Type 0 where
  pub is_map : IsMap map
  pub spelled : block_at image (map_of n) ≡ map_spelling map
