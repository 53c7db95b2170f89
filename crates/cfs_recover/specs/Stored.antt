-- A disk that holds an image, and an image whose maps are in memory.
use Rattle.std.specs.Prelude.{◌≡◌, ℕ, ◌*◌, ◌<◌, List, [], length, get_or}
use Rattle.cfs_base.specs.Disk.{Image, AreBlocks, block_at}
use Rattle.cfs_base.specs.Run.{Tells}
use Rattle.cfs_base.specs.declared.disk.Disk.{Ghosts}
use Rattle.cyl_map.specs.declared.entry.MapEntry.{MapEntry}
use Rattle.cyl_map.specs.Map.{IsMap, map_spelling}

-- the disk tells its whole content, which is this image
pub record Stores {D : Type 0} (g : Ghosts D) (d : D) (image : Image) : Type 0 where
  pub tells : Tells g d
  pub content : g.content d ≡ image
  pub size : length image ≡ g.blocks d
  pub blocks : AreBlocks image

-- these are the maps of the image, one for each cylinder
pub record AreMapsOf (image : Image) (maps : List (List MapEntry)) : Type 0 where
  pub size : length image ≡ 64 * length maps
  pub map : (j : ℕ) → j < length maps → IsMap (get_or maps j [])
  pub spelled : (j : ℕ) → j < length maps → block_at image (64 * j) ≡ map_spelling (get_or maps j [])
