-- The sizes of what a walk keeps.
use Rattle.std.specs.Prelude.{◌≡◌, ℕ, ◌<◌, Bool, true, List, length, slice_get, Some}
use Rattle.puid_space.specs.Directory.{Listing, has_root_in}
use Rattle.cfs_recover.specs.declared.found.Found.{Found}

-- a list of root blocks of a volume, no two the same and each that of an identifier that is listed, and a mark for
-- each block
pub record IsSized (directory : Listing) (found : List Found) (held : List Bool) : Type 0 where
  pub each : (k : ℕ) (x : Found) → slice_get found k ≡ Some x → x.block < directory.room
  pub listed : (k : ℕ) (x : Found) → slice_get found k ≡ Some x → has_root_in directory.named x.block ≡ true
  pub once : (j k : ℕ) (x y : Found) → slice_get found j ≡ Some x → slice_get found k ≡ Some y → x.block ≡ y.block
      → j ≡ k
  pub marks : length held ≡ directory.room
