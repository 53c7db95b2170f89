-- Blocks that are claimed one after another, each the least-numbered Free one. Only entries matter, and no content.
use Rattle.std.specs.Prelude.{◌≡◌, ◌≢◌, ℕ, List, [], ◌∷◌, Some}
use Rattle.cfs_base.specs.Disk.{Image}
use Rattle.cyl_map.specs.Volume.{entry_in}
use Rattle.cyl_map.specs.declared.entry.MapEntry.{MapEntry}
use Rattle.cyl_alloc.specs.Space.{IsLeastFree}

-- the entries of both images are the same
abbrev pub SameEntries : Image → Image → Type 0
SameEntries a b = (m : ℕ) → entry_in b m ≡ entry_in a m

-- the least-numbered Free block of image a has this entry in image b, and all others have the same
pub record IsClaimed (e : MapEntry) (a b : Image) : Type 0 where
  pub block : ℕ
  pub least : IsLeastFree a block
  pub here : entry_in b block ≡ Some e
  pub others : (m : ℕ) → m ≢ block → entry_in b m ≡ entry_in a m

-- From image a to image c a block was claimed for each of these entries, in their order. An entry names its block's
-- owner and place.
abbrev pub AreClaimed : List MapEntry → Image → Image → Type 0
AreClaimed [] a c = SameEntries a c
AreClaimed (e ∷ es) a c = (b : Image) × IsClaimed e a b × AreClaimed es b c
