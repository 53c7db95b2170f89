-- The result of a check.
use Rattle.std.specs.Prelude.{◌≡◌, ◌≢◌, ◌⊎◌, ℕ, true, [], length}
use Rattle.cfs_base.specs.Codes as codes
use Rattle.cfs_base.specs.Disk.{Image}
use Rattle.cfs_base.specs.declared.identifier.Puid.{Puid}
use Rattle.cfs_base.specs.declared.kind.Place.{Place}
use Rattle.cfs_base.specs.declared.refusal.Damage.{Damage}
use Rattle.ufs_model.specs.Graph.{Graph}
use Rattle.vol_image.specs.Fault.{IsKeptBlock, IsReachedIn, IsUsed, LeavesBlocks}
use Rattle.vol_image.specs.Faults.{AreFaultsOf, IsDamageBefore, IsListed}
use Rattle.vol_image.specs.Part.{is_fixed}
use Rattle.vol_image.specs.Sound.{IsSoundAs}
use Rattle.cfs_recover.specs.Grounds.{HasNoLabel, HasVersion, IsLabelled}
use Rattle.cfs_check.specs.declared.checked.Checked.{Checked}
use Rattle.cfs_check.specs.declared.checked.Checked.TheVariants as checks

-- the image is sound, has `objects` objects, and leaves `left` blocks
pub record IsSoundWith (image : Image) (objects left : ℕ) : Type 0 where
  pub graph : Graph
  pub sound : IsSoundAs image graph
  pub objects_are : objects ≡ length graph.objects
  pub leaves : LeavesBlocks image left

-- Which of these holds of an image. Each excludes the others.
abbrev pub IsChecked : Image → Checked → Type 0
IsChecked image checks.NotVolume = HasNoLabel image
IsChecked image (checks.Version found) = HasVersion image found
IsChecked image (checks.Faults faults) = IsLabelled image × (faults ≢ []) × AreFaultsOf image faults
IsChecked image (checks.Sound objects left) = IsSoundWith image objects left

-- ---- what maps don't heal

-- rooted objects use the block twice: two of them, or one at two places
pub record IsUsedTwice (image : Image) (n : ℕ) : Type 0 where
  pub id : Puid
  pub other : Puid
  pub place : Place
  pub place_of_other : Place
  pub reached : IsReachedIn image id
  pub reached_too : IsReachedIn image other
  pub used : IsUsed image id.block place n
  pub used_too : IsUsed image other.block place_of_other n
  pub differs : ¬ ((id.block ≡ other.block) × (place ≡ place_of_other))

-- the fault is not of an entry, or it is of the entry of a block that is used twice, or of a map block or the label
-- that is used
abbrev pub CantHeal : Image → Damage → Type 0
CantHeal image d = ((d.code ≢ codes.no_entry) × (d.code ≢ codes.not_owned))
    ⊎ ((d.code ≡ codes.not_owned)
    × (IsUsedTwice image d.block ⊎ ((is_fixed d.block ≡ true) × IsKeptBlock image d.block)))

-- this is the first fault that maps don't heal
pub record IsFirstUnhealed (image : Image) (d : Damage) : Type 0 where
  pub listed : IsListed image d
  pub cant : CantHeal image d
  pub first : (e : Damage) → IsListed image e → IsDamageBefore e d → ¬ CantHeal image e
