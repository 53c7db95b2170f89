-- What the label and the maps say of a volume.
use Rattle.std.specs.Prelude.{◌≡◌, ◌⊎◌, ℕ, ◌+◌, ◌*◌, ◌<◌, ◌≤◌, true, List, [], length, get_or, slice_get, Some}
use Rattle.cfs_base.specs.Disk.{Image, block_at}
use Rattle.cfs_base.specs.declared.refusal.Damage.{Damage}
use Rattle.cyl_map.specs.declared.entry.MapEntry.{MapEntry}
use Rattle.cyl_map.specs.Volume.{entry_in, AreMaps}
use Rattle.vol_image.specs.Fault.{HasLabel}
use Rattle.vol_image.specs.Part.{RootsOwnThemselves, is_fixed, reserved}
use Rattle.vol_label.specs.Label.{IsNoVolume, IsOtherVersion}
use Rattle.vol_label.specs.declared.label.Label.{Label}
use Rattle.cfs_recover.specs.Entries.{EntryFault, MayStand}
use Rattle.cfs_recover.specs.Found.{IsFaultOf}
use Rattle.cfs_recover.specs.declared.fault.RecoverFault.{RecoverFault}
use Rattle.cfs_recover.specs.declared.fault.RecoverFault.TheVariants as faults

-- the label and the maps are those of a volume
pub record AreGrounds (image : Image) (label : Label) : Type 0 where
  pub has : HasLabel image label
  pub size : 64 * label.cylinders ≡ length image
  pub maps : AreMaps image
  pub own : RootsOwnThemselves image
  pub fixed : (n : ℕ) → n < length image → is_fixed n ≡ true → entry_in image n ≡ Some reserved

-- ---- a map, by its cylinder

-- each block may have its entry
abbrev pub AllMayStand : ℕ → List MapEntry → Type 0
AllMayStand cylinder map = (k : ℕ) (e : MapEntry) → k < 64 → slice_get map k ≡ Some e → MayStand (64 * cylinder + k) e

abbrev pub AllMapsStand : List (List MapEntry) → Type 0
AllMapsStand maps = (j : ℕ) → j < length maps → AllMayStand j (get_or maps j [])

-- a block can't have its entry
pub record HasEntryFault (cylinder : ℕ) (map : List MapEntry) (d : Damage) : Type 0 where
  pub k : ℕ
  pub e : MapEntry
  pub small : k < 64
  pub here : slice_get map k ≡ Some e
  pub wrong : EntryFault (64 * cylinder + k) e d

-- ---- why a volume isn't opened

-- the image has no label, or one that is no volume's
abbrev pub HasNoLabel : Image → Type 0
HasNoLabel image = (length image < 3) ⊎ IsNoVolume (block_at image 1)

-- the image has a label of another version
abbrev pub HasVersion : Image → ℕ → Type 0
HasVersion image found = (3 ≤ length image) × IsOtherVersion (block_at image 1) found

-- the image has a label of this version
pub record IsLabelled (image : Image) : Type 0 where
  pub long : 3 ≤ length image
  pub label : Label
  pub has : HasLabel image label

-- The fault says which of these holds of an image: it has no label, or one of another version, or one of this version
-- and this damage. A device call that failed and want of memory say nothing of it.
abbrev pub IsOpenFault : Image → RecoverFault → Type 0
IsOpenFault image faults.Disk = Unit {0}
IsOpenFault image faults.NotVolume = HasNoLabel image
IsOpenFault image (faults.Version found) = HasVersion image found
IsOpenFault image (faults.Damaged d) = IsLabelled image × IsFaultOf image d
IsOpenFault image faults.Memory = Unit {0}
