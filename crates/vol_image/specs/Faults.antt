-- All that is wrong with a volume, in order.
use Rattle.std.specs.Prelude.{◌≡◌, ◌≢◌, ◌⊎◌, ℕ, ◌*◌, ◌<◌, List, length, slice_get, Some}
use Rattle.std.specs.List.{Contains}
use Rattle.cfs_base.specs.Disk.{Image}
use Rattle.cfs_base.specs.Codes as codes
use Rattle.cfs_base.specs.declared.refusal.Damage.{Damage}
use Rattle.vol_label.specs.declared.label.Label.{Label}
use Rattle.vol_image.specs.Fault.{Fault, HasLabel}

-- A fault of the volume. If the label has another number of cylinders than the disk, that is the only one.
pub record IsListed (image : Image) (d : Damage) : Type 0 where
  pub is : Fault image d.code d.block
  pub alone : (label : Label) → HasLabel image label → 64 * label.cylinders ≢ length image → d.code ≡ codes.wrong_size

-- by block, and then by code
abbrev pub IsDamageBefore : Damage → Damage → Type 0
IsDamageBefore d e = (d.block < e.block) ⊎ ((d.block ≡ e.block) × (d.code < e.code))

-- each fault comes after the one before it, by block and then by code
abbrev pub DamagesRise : List Damage → Type 0
DamagesRise ds = (j k : ℕ) (d e : Damage) → j < k → slice_get ds j ≡ Some d → slice_get ds k ≡ Some e
    → IsDamageBefore d e

-- the faults of the volume are these, in increasing order, each once
pub record AreFaultsOf (image : Image) (ds : List Damage) : Type 0 where
  pub rise : DamagesRise ds
  pub each : (d : Damage) → Contains ds d → IsListed image d
  pub all : (d : Damage) → IsListed image d → Contains ds d
