-- What each block of a volume is used for.
use Rattle.std.specs.Prelude.{◌≡◌, ◌⊎◌, ℕ, ◌<◌, Bool, true, false, if◌then◌else◌, List, length, get_or, set, map}
use Rattle.std.specs.Prelude.{count_by}
use Rattle.std.specs.List.{range_with_len}
use Rattle.cfs_base.specs.declared.kind.Place.{Place}
use Rattle.vol_image.specs.Part.{is_fixed}
pub use Rattle.cfs_check.specs.declared.uses.Use.{Use}
use Rattle.cfs_check.specs.declared.uses.Use.TheVariants as uses

-- what a block is used for at first
abbrev pub first_use : ℕ → Use
first_use n = if is_fixed n then uses.Fixed else uses.Free

abbrev pub first_uses : ℕ → List Use
first_uses blocks = map first_use (range_with_len 0 blocks)

abbrev pub is_unused : Use → Bool
is_unused uses.Free = true
is_unused uses.Fixed = false
is_unused (uses.By owner place) = false
is_unused uses.Twice = false

-- how many blocks nothing uses
abbrev pub unused_in : List Use → ℕ
unused_in of = count_by is_unused of

-- what one more use of a block makes of it
abbrev pub IsUseWith : Use → (owner : ℕ) → Place → Use → Type 0
IsUseWith uses.Free owner place new = new ≡ uses.By owner place
IsUseWith uses.Fixed owner place new = new ≡ uses.Twice
IsUseWith (uses.By r p) owner place new = ((r ≡ owner) × (p ≡ place) × (new ≡ uses.By r p))
    ⊎ (¬ ((r ≡ owner) × (p ≡ place)) × (new ≡ uses.Twice))
IsUseWith uses.Twice owner place new = new ≡ uses.Twice

-- this block has one more use, and no other
pub record TakesUse (old new : List Use) (block owner : ℕ) (place : Place) : Type 0 where
  pub it : Use
  pub is : IsUseWith (get_or old block uses.Free) owner place it
  pub put : new ≡ set old block it
