-- What is said of single entries, and of the shadow roots that stand for objects by them.
use Rattle.std.specs.Prelude.{◌≡◌, ◌≢◌, ℕ, ◌<◌, ◌≤◌, true, List, [], ◌∷◌, length, filter, get_or, Some}
use Rattle.std.specs.List.{range_with_len}
use Rattle.cfs_base.specs.Codes as codes
use Rattle.cfs_base.specs.Disk.{Image}
use Rattle.cfs_base.specs.declared.kind.Place.TheVariants as places
use Rattle.cfs_base.specs.declared.refusal.Damage.{Damage}
use Rattle.cyl_map.specs.declared.entry.MapEntry.{MapEntry}
use Rattle.cyl_map.specs.Volume.{map_of, entry_in}
use Rattle.vol_image.specs.Part.{OwnsItself, is_fixed, reserved, stands_for}
use Rattle.cfs_recover.specs.Standing.{Shadow}
use Rattle.cfs_recover.specs.declared.standing.Shadow.TheVariants as shadow

abbrev pub damage : ℕ → ℕ → Damage
damage block code = record { block = block; code = code }

-- ---- one entry

-- the block may have this entry
pub record MayStand (n : ℕ) (e : MapEntry) : Type 0 where
  pub own : OwnsItself n e
  pub fixed : is_fixed n ≡ true → e ≡ reserved

-- the block can't have it: it is the entry of a root of another block, or not reserved though it must be
pub data EntryFault (n : ℕ) (e : MapEntry) : Damage → Type 0 where
  RootOfAnother : e.place ≡ Some places.Root → e.owner ≢ n → EntryFault n e (damage (map_of n) codes.no_entry)
  NotReserved : is_fixed n ≡ true → e ≢ reserved → EntryFault n e (damage n codes.not_owned)

-- ---- shadow roots

-- the blocks below a number that stand for a root block
abbrev pub standing_below : Image → ℕ → ℕ → List ℕ
standing_below image below r = filter (λ n. stands_for r (entry_in image n)) (range_with_len 0 below)

abbrev pub IsShadow : List ℕ → Shadow → Type 0
IsShadow blocks shadow.None = blocks ≡ []
IsShadow blocks (shadow.One s) = blocks ≡ s ∷ []
IsShadow blocks shadow.Several = 2 ≤ length blocks

-- what stands for each block among the blocks below this number
abbrev pub AreStanding : Image → ℕ → List Shadow → Type 0
AreStanding image below standing =
    (r : ℕ) → r < length standing → IsShadow (standing_below image below r) (get_or standing r shadow.None)
