-- What a sweep makes Free.
use Rattle.std.specs.Prelude.{◌≡◌, ◌≢◌, ℕ, ◌*◌, ◌/◌, ◌<◌, Bool, true, false, not, ◌&&◌, if◌then◌else◌, List, length}
use Rattle.std.specs.Prelude.{map, option_map, Some}
use Rattle.cfs_base.specs.Disk.{Image, block_at}
use Rattle.cfs_base.specs.declared.identifier.Puid.{Puid}
use Rattle.cfs_base.specs.declared.kind.Kind.{Kind}
use Rattle.cyl_alloc.specs.Space.{unheld_entry}
use Rattle.cyl_map.specs.declared.entry.MapEntry.{MapEntry}
use Rattle.cyl_map.specs.Volume.{entry_in}
use Rattle.puid_space.specs.Directory.{has_root_in}
use Rattle.ufs_model.specs.Graph.{Graph}
use Rattle.vol_owners.specs.Owner.{is_taken, is_made, is_root, is_placed, is_stray}
use Rattle.collector_steps.specs.declared.sweep.Pass.{Pass}
use Rattle.collector_steps.specs.declared.sweep.Pass.TheVariants as passes

-- ---- one entry

-- the first pass is over nodes, leaves and shadow roots, the second over roots
abbrev pub is_of_pass : Pass → MapEntry → Bool
is_of_pass passes.Inner e = is_placed is_taken (Some e) && not (is_root is_taken (Some e))
is_of_pass passes.Roots e = is_root is_taken (Some e) && not (is_made (Some e))

-- a block of the pass whose owner is the root block of no object
abbrev pub goes : List (Puid × Kind) → Pass → MapEntry → Bool
goes directory pass e = is_of_pass pass e && not (has_root_in directory e.owner)

abbrev pub swept : List (Puid × Kind) → Pass → MapEntry → MapEntry
swept directory pass e = if goes directory pass e then unheld_entry else e

abbrev pub swept_map : List (Puid × Kind) → Pass → List MapEntry → List MapEntry
swept_map directory pass entries = map (swept directory pass) entries

-- ---- one cylinder

-- no entry of the cylinder is to become Free
abbrev pub NoneGoes : List (Puid × Kind) → Pass → ℕ → Image → Type 0
NoneGoes directory pass cylinder image = (n : ℕ) (e : MapEntry) → n / 64 ≡ cylinder → entry_in image n ≡ Some e
    → goes directory pass e ≡ false

-- Image b is image a in which each entry of the cylinder that is to become Free is Free.
pub record IsSweptOf (directory : List (Puid × Kind)) (pass : Pass) (cylinder : ℕ) (a b : Image) : Type 0 where
  pub size : length b ≡ length a
  pub contents : (n : ℕ) → n ≢ 64 * cylinder → block_at b n ≡ block_at a n
  pub here : (n : ℕ) → n / 64 ≡ cylinder → entry_in b n ≡ option_map (swept directory pass) (entry_in a n)
  pub elsewhere : (n : ℕ) → n / 64 ≢ cylinder → entry_in b n ≡ entry_in a n

-- ---- cylinder after cylinder

-- In the cylinders that the inner pass is done with, no node, leaf or shadow root is a block of an object that is
-- gone.
abbrev pub NoInner : Image → Graph → ℕ → Type 0
NoInner image g cylinders = (n : ℕ) → n / 64 < cylinders → is_stray g (entry_in image n) ≡ true
    → is_root is_taken (entry_in image n) ≡ true

-- In the cylinders that the root pass is done with, no block is.
abbrev pub NoStray : Image → Graph → ℕ → Type 0
NoStray image g cylinders = (n : ℕ) → n / 64 < cylinders → is_stray g (entry_in image n) ≡ false

-- roots are swept once no other block of a vanished object is left
abbrev pub MayBegin : Pass → Image → Graph → Type 0
MayBegin passes.Inner image g = Unit {0}
MayBegin passes.Roots image g = NoInner image g (length image / 64)
