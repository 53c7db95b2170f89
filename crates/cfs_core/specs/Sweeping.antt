-- What the sweep of one cylinder makes of a volume.
use Rattle.std.specs.Prelude.{◌≡◌, ◌≢◌, ℕ, ◌*◌, ◌/◌, Bool, false, not, ◌&&◌, ◌==◌, if◌then◌else◌, length}
use Rattle.std.specs.Prelude.{Option, Some}
use Rattle.cfs_base.specs.Disk.{Image, block_at}
use Rattle.collector_steps.specs.Swept.{cylinder_of}
use Rattle.collector_steps.specs.declared.phase.Phase.{Phase}
use Rattle.collector_steps.specs.declared.phase.Phase.TheVariants as phases
use Rattle.cyl_alloc.specs.Space.{unheld_entry}
use Rattle.cyl_map.specs.Volume.{entry_in}
use Rattle.cyl_map.specs.declared.entry.MapEntry.{MapEntry}
use Rattle.ufs_model.specs.Graph.{Graph}
use Rattle.vol_owners.specs.Owner.{is_root, is_stray, is_taken}

-- the inner pass is over nodes, leaves and shadow roots, the root pass over roots
abbrev pub is_in_pass : Phase → Option MapEntry → Bool
is_in_pass phases.Idle entry = false
is_in_pass phases.Marking entry = false
is_in_pass (phases.Inner cylinder) entry = not (is_root is_taken entry)
is_in_pass (phases.Roots cylinder) entry = is_root is_taken entry
is_in_pass phases.Swept entry = false

-- a block of the pass whose owner is the root block of no object in the graph, except a root that is being made
abbrev pub is_swept_now : Graph → Phase → Option MapEntry → Bool
is_swept_now g phase entry = is_stray g entry && is_in_pass phase entry

-- no block of the cylinder at which the sweep is goes
abbrev pub IsCleanCylinder : Graph → Phase → Image → Type 0
IsCleanCylinder g phase image = (n : ℕ) → n / 64 ≡ cylinder_of phase
    → is_swept_now g phase (entry_in image n) ≡ false

-- Image b is a, but that in the cylinder at which the sweep is exactly these blocks are Free now.
pub record FreesStrays (g : Graph) (phase : Phase) (a b : Image) : Type 0 where
  pub size : length b ≡ length a
  -- no block differs except the cylinder's map
  pub contents : (n : ℕ) → n ≢ 64 * cylinder_of phase → block_at b n ≡ block_at a n
  pub entries : (n : ℕ) → entry_in b n
      ≡ (if (n / 64 == cylinder_of phase) && is_swept_now g phase (entry_in a n) then Some unheld_entry
      else entry_in a n)
