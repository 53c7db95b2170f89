-- What a service begins on.
use Rattle.std.specs.Prelude.{◌≡◌, ℕ, ◌*◌, ◌/◌, Bool, true, false, IsTrue, Option, Some, None}
use Rattle.cfs_audit.specs.Verdict.{root_of}
use Rattle.cfs_base.specs.declared.disk.Disk.{Ghosts}
use Rattle.ufs_model.specs.Graph.{Graph, fresh_graph}
use Rattle.vol_image.specs.Sound.{IsSound, IsSoundAs}
use Rattle.cfs_check.specs.Mended.{IsMendFault}
use Rattle.cfs_check.specs.declared.mended.MendFault.{MendFault}
use Rattle.cfs_check.specs.declared.mended.MendFault.TheVariants as refusals
use Rattle.cfs_recover.specs.Grounds.{IsOpenFault}
use Rattle.cfs_recover.specs.declared.fault.RecoverFault.{RecoverFault}
use Rattle.cfs_recover.specs.declared.fault.RecoverFault.TheVariants as whys
use Rattle.cfs_serve.specs.declared.report.VolumeFault.{VolumeFault}
use Rattle.cfs_serve.specs.declared.report.VolumeFault.TheVariants as faults
use Rattle.cfs_serve.specs.Words.{Asked, Audits, Converses, Dirs, Formats, InFile, InMemory, Inspects, Nothing}
use Rattle.cfs_serve.specs.Words.{Place, Serves, Shows, Spins}

-- What is known of a volume: its cylinders and blocks, the graphs that it may read as, and whether it is known to be
-- unsound.
pub record Ground : Type 1 where
  pub cylinders : ℕ
  pub blocks : ℕ
  pub reads : Graph → Type 0
  pub unsound : Type 0
  -- this is wrong with it
  pub faulty : VolumeFault → Type 0

-- the graph of a new volume: a root index of empty slots
abbrev pub opened : ℕ → Graph
opened seed = fresh_graph (root_of seed)

abbrev pub new_ground : (cylinders seed : ℕ) → Ground
new_ground cylinders seed = record {
  cylinders = cylinders;
  blocks = 64 * cylinders;
  reads = λ graph. graph ≡ opened seed;
  unsound = ⊥;
  faulty = λ fault. ⊥;
}

-- why a volume with this fault isn't opened
abbrev pub why : VolumeFault → RecoverFault
why faults.NotVolume = whys.NotVolume
why (faults.Version found) = whys.Version found
why (faults.Damaged damage) = whys.Damaged damage

-- a volume on a disk; if the disk isn't honest, nothing is known of what it holds
abbrev pub ground_on : {D : Type 0} → Ghosts D → D → Ground
ground_on g d = record {
  cylinders = g.blocks d / 64;
  blocks = g.blocks d;
  reads = λ graph. IsTrue (g.honest d) × IsSoundAs (g.content d) graph;
  unsound = IsTrue (g.honest d) × ¬ IsSound (g.content d);
  faulty = λ fault. IsTrue (g.honest d) → IsOpenFault (g.content d) (why fault);
}

abbrev pub no_ground : Ground
no_ground = record { cylinders = 0; blocks = 0; reads = λ graph. ⊥; unsound = ⊥; faulty = λ fault. ⊥ }

-- why a volume with this fault isn't mended
abbrev pub mend_fault : VolumeFault → MendFault
mend_fault faults.NotVolume = refusals.NotVolume
mend_fault (faults.Version found) = refusals.Version found
mend_fault (faults.Damaged damage) = refusals.Damaged damage

-- a volume that is inspected; if it is to be mended, its fault is one that can't be healed
abbrev pub inspected_on : {D : Type 0} → Ghosts D → (mends : Bool) → D → Ground
inspected_on g false d = ground_on g d
inspected_on g true d = record (ground_on g d) {
  faulty = λ fault. IsTrue (g.honest d) → IsMendFault (g.content d) (mend_fault fault);
}

abbrev inspected_at : {D : Type 0} → Ghosts D → (mends : Bool) → Option D → Ground
inspected_at g mends (Some d) = inspected_on g mends d
inspected_at g mends None = no_ground

abbrev served_at : {D : Type 0} → Ghosts D → Option D → Ground
served_at g (Some d) = ground_on g d
served_at g None = no_ground

abbrev ground_at : {D : Type 0} → Ghosts D → Place → (seed : ℕ) → Option D → Ground
ground_at g (InMemory cylinders) seed disk = new_ground cylinders seed
ground_at g (InFile path pair) seed disk = served_at g disk

-- the ground of what is asked for, with the disk of the volume if it is in a file
abbrev pub ground_of : {D : Type 0} → Ghosts D → Asked → Option D → Ground
ground_of g (Serves service) disk = ground_at g service.volume service.seed disk
ground_of g (Formats format) disk = no_ground
ground_of g (Audits trail) disk = no_ground
ground_of g (Inspects inspection) disk = inspected_at g inspection.mends disk
ground_of g (Spins spin) disk = new_ground spin.cylinders spin.seed
ground_of g (Shows page) disk = no_ground
ground_of g (Dirs names) disk = served_at g disk
ground_of g (Converses talk) disk = served_at g disk
ground_of g Nothing disk = no_ground
