-- How a volume is opened.
use Rattle.std.specs.Prelude.{◌≡◌, ℕ, Result, Ok, Err}
use Rattle.cfs_base.specs.declared.disk.Disk.{Ghosts}
use Rattle.ufs_model.specs.Graph.{Graph}
use Rattle.ufs_model.specs.State.{opening}
use Rattle.cfs_core.specs.declared.opening.OpenFault.{OpenFault}
use Rattle.cfs_core.specs.Kernel.{Kernel}
use Rattle.cfs_core.specs.StandsFor.{StandsFor}

-- the core stands for these objects, nothing is open, and no word of the seed was drawn
pub record IsOpenedCore {D : Type 0} (g : Ghosts D) (graph : Graph) (seed : ℕ) (k : Kernel D) : Type 0 where
  pub stands : StandsFor g k (opening graph)
  pub words : k.words ≡ record { seed = seed; drawn = 0 }

-- the disk, in a core or handed back
abbrev pub disk_of : {D : Type 0} → Result (Kernel D) (OpenFault D) → D
disk_of (Ok k) = k.disk
disk_of (Err e) = e.disk
