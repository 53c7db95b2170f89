-- A spin: a service of four sessions whose scripts are drawn, and whose sinks take all and keep nothing.
use Rattle.std.specs.Prelude.{ℕ, false, List, [], ◌∷◌, map, Some, None}
use Rattle.cfs_base.specs.Outside.{Intake, Supply}
use Rattle.cfs_workload.specs.Workload.{script}
use Rattle.cfs_serve.specs.Words.{Files, InMemory, Service, Spin}

abbrev pub drawn_scripts : (seed count : ℕ) → List (List ℕ)
drawn_scripts seed count = script seed 0 count ∷ script seed 1 count ∷ script seed 2 count ∷ script seed 3 count ∷ []

-- a source that has this text
abbrev pub source_of : List ℕ → Supply
source_of text = record { left = Some text; faults = 0 }

abbrev pub drawn_sources : (seed count : ℕ) → List Supply
drawn_sources seed count = map source_of (drawn_scripts seed count)

abbrev pub drain : Intake
drain = record { taken = None; faults = 0 }

abbrev pub drains : List Intake
drains = drain ∷ drain ∷ drain ∷ drain ∷ []

abbrev no_files : Files
no_files = record { input = []; output = [] }

-- two collections are called for
abbrev pub service_of : Spin → Service
service_of spin = record {
  volume = InMemory spin.cylinders;
  seed = spin.seed;
  collections = 2;
  sessions = no_files ∷ no_files ∷ no_files ∷ no_files ∷ [];
  traced = false;
}
