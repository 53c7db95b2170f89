-- What holds of a collector at any time.
use Rattle.std.specs.Prelude.{ℕ, ◌*◌, ◌<◌, ◌≤◌}
use Rattle.collector_steps.specs.declared.phase.Phase.{Phase}
use Rattle.collector_steps.specs.declared.phase.Phase.TheVariants as phases

-- while it marks there is room to hand out each object, and a sweep is at a cylinder of the volume
abbrev pub IsPhaseReady : Phase → (blocks spare : ℕ) → Type 0
IsPhaseReady phases.Idle blocks spare = Unit {0}
IsPhaseReady phases.Marking blocks spare = blocks ≤ spare
IsPhaseReady (phases.Inner cylinder) blocks spare = 64 * cylinder < blocks
IsPhaseReady (phases.Roots cylinder) blocks spare = 64 * cylinder < blocks
IsPhaseReady phases.Swept blocks spare = Unit {0}

pub record IsSteady (phase : Phase) (blocks spare : ℕ) : Type 0 where
  pub some : 0 < blocks
  pub ready : IsPhaseReady phase blocks spare
