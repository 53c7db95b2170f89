-- A core that carries out what its last commit has left, part by part.
use Rattle.std.specs.Prelude.{◌≡◌, Option, Some, None, Result, Ok, Err}
use Rattle.cfs_base.specs.declared.disk.Disk.{Ghosts}
use Rattle.cfs_core.specs.Kernel.{Kernel}
use Rattle.cfs_core.specs.Tidy.{TidiesVolume}
use Rattle.cfs_core.specs.declared.collecting.CollectFault.{CollectFault}
use Rattle.cfs_core.specs.declared.tidying.Tidy.{Tidy}
use Rattle.cfs_core.specs.declared.tidying.Tidy.TheVariants as tidies
use Rattle.cfs_core.specs.declared.tidying.TidyFault.{TidyFault}
use Rattle.cfs_serve.specs.Turns.{fault_as}

-- some parts were made
pub data MakesParts {D : Type 0} (g : Ghosts D) (old : Kernel D) : Kernel D → Type 0 where
  Begun : MakesParts g old old
  After : {mid new : Kernel D} → MakesParts g old mid → TidiesVolume g mid new (Ok tidies.Step) → MakesParts g old new

-- until nothing was left, or the core was refused
abbrev pub EndsTidying : {D : Type 0} → Ghosts D → Kernel D → Kernel D → Option CollectFault → Type 0
EndsTidying g old new None = TidiesVolume g old new (Ok tidies.Idle)
EndsTidying g old new (Some refused) =
    (fault : TidyFault) × (refused ≡ fault_as fault) × TidiesVolume g old new (Err fault)

pub record TidiesAll {D : Type 0} (g : Ghosts D) (old new : Kernel D) (refused : Option CollectFault) : Type 0 where
  pub mid : Kernel D
  pub parts : MakesParts g old mid
  pub ends : EndsTidying g mid new refused
