-- A turn of a core's collector.
use Rattle.std.specs.Prelude.{◌≡◌, IsSome, Option, Some, None, Result, Ok, Err}
use Rattle.cfs_base.specs.declared.disk.Disk.{Ghosts}
use Rattle.cfs_core.specs.Collect.{CollectsStep}
use Rattle.cfs_core.specs.Kernel.{Kernel}
use Rattle.cfs_core.specs.Tidy.{TidiesVolume}
use Rattle.cfs_core.specs.declared.collecting.CollectFault.{CollectFault}
use Rattle.cfs_core.specs.declared.collecting.CollectFault.TheVariants as faults
use Rattle.cfs_core.specs.declared.collecting.Step.{Step}
use Rattle.cfs_core.specs.declared.tidying.Tidy.{Tidy}
use Rattle.cfs_core.specs.declared.tidying.TidyFault.{TidyFault}
use Rattle.cfs_core.specs.declared.tidying.TidyFault.TheVariants as tidy_faults

-- the fault of a step that is reported in the same words
abbrev pub fault_as : TidyFault → CollectFault
fault_as (tidy_faults.Disk doubt) = faults.Disk doubt
fault_as (tidy_faults.Damaged damage moment) = faults.Damaged damage moment
fault_as (tidy_faults.Stopped moment) = faults.Stopped moment

abbrev pub part_made : Result Tidy TidyFault → Result (Option Step) CollectFault
part_made (Ok tidy) = Ok None
part_made (Err fault) = Err (fault_as fault)

abbrev pub step_made : Result Step CollectFault → Result (Option Step) CollectFault
step_made (Ok step) = Ok (Some step)
step_made (Err fault) = Err fault

-- A part of the commit that is unfinished, or else a step.
pub data TakesTurn {D : Type 0} (g : Ghosts D) (old new : Kernel D)
    (result : Result (Option Step) CollectFault) : Type 0 where
  Tidied : (made : Result Tidy TidyFault) → result ≡ part_made made → IsSome old.space.left
      → TidiesVolume g old new made
      → TakesTurn g old new result
  Stepped : (made : Result Step CollectFault) → result ≡ step_made made → old.space.left ≡ None
      → CollectsStep g old new made
      → TakesTurn g old new result
