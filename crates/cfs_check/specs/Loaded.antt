-- Why an image isn't read from a disk.
use Rattle.std.specs.Prelude.{◌≡◌, ℕ, ◌<◌}
use Rattle.cfs_base.specs.Calls.{HasFailed}
use Rattle.cfs_base.specs.declared.disk.Disk.{Ghosts}
use Rattle.cfs_check.specs.declared.fault.LoadFault.{LoadFault}
use Rattle.cfs_check.specs.declared.fault.LoadFault.TheVariants as faults

-- a device call failed, or the disk has more blocks than can be loaded
abbrev pub IsLoadFault : {D : Type 0} → Ghosts D → D → D → LoadFault → Type 0
IsLoadFault g old new faults.Disk = HasFailed g old new
IsLoadFault g old new (faults.Large blocks) = (blocks ≡ g.blocks old) × (524288 < blocks)
IsLoadFault g old new faults.Memory = Unit {0}
