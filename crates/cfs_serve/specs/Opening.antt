-- What is reported of a volume that wasn't opened.
use Rattle.std.specs.Prelude.{◌≡◌, IsTrue, Result, Ok, Err, None}
use Rattle.cfs_base.specs.Outside.{Rose}
use Rattle.cfs_base.specs.declared.disk.Disk.{Ghosts}
use Rattle.cfs_core.specs.Kernel.{Kernel}
use Rattle.cfs_recover.specs.declared.fault.RecoverFault.{RecoverFault}
use Rattle.cfs_recover.specs.declared.fault.RecoverFault.TheVariants as whys
use Rattle.vol_image.specs.Sound.{IsSound}
use Rattle.cfs_recover.specs.Grounds.{IsOpenFault}
use Rattle.cfs_serve.specs.Ground.{why}
use Rattle.cfs_serve.specs.declared.report.Cause.{Cause}
use Rattle.cfs_serve.specs.declared.report.Cause.TheVariants as causes
use Rattle.cfs_serve.specs.declared.report.VolumeFault.TheVariants as faults
use Rattle.cfs_serve.specs.declared.volume.Unopened.{Unopened}

abbrev pub opening_cause : RecoverFault → Cause
opening_cause whys.Disk = causes.Disk None
opening_cause whys.NotVolume = causes.Volume faults.NotVolume
opening_cause (whys.Version found) = causes.Volume (faults.Version found)
opening_cause (whys.Damaged d) = causes.Volume (faults.Damaged d)
opening_cause whys.Memory = causes.Memory

-- Why a volume wasn't opened. A fault is one that an honest disk has, and then it holds no sound volume. A failed call
-- is reported only if one failed. Else memory was wanting.
abbrev pub IsOpeningRefusal : {D : Type 0} → Ghosts D → D → D → Cause → Type 0
IsOpeningRefusal g old new (causes.Volume fault) =
    IsTrue (g.honest old) → (¬ IsSound (g.content old)) × IsOpenFault (g.content old) (why fault)
IsOpeningRefusal g old new (causes.Disk moment) = (moment ≡ None) × Rose (g.faults old) (g.faults new)
IsOpeningRefusal g old new causes.Memory = Unit {0}
IsOpeningRefusal g old new cause = ⊥

-- the disk, in a core or handed back
abbrev pub disk_refused : {D : Type 0} → Result (Kernel D) (Unopened D) → D
disk_refused (Ok k) = k.disk
disk_refused (Err e) = e.disk
