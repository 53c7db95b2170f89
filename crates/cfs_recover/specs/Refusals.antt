-- Why a part of recovery is refused.
use Rattle.cfs_base.specs.Calls.{HasFailed}
use Rattle.cfs_base.specs.declared.disk.Disk.{Ghosts}
use Rattle.cfs_base.specs.declared.refusal.Damage.{Damage}
use Rattle.cfs_recover.specs.declared.fault.RecoverFault.{RecoverFault}
use Rattle.cfs_recover.specs.declared.fault.RecoverFault.TheVariants as faults

-- if the refusal says that a device call failed, one did
abbrev pub IsCaused : {D : Type 0} → Ghosts D → D → D → RecoverFault → Type 0
IsCaused g old new faults.Disk = HasFailed g old new
IsCaused g old new faults.NotVolume = Unit {0}
IsCaused g old new (faults.Version found) = Unit {0}
IsCaused g old new (faults.Damaged d) = Unit {0}
IsCaused g old new faults.Memory = Unit {0}

-- the refusal names a damage with P, or says nothing of the volume: a device call failed, or there was no memory
abbrev pub NamesDamage : (Damage → Type 0) → RecoverFault → Type 0
NamesDamage P faults.Disk = Unit {0}
NamesDamage P faults.NotVolume = ⊥
NamesDamage P (faults.Version found) = ⊥
NamesDamage P (faults.Damaged d) = P d
NamesDamage P faults.Memory = Unit {0}

-- the refusal says nothing of the volume
abbrev pub TellsNothing : RecoverFault → Type 0
TellsNothing e = NamesDamage (λ d. ⊥) e
