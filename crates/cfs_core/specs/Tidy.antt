-- One part of a commit that is unfinished, made between two calls of the core.
use Rattle.std.specs.Prelude.{◌≡◌, ℕ, ◌-◌, true, false, IsSome, Result, Ok, Err, IfErr, IfOk, Option, Some, None}
use Rattle.cfs_base.specs.Calls.{HasStopped, MakesAtMost, OnlyReads}
use Rattle.cfs_base.specs.declared.disk.Disk.{Ghosts}
use Rattle.cfs_base.specs.declared.refusal.Trouble.{Trouble}
use Rattle.cfs_base.specs.declared.refusal.Trouble.TheVariants as troubles
use Rattle.cyl_alloc.specs.Left.{after_next}
use Rattle.ufs_model.specs.declared.asked.Event.TheVariants as events
use Rattle.ufs_model.specs.State.{State}
use Rattle.cfs_core.specs.declared.kernel.Stop.{Stop}
use Rattle.cfs_core.specs.declared.tidying.Tidy.{Tidy}
use Rattle.cfs_core.specs.declared.tidying.Tidy.TheVariants as tidies
use Rattle.cfs_core.specs.declared.tidying.TidyFault.{TidyFault}
use Rattle.cfs_core.specs.declared.tidying.TidyFault.TheVariants as faults
use Rattle.cfs_core.specs.Asked.{Happens, doubt_of}
use Rattle.cfs_core.specs.Collect.{Rests}
use Rattle.cfs_core.specs.Damage.{IsDamageTold}
use Rattle.cfs_core.specs.Kernel.{Kernel}
use Rattle.cfs_core.specs.StandsFor.{StandsFor}

-- ---- what is reported of trouble, at this moment of the disk

abbrev pub tidy_fault_by : Trouble → ℕ → TidyFault
tidy_fault_by (troubles.Disk tried) moment = faults.Disk (doubt_of tried moment)
tidy_fault_by (troubles.Damaged damage) moment = faults.Damaged damage moment

-- how the core has stopped after such a fault
abbrev pub halt_by : TidyFault → Option Stop → Option Stop
halt_by (faults.Disk None) before = before
halt_by (faults.Disk (Some moment)) before = Some (record { moment = moment; damage = None })
halt_by (faults.Damaged damage moment) before = Some (record { moment = moment; damage = Some damage })
halt_by (faults.Stopped moment) before = before

-- ---- a call

-- It is no event, unless the core stops.
abbrev pub IsTidyResult : {D : Type 0} → Ghosts D → Kernel D → Kernel D → State → Result Tidy TidyFault → Type 0
IsTidyResult g old new s (Ok tidy) = Rests g old new s
IsTidyResult g old new s (Err (faults.Disk None)) = Rests g old new s
IsTidyResult g old new s (Err (faults.Disk (Some moment))) = Happens g old new s (events.Halted moment)
IsTidyResult g old new s (Err (faults.Damaged damage moment)) = Happens g old new s (events.Halted moment)
IsTidyResult g old new s (Err (faults.Stopped moment)) = new ≡ old

-- One part is made of the commit that is left, or none is left and nothing is done.
abbrev pub IsTidyStep : {D : Type 0} → Kernel D → Kernel D → Tidy → Type 0
IsTidyStep old new tidies.Idle = (old.space.left ≡ None) × (new ≡ old)
IsTidyStep old new tidies.Step = IsSome old.space.left × (new.space.left ≡ after_next old.space.left)

-- A device call failed. With a doubt the moment is the one before the disk's present one. At a damage a block is
-- outside its table, and the moment is the disk's present one.
abbrev pub IsTidyCause : {D : Type 0} → Ghosts D → Kernel D → Kernel D → TidyFault → Type 0
IsTidyCause g old new (faults.Disk None) = HasStopped g false old.disk new.disk
IsTidyCause g old new (faults.Disk (Some moment)) =
    HasStopped g true old.disk new.disk × (moment ≡ g.moment new.disk - 1)
IsTidyCause g old new (faults.Damaged damage moment) =
    IsDamageTold g old new None damage × (moment ≡ g.moment new.disk)
IsTidyCause g old new (faults.Stopped moment) = Unit {0}

-- a device call that failed without a doubt leaves all as it was, and so does a core that had stopped at that moment
abbrev pub LeavesAll : {D : Type 0} → Ghosts D → Kernel D → Kernel D → TidyFault → Type 0
LeavesAll g old new (faults.Disk None) = (new ≡ record old { disk = new.disk }) × OnlyReads g 1 old.disk new.disk
LeavesAll g old new (faults.Disk (Some moment)) = Unit {0}
LeavesAll g old new (faults.Damaged damage moment) = Unit {0}
LeavesAll g old new (faults.Stopped moment) =
    (new ≡ old) × ((stop : Stop) × (old.stop ≡ Some stop) × (stop.moment ≡ moment))

abbrev pub IsNoDamage : TidyFault → Type 0
IsNoDamage (faults.Disk doubt) = Unit {0}
IsNoDamage (faults.Damaged damage moment) = ⊥
IsNoDamage (faults.Stopped moment) = ⊥

pub record TidiesVolume {D : Type 0} (g : Ghosts D) (old new : Kernel D) (result : Result Tidy TidyFault) : Type 0 where
  pub event : (s : State) → StandsFor g old s → IsTidyResult g old new s result
  -- a core that had stopped makes no call of the disk
  pub stopped : (stop : Stop) → old.stop ≡ Some stop → (new ≡ old) × (result ≡ Err (faults.Stopped stop.moment))
  -- in a core that runs nothing is unfinished exactly if the turn is idle
  pub part : IfOk result (IsTidyStep old new)
  pub idle : old.stop ≡ None → old.space.left ≡ None → result ≡ Ok tidies.Idle
  pub still : IfErr result (LeavesAll g old new)
  -- no damage is met on a disk that serves
  pub sound : old.stop ≡ None → (s : State) → StandsFor g old s → IfErr result IsNoDamage
  pub stops : IfErr result (λ fault. new.stop ≡ halt_by fault old.stop)
  pub goes_on : IfOk result (λ tidy. new.stop ≡ old.stop)
  pub cause : IfErr result (IsTidyCause g old new)
  pub calls : MakesAtMost g 4 3 old.disk new.disk
  pub same : new ≡ record old { disk = new.disk; space = new.space; stop = new.stop }
