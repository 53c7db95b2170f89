-- What a run does to the disk of its volume.
use Rattle.std.specs.Prelude.{◌≡◌, ◌⊎◌, ℕ, ◌+◌, ◌≤◌, Bool, true, false, IsTrue, List, ◌∷◌, Option, Some, None, IsSome}
use Rattle.cfs_base.specs.Calls.{MakesAtMost}
use Rattle.cfs_base.specs.Disk.{Image}
use Rattle.cfs_base.specs.Outside.{Rose, count_after}
use Rattle.cfs_base.specs.Run.{IsSettled, Leaves}
use Rattle.cfs_base.specs.declared.disk.Disk.{Ghosts}
use Rattle.cfs_recover.specs.Recovered.{IsUntouched}
use Rattle.survival.specs.Trail.{RunSurvives}
use Rattle.ufs_model.specs.declared.asked.Event.{Event}
use Rattle.ufs_model.specs.Graph.{Graph}
use Rattle.ufs_model.specs.Run.{replay}
use Rattle.ufs_model.specs.State.{State}
use Rattle.ufs_model.specs.Word.{word}
use Rattle.vol_format.specs.Fresh.{IsFormatted, MayBeFresh}
use Rattle.vol_image.specs.Sound.{IsSound, IsSoundAs, rooted_part}
use Rattle.cfs_core.specs.Kernel.{Kernel}
use Rattle.cfs_serve.specs.declared.report.Cause.{Cause}
use Rattle.cfs_serve.specs.declared.report.Cause.TheVariants as causes
use Rattle.cfs_serve.specs.declared.ending.Ending.{Ending}
use Rattle.cfs_serve.specs.declared.report.Report.{Report}
use Rattle.cfs_serve.specs.declared.report.VolumeFault.{VolumeFault}
use Rattle.cfs_serve.specs.Ending.{IsStopTimed}
use Rattle.cfs_serve.specs.Volume.{EndsCore}
use Rattle.cfs_serve.specs.Events.{tells_disk, tells_fault}
use Rattle.cfs_serve.specs.Logs.{MomentsRise, faults_after, first_fault}
use Rattle.cfs_serve.specs.Inspected.{InspectsVolume}
use Rattle.cfs_serve.specs.Words.{Asked, Audits, Converses, Dirs, Format, Formats, InFile, InMemory, Inspects}
use Rattle.cfs_serve.specs.Words.{Nothing, Place, Serves, Shows, Spins}

-- A volume was made on a disk, or the disk failed.
pub record MakesVolume {D : Type 0} (g : Ghosts D) (format : Format) (cause : Cause) (old new : D) : Type 0 where
  -- if no failure is reported, an honest disk is sound, reads as a root index of 64 empty slots whose identifier is
  -- block 2 and the seed's first word, and has nothing else
  pub made : IsTrue (g.honest old) → cause ≡ causes.Nothing → IsFormatted g new (word format.seed 0)
  -- a crash on the way leaves what it might have left before, or no volume, or that one
  pub images : IsTrue (g.honest old) → Leaves g old new (MayBeFresh (word format.seed 0))
  -- a call for each cylinder, and six more
  pub calls : MakesAtMost g (format.cylinders + 6) (format.cylinders + 6) old new

-- The first write or barrier that was tried is a barrier. If it was done, whatever a crash left since, or leaves now,
-- has P.
abbrev pub LeavesSinceTry : {D : Type 0} → Ghosts D → D → D → (Image → Type 0) → Type 0
LeavesSinceTry {D} g old new P = (Rose (g.faults old) (g.faults new) × Rose (g.moment old) (g.moment new)
    × IsUntouched g old new × (g.tries new ≡ count_after (g.tries old)))
    ⊎ ((mid : D) × IsSettled g mid × IsUntouched g old mid × (g.tries mid ≡ count_after (g.tries old))
    × Leaves g mid new P)

-- the cause is in the sources
abbrev pub is_of_sources : Cause → Bool
is_of_sources (causes.Source n) = true
is_of_sources (causes.Long n) = true
is_of_sources causes.LongTotal = true
is_of_sources cause = false

-- neither the disk's count of failed calls nor its clock has fallen
abbrev pub IsLater : {D : Type 0} → Ghosts D → D → D → Type 0
IsLater g old new = (g.faults old ≤ g.faults new) × (g.moment old ≤ g.moment new)

-- What serving a volume does to its disk. An honest disk that holds a sound volume reads as some graph.
pub record ServesVolume {D : Type 0} (g : Ghosts D) (seed : ℕ) (told : Report) (ending : Ending) (trail : List Event)
    (moments : List ℕ) (old new : D) : Type 0 where
  -- the disk as the opening left it, or as it was if there was no opening
  pub opened : D
  pub later : IsLater g old opened
  pub rises : g.faults opened ≤ g.faults new
  -- no moment along the trail is below the one before it, from the opening on, and none above the last
  pub rise : IsSome told.counts → MomentsRise (g.moment opened) moments (g.moment new)
  -- what a crash leaves since the first barrier of the opening reads as before
  pub opening : IsTrue (g.honest old) → (graph : Graph) → IsSoundAs (g.content old) graph
      → (opened ≡ old) ⊎ LeavesSinceTry g old opened (λ c. IsSoundAs c graph)
  pub unserved : told.counts ≡ None → new ≡ opened
  -- if the volume was refused for what is wrong with it, or isn't sound, nothing was written; if a source failed or is
  -- too long, the volume wasn't opened
  pub untouched : IsTrue (g.honest old) → told.counts ≡ None → (fault : VolumeFault) → told.cause ≡ causes.Volume fault
      → IsUntouched g old new
  pub unsound : IsTrue (g.honest old) → ¬ IsSound (g.content old) → IsUntouched g old new
  pub unread : told.counts ≡ None → is_of_sources told.cause ≡ true → new ≡ old
  -- what a crash leaves since the k-th event was recorded survives at least k events of the run, and since the opening
  -- any number
  pub crashes : IsSome told.counts → IsTrue (g.honest old) → (graph : Graph) → IsSoundAs (g.content old) graph
      → RunSurvives g seed graph trail (g.moment opened ∷ moments) new
  -- if all went well the disk that is handed back is sound, and reads as what is rooted after the last event
  pub sound : told.cause ≡ causes.Nothing → IsTrue (g.honest old) → (graph : Graph) → IsSoundAs (g.content old) graph
      → (last : State) → replay seed graph trail ≡ Some last → IsSoundAs (g.content new) (rooted_part last.graph)
  -- Since the opening the count of failed calls rose at least by the Disk replies of the trail, and by one if a step of
  -- the collector was refused for a failed call without a doubt. If an honest disk held a sound volume, it rose by the
  -- stops of the trail too.
  pub faults : IsSome told.counts → faults_after tells_disk trail
      (first_fault ending.refused (g.faults opened)) ≤ g.faults new
  pub stops : IsSome told.counts → IsTrue (g.honest old) → (graph : Graph) → IsSoundAs (g.content old) graph
      → faults_after tells_fault trail (first_fault ending.refused (g.faults opened)) ≤ g.faults new
  -- a core that stopped did so at the last call of the disk
  pub timed : IsStopTimed ending.stop (g.moment new)
  -- the core that gave its status last, with its disk as it is handed back
  pub core : IsSome told.counts → (last : Kernel D) × (last.disk ≡ new) × EndsCore seed
      (λ graph. IsTrue (g.honest old) × IsSoundAs (g.content old) graph) ending trail last

abbrev MakesOn : {D : Type 0} → Ghosts D → Format → Cause → Option D → Option D → Type 0
MakesOn g format cause (Some old) (Some new) = MakesVolume g format cause old new
MakesOn g format cause (Some old) None = ⊥
MakesOn g format cause None new = ⊥

abbrev InspectsOn : {D : Type 0} → Ghosts D → (mends : Bool) → Report → Option D → Option D → Type 0
InspectsOn g mends told (Some old) (Some new) = InspectsVolume g mends told old new
InspectsOn g mends told (Some old) None = ⊥
InspectsOn g mends told None new = ⊥

abbrev ServesOn : {D : Type 0} → Ghosts D → Place → (seed : ℕ) → Report → Ending → List Event → List ℕ
    → Option D → Option D
    → Type 0
ServesOn g (InMemory cylinders) seed told ending trail moments old new = new ≡ old
ServesOn g (InFile path pair) seed told ending trail moments (Some old) (Some new) =
    ServesVolume g seed told ending trail moments old new
ServesOn g (InFile path pair) seed told ending trail moments (Some old) None = ⊥
ServesOn g (InFile path pair) seed told ending trail moments None new = ⊥

-- A volume is made, inspected or served on the disk that is asked for. Else there is no disk, before and after. What
-- lines of names and a conversation do to a disk is said with them.
abbrev pub OnDisk : {D : Type 0} → Ghosts D → Asked → Report → Ending → List Event → List ℕ → Option D
    → Option D → Type 0
OnDisk g (Formats format) told ending trail moments old new = MakesOn g format told.cause old new
OnDisk g (Serves service) told ending trail moments old new =
    ServesOn g service.volume service.seed told ending trail moments old new
OnDisk g (Inspects inspection) told ending trail moments old new = InspectsOn g inspection.mends told old new
OnDisk g (Audits text) told ending trail moments old new = new ≡ old
OnDisk g (Spins spin) told ending trail moments old new = new ≡ old
OnDisk g (Shows page) told ending trail moments old new = new ≡ old
OnDisk g (Dirs names) told ending trail moments old new = Unit {0}
OnDisk g (Converses talk) told ending trail moments old new = Unit {0}
OnDisk g Nothing told ending trail moments old new = new ≡ old
