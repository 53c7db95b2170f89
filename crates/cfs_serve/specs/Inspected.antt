-- What is reported of a volume that is checked or mended.
use Rattle.std.specs.Prelude.{◌≡◌, ◌↔◌, ◌⊎◌, ◌+◌, ◌*◌, ◌<◌, Bool, true, false, IsTrue, List, [], ◌∷◌, None}
use Rattle.cfs_base.specs.Calls.{HasFailed, MakesAtMost}
use Rattle.cfs_base.specs.Disk.{Image}
use Rattle.cfs_base.specs.Run.{IsSettled, Leaves}
use Rattle.cfs_base.specs.declared.disk.Disk.{Ghosts}
use Rattle.cfs_base.specs.declared.refusal.Damage.{Damage}
use Rattle.cfs_check.specs.Checked.{IsChecked}
use Rattle.cfs_check.specs.Mended.{IsMendFault, IsMended, MendsTo}
use Rattle.cfs_check.specs.declared.checked.Checked.TheVariants as checks
use Rattle.cfs_check.specs.declared.fault.LoadFault.{LoadFault}
use Rattle.cfs_check.specs.declared.fault.LoadFault.TheVariants as loads
use Rattle.cfs_check.specs.declared.mended.MendFault.{MendFault}
use Rattle.cfs_check.specs.declared.mended.MendFault.TheVariants as mendings
use Rattle.cfs_recover.specs.Recovered.{IsUntouched}
use Rattle.ufs_model.specs.Graph.{Graph}
use Rattle.cfs_serve.specs.Ground.{Ground, mend_fault}
use Rattle.cfs_serve.specs.Limits.{most_inspected}
use Rattle.cfs_serve.specs.Played.{HasNone}
use Rattle.cfs_serve.specs.declared.report.Cause.{Cause}
use Rattle.cfs_serve.specs.declared.report.Cause.TheVariants as causes
use Rattle.cfs_serve.specs.declared.report.Report.{Report}
use Rattle.cfs_serve.specs.declared.report.VolumeFault.{VolumeFault}
use Rattle.cfs_serve.specs.declared.report.VolumeFault.TheVariants as faults

-- ---- what is reported

-- why a volume isn't loaded
abbrev pub load_cause : LoadFault → Cause
load_cause loads.Disk = causes.Disk None
load_cause (loads.Large blocks) = causes.LongVolume
load_cause loads.Memory = causes.Memory

-- the faults that a check lists: of a damaged volume all, of which the first is the cause, and else none
abbrev pub ListsFaults : VolumeFault → List Damage → Type 0
ListsFaults (faults.Damaged first) listed = (rest : List Damage) × (listed ≡ first ∷ rest)
ListsFaults fault listed = listed ≡ []

abbrev pub ListsIf : (mends : Bool) → VolumeFault → List Damage → Type 0
ListsIf true fault listed = listed ≡ []
ListsIf false fault listed = ListsFaults fault listed

-- What an inspection reports, and lists. A check reports that a volume is sound only if it isn't known to be unsound; a
-- mending that is done reports nothing. A fault is reported only if there is no graph that the volume may read as, and
-- a failed disk only if a call failed. Memory may be wanting.
abbrev pub TellsInspection : Ground → (mends : Bool) → (rose : Type 0) → Cause → List Damage → Type 0
TellsInspection ground mends rose (causes.Sound objects left) listed =
    (mends ≡ false) × (listed ≡ []) × ¬ ground.unsound
TellsInspection ground mends rose causes.Nothing listed = (mends ≡ true) × (listed ≡ [])
TellsInspection ground mends rose (causes.Volume fault) listed =
    HasNone ground × ground.faulty fault × ListsIf mends fault listed
TellsInspection ground mends rose (causes.Disk moment) listed = (moment ≡ None) × rose × (listed ≡ [])
TellsInspection ground mends rose causes.Memory listed = listed ≡ []
TellsInspection ground mends rose causes.LongVolume listed = listed ≡ []
TellsInspection ground mends rose cause listed = ⊥

-- that a volume has more blocks than are loaded is reported exactly if it has
pub record IsInspected (ground : Ground) (mends : Bool) (rose : Type 0) (cause : Cause)
    (listed : List Damage) : Type 0 where
  pub long : (cause ≡ causes.LongVolume) ↔ (most_inspected < ground.blocks)
  pub tells : TellsInspection ground mends rose cause listed

-- only an inspection has this cause
abbrev pub is_finding : Cause → Bool
is_finding (causes.Sound objects left) = true
is_finding causes.LongVolume = true
is_finding cause = false

-- why a volume isn't mended
abbrev pub mend_cause : MendFault → Cause
mend_cause mendings.Disk = causes.Disk None
mend_cause mendings.NotVolume = causes.Volume faults.NotVolume
mend_cause (mendings.Version found) = causes.Volume (faults.Version found)
mend_cause (mendings.Damaged damage) = causes.Volume (faults.Damaged damage)
mend_cause mendings.Memory = causes.Memory

-- ---- a check

-- What is reported of an image: that it is sound, or what is wrong with it, with all its faults, of which the first is
-- the cause.
abbrev pub TellsFound : Image → Cause → List Damage → Type 0
TellsFound image (causes.Sound objects left) listed = (listed ≡ []) × IsChecked image (checks.Sound objects left)
TellsFound image (causes.Volume faults.NotVolume) listed = (listed ≡ []) × IsChecked image checks.NotVolume
TellsFound image (causes.Volume (faults.Version found)) listed =
    (listed ≡ []) × IsChecked image (checks.Version found)
TellsFound image (causes.Volume (faults.Damaged first)) listed =
    ListsFaults (faults.Damaged first) listed × IsChecked image (checks.Faults listed)
TellsFound image cause listed = ⊥

-- What a check reports: this of the image that was read, which is an honest disk's content; or that a call of the disk
-- failed; or want of memory.
abbrev pub TellsChecked : {D : Type 0} → Ghosts D → D → D → Cause → List Damage → Type 0
TellsChecked g old new (causes.Disk moment) listed = (listed ≡ []) × (moment ≡ None) × HasFailed g old new
TellsChecked g old new causes.Memory listed = listed ≡ []
TellsChecked g old new causes.LongVolume listed = listed ≡ []
TellsChecked g old new cause listed =
    (image : Image) × (IsTrue (g.honest old) → image ≡ g.content old) × TellsFound image cause listed

-- A volume was checked.
pub record ChecksVolume {D : Type 0} (g : Ghosts D) (told : Report) (old new : D) : Type 0 where
  -- nothing was written: a barrier was made, and each block read once
  pub untouched : IsUntouched g old new
  pub calls : MakesAtMost g (g.blocks old + 1) 1 old new
  -- a volume is refused for its size exactly if it has more blocks than are loaded, and then no call is made
  pub large : (told.cause ≡ causes.LongVolume) ↔ (most_inspected < g.blocks old)
  pub uncalled : told.cause ≡ causes.LongVolume → new ≡ old
  pub tells : TellsChecked g old new told.cause told.faults

-- ---- a mending

-- What a mending reports: of an honest disk that its volume was mended, or the first fault that can't be healed; or
-- that a call of the disk failed; or want of memory.
abbrev pub TellsMended : {D : Type 0} → Ghosts D → D → D → Cause → Type 0
TellsMended g old new causes.Nothing = IsTrue (g.honest old) → IsMended g old new
TellsMended g old new (causes.Volume fault) =
    IsUntouched g old new × (IsTrue (g.honest old) → IsMendFault (g.content old) (mend_fault fault))
TellsMended g old new (causes.Disk moment) = (moment ≡ None) × HasFailed g old new
TellsMended g old new causes.Memory = IsUntouched g old new
TellsMended g old new causes.LongVolume = new ≡ old
TellsMended g old new cause = ⊥

-- Nothing was written before a moment at which no write waited for a barrier. Whatever a crash left since, or leaves
-- now, has P.
abbrev pub LeavesSinceSettled : {D : Type 0} → Ghosts D → D → D → (Image → Type 0) → Type 0
LeavesSinceSettled {D} g old new P = (mid : D) × IsSettled g mid × IsUntouched g old mid × Leaves g mid new P

-- A volume was mended.
pub record MendsVolume {D : Type 0} (g : Ghosts D) (told : Report) (old new : D) : Type 0 where
  pub bare : told.faults ≡ []
  pub large : (told.cause ≡ causes.LongVolume) ↔ (most_inspected < g.blocks old)
  pub tells : TellsMended g old new told.cause
  -- nothing was written, or what a crash left since is mended to what the disk would have become
  pub images : IsTrue (g.honest old) → IsUntouched g old new
      ⊎ ((graph : Graph) × (b : Image) × MendsTo (g.content old) graph b
      × LeavesSinceSettled g old new (λ c. MendsTo c graph b))
  pub calls : MakesAtMost g (3 * g.blocks old + 4) (2 * g.blocks old + 4) old new

abbrev pub InspectsVolume : {D : Type 0} → Ghosts D → (mends : Bool) → Report → D → D → Type 0
InspectsVolume g true told old new = MendsVolume g told old new
InspectsVolume g false told old new = ChecksVolume g told old new
