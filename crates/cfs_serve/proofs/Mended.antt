-- What a mending tells, from what was loaded and mended.
use Rattle.std.proofs.Common.{◌≡◌, ◌⊎◌, inl, inr, ℕ, ◌+◌, ◌*◌, ◌<◌, ◌≤◌, IsTrue, true, List, [], None, refl, sym, subst, arith, Result, Ok, Err}
use Rattle.std.specs.Result.{IsErrAnd, MatchResult}
use Rattle.cfs_base.proofs.Calls.{failed_since, makes_then}
use Rattle.cfs_base.specs.Calls.{HasFailed, MakesAtMost}
use Rattle.cfs_check.specs.Mended.{IsMendFault, IsMended, LeavesMending, MendsTo}
use Rattle.cfs_check.specs.declared.mended.MendFault.{MendFault}
use Rattle.cfs_check.specs.declared.mended.MendFault.TheVariants as mendings
use Rattle.cfs_recover.proofs.NoFault.{sound_no_fault}
use Rattle.cfs_recover.proofs.Opening.{untouched_then}
use Rattle.cfs_recover.proofs.Refused.{fault_last}
use Rattle.cfs_recover.specs.declared.fault.RecoverFault.TheVariants as whys
use Rattle.cfs_serve.proofs.Cited.{Cause, Damage, Ghosts, Graph, Image, IsInspected, IsSoundAs, IsUntouched, Report, Rose, VolumeFault, most_inspected, untold}
use Rattle.cfs_serve.proofs.Checking.{sound_labelled}
use Rattle.cfs_serve.specs.Ground.{inspected_on, mend_fault}
use Rattle.cfs_serve.specs.Inspected.{LeavesSinceSettled, MendsVolume, TellsInspection, TellsMended, mend_cause}
use Rattle.cfs_serve.specs.declared.report.Cause.TheVariants as causes
use Rattle.cfs_serve.specs.declared.report.VolumeFault.TheVariants as faults

-- an error, passed on as another
pub by_err : {T E : Type 0} (P : T → Type 0) (Q : E → Type 0) (r : Result T E) (e : E) → IsErrAnd r (λ f. f ≡ e) → Q e → MatchResult r P Q
by_err P Q (Ok v) e is q = absurd is
by_err P Q (Err f) e is q = subst Q (sym is) q

module _ {D : Type 0} (g : Ghosts D) (old mid : D) (untouched : IsUntouched g old mid) (loading : MakesAtMost g (g.blocks old + 1) 1 old mid) where
  module _ (few : g.blocks old ≤ most_inspected) (image : Image) (same : IsTrue (g.honest old) → image ≡ g.content old) (new : D) (images : IsTrue (g.honest mid) → LeavesMending g mid new)
      (mends : MakesAtMost g (2 * g.blocks mid + 3) (2 * g.blocks mid + 3) mid new) where
    still : IsTrue (g.honest old) → IsTrue (g.honest mid)
    still honest = subst IsTrue (sym loading.same.honesty) honest

    left : LeavesMending g mid new → IsUntouched g old new ⊎ ((graph : Graph) × (b : Image) × MendsTo (g.content old) graph b × LeavesSinceSettled g old new (λ c. MendsTo c graph b))
    left (inl none) = inl (untouched_then g old mid new untouched none)
    left (inr (graph, b, to, inl failed)) = inl (untouched_then g old mid new untouched failed.untouched)
    left (inr (graph, b, to, inr since)) =
        inr (graph, b, subst (λ a. MendsTo a graph b) untouched.content to, (since.0, since.1.settled, untouched_then g old mid since.0 untouched since.1.untouched, since.2))

    calls : MakesAtMost g (3 * g.blocks old + 4) (2 * g.blocks old + 4) old new
    calls =
        let size : g.blocks mid ≡ g.blocks old = loading.same.size in
        makes_then g old mid new (g.blocks old + 1) (2 * g.blocks mid + 3) (3 * g.blocks old + 4) 1 (2 * g.blocks mid + 3) (2 * g.blocks old + 4) loading mends (omega (arith, size)) (omega (arith, size))

    by : (cause : Cause) → ¬ (cause ≡ causes.LongVolume) → TellsMended g old new cause → MendsVolume g (untold cause) old new
    by cause other tells = record {
      bare = refl;
      large = ((λ e. absurd (other e)), (λ big. absurd (omega (arith, big, few))));
      tells = tells;
      images = λ honest. left (images (still honest));
      calls = calls;
    }

    -- it was mended
    pub mended : (IsTrue (g.honest mid) → IsMended g mid new) → MendsVolume g (untold causes.Nothing) old new
    mended is = by causes.Nothing (λ e. cc e) (λ honest. let m = is (still honest) in record {
      graph = m.graph;
      mends = subst (λ a. MendsTo a m.graph (g.content new)) untouched.content m.mends;
      settled = m.settled;
    })

    -- or it wasn't
    pub refused : (fault : MendFault) → IsMendFault image fault → (¬ (fault ≡ mendings.Disk) → IsUntouched g mid new) → (fault ≡ mendings.Disk → HasFailed g mid new) → MendsVolume g (untold (mend_cause fault)) old new
    refused mendings.Disk is none failed = by (causes.Disk None) (λ e. cc e) (refl, failed_since g old mid new loading.later loading.faults (failed refl))
    refused mendings.NotVolume is none failed =
        by (causes.Volume faults.NotVolume) (λ e. cc e) (untouched_then g old mid new untouched (none (λ e. cc e)), (λ honest. subst (λ c. IsMendFault c mendings.NotVolume) (same honest) is))
    refused (mendings.Version found) is none failed =
        by (causes.Volume (faults.Version found)) (λ e. cc e) (untouched_then g old mid new untouched (none (λ e. cc e)), (λ honest. subst (λ c. IsMendFault c (mendings.Version found)) (same honest) is))
    refused (mendings.Damaged d) is none failed =
        by (causes.Volume (faults.Damaged d)) (λ e. cc e) (untouched_then g old mid new untouched (none (λ e. cc e)), (λ honest. subst (λ c. IsMendFault c (mendings.Damaged d)) (same honest) is))
    refused mendings.Memory is none failed = by causes.Memory (λ e. cc e) (untouched_then g old mid new untouched (none (λ e. cc e)))

-- ---- what it shows of the volume

unmended : (image : Image) (fault : VolumeFault) → IsMendFault image (mend_fault fault) → (graph : Graph) → ¬ IsSoundAs image graph
unmended image faults.NotVolume is graph sound = fault_last image whys.NotVolume (sound_labelled image graph sound) is
unmended image (faults.Version found) is graph sound = fault_last image (whys.Version found) (sound_labelled image graph sound) is
unmended image (faults.Damaged d) is graph sound = sound_no_fault image graph sound d.code d.block is.listed.is

module _ {D : Type 0} (g : Ghosts D) (old new : D) where
  shows : (cause : Cause) (listed : List Damage) → listed ≡ [] → TellsMended g old new cause → TellsInspection (inspected_on g true old) true (Rose (g.faults old) (g.faults new)) cause listed
  shows causes.Nothing listed bare tells = (refl, bare)
  shows (causes.Volume fault) listed bare tells = ((λ graph reads. unmended (g.content old) fault (tells.1 reads.0) graph reads.1), tells.1, bare)
  shows (causes.Disk moment) listed bare tells = (tells.0, tells.1.cause, bare)
  shows causes.Memory listed bare tells = bare
  shows causes.LongVolume listed bare tells = bare
  shows cause listed bare tells = absurd tells

  pub inspected : (told : Report) → MendsVolume g told old new → IsInspected (inspected_on g true old) true (Rose (g.faults old) (g.faults new)) told.cause told.faults
  inspected told mends = record { long = mends.large; tells = shows told.cause told.faults mends.bare mends.tells }
