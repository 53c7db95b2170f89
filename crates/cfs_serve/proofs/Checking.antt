-- What a check tells, from what was loaded and found.
use Rattle.std.proofs.Common.{◌≡◌, inl, inr, ℕ, ◌+◌, ◌<◌, ◌≤◌, IsTrue, false, List, [], ◌∷◌, get_or, refl, sym, subst, arith, Ok, Err}
use Rattle.std.specs.List.{Contains}
use Rattle.cfs_base.specs.Calls.{MakesAtMost}
use Rattle.cfs_recover.proofs.NoFault.{sound_no_fault}
use Rattle.cfs_recover.proofs.Refused.{fault_last}
use Rattle.cfs_recover.specs.Grounds.{IsLabelled}
use Rattle.cfs_recover.specs.declared.fault.RecoverFault.TheVariants as whys
use Rattle.cfs_serve.proofs.Cited.{Cause, Damage, Ghosts, Graph, Image, IsInspected, IsOpenFault, IsSound, IsSoundAs, IsUntouched, Report, Rose, VolumeFault, cases_lt, ground_on, most_inspected}
use Rattle.cfs_serve.specs.Ground.{why}
use Rattle.cfs_serve.specs.Inspected.{ChecksVolume, ListsFaults, TellsChecked, TellsFound, TellsInspection}
use Rattle.cfs_serve.specs.declared.report.Cause.TheVariants as causes
use Rattle.cfs_serve.specs.declared.report.VolumeFault.TheVariants as faults

-- ---- what is wrong with a volume that isn't sound

pub sound_labelled : (image : Image) (graph : Graph) → IsSoundAs image graph → IsLabelled image
sound_labelled image graph sound =
    let label = sound.holds.label in
    record {
      long = (let one = label.is_label.some in let size = label.size_is in omega (arith, one, size));
      label = label.label;
      has = record { is_label = label.is_label; spelled = label.spelled };
    }

pub unsound : (image : Image) (fault : VolumeFault) → IsOpenFault image (why fault) → (graph : Graph) → ¬ IsSoundAs image graph
unsound image faults.NotVolume is graph sound = fault_last image whys.NotVolume (sound_labelled image graph sound) is
unsound image (faults.Version found) is graph sound = fault_last image (whys.Version found) (sound_labelled image graph sound) is
unsound image (faults.Damaged d) is graph sound = sound_no_fault image graph sound d.code d.block is.1

-- ---- a check

-- the first of the faults that are listed
pub first_of : (listed seen : List Damage) (none : Damage) → seen ≡ listed → ¬ (listed ≡ []) → ListsFaults (faults.Damaged (get_or seen 0 none)) listed
first_of listed [] none same some = absurd (some (sym same))
first_of listed (d ∷ seen) none same some = (seen, sym same)

-- what was loaded has no more blocks than may be
pub few_loaded : {T E : Type 0} {P : Type 0} (n : ℕ) (v : T) (e : E) → (most_inspected < n → (Ok v ≡ Err e) × P) → n ≤ most_inspected
few_loaded n v e large = elim (cases_lt most_inspected n) [
  | inl far ↦ absurd (cc ((large far).0))
  | inr few ↦ few
]

module _ {D : Type 0} (g : Ghosts D) (old new : D) (untouched : IsUntouched g old new) (calls : MakesAtMost g (g.blocks old + 1) 1 old new) where
  module _ (few : g.blocks old ≤ most_inspected) where
    by : (told : Report) → ¬ (told.cause ≡ causes.LongVolume) → TellsChecked g old new told.cause told.faults → ChecksVolume g told old new
    by told other tells = record {
      untouched = untouched;
      calls = calls;
      large = ((λ e. absurd (other e)), (λ big. absurd (omega (arith, big, few))));
      uncalled = λ e. absurd (other e);
      tells = tells;
    }

    -- it was found
    abbrev Seen : Image → Cause → List Damage → Type 0
    Seen image cause listed = (¬ (cause ≡ causes.LongVolume)) × TellsChecked g old new cause listed

    seen : (image : Image) → (IsTrue (g.honest old) → image ≡ g.content old) → (cause : Cause) (listed : List Damage) → TellsFound image cause listed → Seen image cause listed
    seen image same (causes.Sound objects left) listed is = ((λ e. cc e), (image, same, is))
    seen image same (causes.Volume fault) listed is = ((λ e. cc e), (image, same, is))
    seen image same cause listed is = absurd is

    pub found : (image : Image) → (IsTrue (g.honest old) → image ≡ g.content old) → (told : Report) → TellsFound image told.cause told.faults → ChecksVolume g told old new
    found image same told is = let s = seen image same told.cause told.faults is in by told s.0 s.1

-- ---- what it shows of the volume

module _ {D : Type 0} (g : Ghosts D) (old new : D) where
  abbrev Shows : Cause → List Damage → Type 0
  Shows cause listed = TellsInspection (ground_on g old) false (Rose (g.faults old) (g.faults new)) cause listed

  -- what is wrong with what was read of an honest disk
  wrong : (image : Image) → (IsTrue (g.honest old) → image ≡ g.content old) → (fault : VolumeFault) (listed : List Damage) → IsOpenFault image (why fault) → ListsFaults fault listed → Shows (causes.Volume fault) listed
  wrong image same fault listed is lists = (
    (λ graph reads. unsound (g.content old) fault (subst (λ c. IsOpenFault c (why fault)) (same reads.0) is) graph reads.1),
    (λ honest. subst (λ c. IsOpenFault c (why fault)) (same honest) is),
    lists,
  )

  shows : (cause : Cause) (listed : List Damage) → TellsChecked g old new cause listed → Shows cause listed
  shows (causes.Sound objects left) listed tells = (refl, tells.2.0, (λ so. so.1 (subst IsSound (tells.1 so.0) (tells.2.1.graph, tells.2.1.sound))))
  shows (causes.Volume faults.NotVolume) listed tells = wrong tells.0 tells.1 faults.NotVolume listed tells.2.1 tells.2.0
  shows (causes.Volume (faults.Version other)) listed tells = wrong tells.0 tells.1 (faults.Version other) listed tells.2.1 tells.2.0
  shows (causes.Volume (faults.Damaged first)) listed tells =
      let lists = tells.2.0 in
      let all = tells.2.1 in
      let here : Contains listed first = subst (λ ds. Contains ds first) (sym lists.1) (0, omega arith, refl) in
      wrong tells.0 tells.1 (faults.Damaged first) listed (all.0, (all.2.each first here).is) lists
  shows (causes.Disk moment) listed tells = (tells.1, tells.2.cause, tells.0)
  shows causes.Memory listed tells = tells
  shows causes.LongVolume listed tells = tells
  shows cause listed tells = absurd tells.2

  pub inspected : (told : Report) → ChecksVolume g told old new → IsInspected (ground_on g old) false (Rose (g.faults old) (g.faults new)) told.cause told.faults
  inspected told checks = record { long = checks.large; tells = shows told.cause told.faults checks.tells }
