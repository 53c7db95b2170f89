-- Refusals, handed on by the calls above.
use Rattle.std.proofs.Common.{◌≡◌, ◌≢◌, ◌⊎◌, inl, inr, ℕ, ◌*◌, ◌<◌, ◌≤◌, List, length, refl, sym, ◌∙◌, ap, subst, arith, Err}
use Rattle.cfs_recover.proofs.Words.{Damage, Ghosts, Graph, HasLabel, HasNoLabel, HasVersion, IfErr, Image, IsCaused, NamesDamage, IsErrAnd, IsFaultOf, IsLabelled, IsOpenFault, IsSoundAs, IsWalk, Label, MapEntry, MatchResult, Ok, OnlyReads, RecoverFault, Result, Stores, TellsNothing, Walk, Walks, block_at, says, tells_on}
use Rattle.cfs_recover.proofs.NoFault.{sound_no_fault}
use Rattle.cfs_base.proofs.Calls.{failed_after}
use Rattle.cfs_recover.specs.declared.fault.RecoverFault.TheVariants as faults
use Rattle.vol_label.specs.Label.{IsLabel, IsOtherVersion, is_version, spelling}

-- a label is of a version that is read
no_other : (block : List ℕ) (label : Label) (found : ℕ) → IsLabel label → block ≡ spelling label → ¬ IsOtherVersion block found
no_other block label found is spelled other =
    let same : found ≡ label.version = sym other.here ∙ (says block label is spelled).version in
    cc (ap is_version same, is.version, other.other)

-- more is said of the damage
pub damage_as : (P Q : Damage → Type 0) (e : RecoverFault) → ((d : Damage) → P d → Q d) → NamesDamage P e → NamesDamage Q e
damage_as P Q faults.Disk more is = is
damage_as P Q faults.NotVolume more is = is
damage_as P Q (faults.Version found) more is = is
damage_as P Q (faults.Damaged d) more is = more d is
damage_as P Q faults.Memory more is = is

-- a call that only reads leaves the image as it was
pub stored_on : {D : Type 0} (g : Ghosts D) (old new : D) (n : ℕ) (image : Image) → OnlyReads g n old new → Stores g old image → Stores g new image
stored_on g old new n image reads stored = record {
  tells = tells_on g old new new n reads stored.tells;
  content = rw reads.content stored.content;
  size = rw reads.same.size stored.size;
  blocks = stored.blocks;
}

pub walks_on : {D : Type 0} (g : Ghosts D) (old new : D) (n : ℕ) (image : Image) (maps : List (List MapEntry)) (w v : Walk) (done : ℕ) → OnlyReads g n old new → Walks g old image maps w done → IsWalk image v done
    → Walks g new image maps v done
walks_on g old new n image maps w v done reads walks walk = record { stored = stored_on g old new n image reads walks.stored; maps_are = walks.maps_are; walk = walk }

-- ---- at the exit of a `?`

-- of a check
pub told_err : {T : Type 0} (P : T → Type 0) (Q : Damage → Type 0) (r : Result T RecoverFault) (d : Damage) → IsErrAnd r (λ e. e ≡ faults.Damaged d) → Q d → MatchResult r P (NamesDamage Q)
told_err P Q (Ok v) d is q = absurd is
told_err P Q (Err e) d is q = subst (NamesDamage Q) (sym is) q

-- of a part
pub told_on : {T : Type 0} (P : T → Type 0) (Q R : Damage → Type 0) (r : Result T RecoverFault) (e : RecoverFault) → IsErrAnd r (λ f. f ≡ e) → NamesDamage Q e → ((d : Damage) → Q d → R d) → MatchResult r P (NamesDamage R)
told_on P Q R (Ok v) e is q more = absurd is
told_on P Q R (Err f) e is q more = subst (NamesDamage R) (sym is) (damage_as Q R e more q)

-- a refusal that no device call caused
pub caused_otherwise : {D : Type 0} (g : Ghosts D) (old new : D) (e : RecoverFault) → e ≢ faults.Disk → IsCaused g old new e
caused_otherwise g old new faults.Disk other = absurd (other refl)
caused_otherwise g old new faults.NotVolume other = tt
caused_otherwise g old new (faults.Version found) other = tt
caused_otherwise g old new (faults.Damaged d) other = tt
caused_otherwise g old new faults.Memory other = tt

pub caused_err : {D T : Type 0} (g : Ghosts D) (old new : D) (r : Result T RecoverFault) (e : RecoverFault) → IsErrAnd r (λ f. f ≡ e) → e ≢ faults.Disk → IfErr r (IsCaused g old new)
caused_err g old new (Ok v) e is other = tt
caused_err g old new (Err f) e is other = subst (IsCaused g old new) (sym is) (caused_otherwise g old new e other)

-- of a call after some reads
pub caused_after : {D : Type 0} (g : Ghosts D) (old mid new : D) (n : ℕ) (e : RecoverFault) → OnlyReads g n old mid → IsCaused g mid new e → IsCaused g old new e
caused_after g old mid new n faults.Disk reads is = failed_after g old mid new n reads is
caused_after g old mid new n faults.NotVolume reads is = tt
caused_after g old mid new n (faults.Version found) reads is = tt
caused_after g old mid new n (faults.Damaged d) reads is = tt
caused_after g old mid new n faults.Memory reads is = tt

-- a label of this version stands on a volume of its size
pub labelled : (image : Image) (label : Label) → HasLabel image label → 64 * label.cylinders ≡ length image → IsLabelled image
labelled image label has size = let some = has.is_label.some in record { long = omega (arith, size, some); label = label; has = has }

-- what is wrong with a part is wrong with a volume that has a label
pub open_fault : (image : Image) (e : RecoverFault) → IsLabelled image → NamesDamage (IsFaultOf image) e → IsOpenFault image e
open_fault image faults.Disk label is = tt
open_fault image faults.NotVolume label is = absurd is
open_fault image (faults.Version found) label is = absurd is
open_fault image (faults.Damaged d) label is = (label, is)
open_fault image faults.Memory label is = tt

pub opens_err : {T : Type 0} (P : T → Type 0) (image : Image) (r : Result T RecoverFault) (e : RecoverFault) → IsErrAnd r (λ f. f ≡ e) → IsOpenFault image e → MatchResult r P (IsOpenFault image)
opens_err P image (Ok v) e is wrong = absurd is
opens_err P image (Err f) e is wrong = subst (IsOpenFault image) (sym is) wrong

pub if_err : {T : Type 0} (P : RecoverFault → Type 0) (r : Result T RecoverFault) (e : RecoverFault) → IsErrAnd r (λ f. f ≡ e) → P e → IfErr r P
if_err P (Ok v) e is p = absurd is
if_err P (Err f) e is p = subst P (sym is) p

-- ---- in their order

module _ (image : Image) where
  short_of_label : length image < 3 → 3 ≤ length image → ⊥
  short_of_label few long = omega (arith, few, long)

  no_label_too : HasNoLabel image → IsLabelled image → ⊥
  no_label_too (inl few) label = short_of_label few label.long
  no_label_too (inr none) label = let has = label.has in none.no_label label.label has.is_label has.spelled

  no_version_too : (found : ℕ) → HasNoLabel image → HasVersion image found → ⊥
  no_version_too found (inl few) other = short_of_label few other.0
  no_version_too found (inr none) other = none.no_version found other.1

  one_version : (found : ℕ) → HasVersion image found → IsLabelled image → ⊥
  one_version found other label =
      let has = label.has in
      no_other (block_at image 1) label.label found has.is_label has.spelled other.1

  pub no_label_first : (e : RecoverFault) → HasNoLabel image → IsOpenFault image e → (e ≡ faults.NotVolume) ⊎ TellsNothing e
  no_label_first faults.Disk none is = inr tt
  no_label_first faults.NotVolume none is = inl refl
  no_label_first (faults.Version found) none is = absurd (no_version_too found none is)
  no_label_first (faults.Damaged d) none is = absurd (no_label_too none is.0)
  no_label_first faults.Memory none is = inr tt

  pub version_next : (found : ℕ) (e : RecoverFault) → HasVersion image found → IsOpenFault image e → (e ≡ faults.Version found) ⊎ TellsNothing e
  version_next found faults.Disk other is = inr tt
  version_next found faults.NotVolume other is = absurd (no_version_too found is other)
  version_next found (faults.Version v) other is = inl (ap faults.Version (sym is.1.here ∙ other.1.here))
  version_next found (faults.Damaged d) other is = absurd (one_version found other is.0)
  version_next found faults.Memory other is = inr tt

  pub fault_last : (e : RecoverFault) → IsLabelled image → IsOpenFault image e → NamesDamage (IsFaultOf image) e
  fault_last faults.Disk label is = tt
  fault_last faults.NotVolume label is = absurd (no_label_too is label)
  fault_last (faults.Version found) label is = absurd (one_version found is label)
  fault_last (faults.Damaged d) label is = is.1
  fault_last faults.Memory label is = tt

-- a sound volume is refused for a failed call or want of memory alone
pub sound_refused : (image : Image) (g : Graph) → IsSoundAs image g → (e : RecoverFault) → IsOpenFault image e → (e ≡ faults.Disk) ⊎ (e ≡ faults.Memory)
sound_refused image g sound faults.Disk is = inl refl
sound_refused image g sound faults.Memory is = inr refl
sound_refused image g sound (faults.Damaged d) is = absurd (sound_no_fault image g sound d.code d.block is.1)
sound_refused image g sound faults.NotVolume (inl few) = let label = sound.holds.label in absurd (omega (arith, few, label.size_is, label.is_label.some))
sound_refused image g sound faults.NotVolume (inr none) = let label = sound.holds.label in absurd (none.no_label label.label label.is_label label.spelled)
sound_refused image g sound (faults.Version found) is =
    let label = sound.holds.label in
    absurd (no_other (block_at image 1) label.label found label.is_label label.spelled is.1)
