-- The first and the last that is told of a volume: of its label, its entries and its room.
use Rattle.std.proofs.Common.{◌≡◌, ◌≢◌, ◌⊎◌, ◌↔◌, inl, inr, ℕ, zero, suc, ◌+◌, ◌*◌, ◌<◌, ◌≤◌, Bool, true, false, nat_lt, List, [], ◌∷◌, length, get_or, replicate, Some, None, refl, sym, ◌∙◌, ap, subst, arith, MatchBool, MatchResult, IfOk, Result, Ok, Err}
use Rattle.std.proofs.lemmas.Bool.Decides.{nat_tests}
use Rattle.std.proofs.lemmas.List.{length-replicate}
use Rattle.std.specs.List.{Contains}
use Rattle.std.specs.Prelude.{slice_get}
use Rattle.cfs_base.specs.Codes as codes
use Rattle.cfs_base.specs.Disk.{Image, block_at}
use Rattle.cfs_base.specs.declared.refusal.Damage.{Damage}
use Rattle.vol_image.specs.Fault.{Fault, HasLabel, NamesNothing, NamesRoot, ObjectFault}
use Rattle.vol_image.specs.Faults.{AreFaultsOf, IsDamageBefore, IsListed}
use Rattle.vol_label.specs.Label.{IsLabel, IsNoVolume, IsOtherVersion, spelling}
use Rattle.vol_label.specs.declared.label.Label.{Label}
use Rattle.vol_label.specs.declared.label.LabelFault.{LabelFault}
use Rattle.vol_label.specs.declared.label.LabelFault.TheVariants as labels
use Rattle.cfs_recover.specs.Entries.{AreStanding, IsShadow, damage}
use Rattle.cfs_recover.specs.declared.standing.Shadow.{Shadow}
use Rattle.cfs_recover.specs.declared.standing.Shadow.TheVariants as shadow
use Rattle.cfs_check.specs.Marks.{AddsMarks, IsToldOf}
use Rattle.cfs_check.specs.Surveyed.{GroundFault, IsEntryFault, IsShadowFault, IsLabelFault, LastFault}
use Rattle.cfs_check.specs.Uses.{Use, unused_in}
use Rattle.cfs_check.proofs.Marked.{adds_as, adds_then}
use Rattle.cfs_check.proofs.Noted.{retold}

-- ---- the label

pub label_told : (image : Image) (block : List ℕ) (r : Result Label LabelFault) → block ≡ block_at image 1 → 3 ≤ length image → IfOk r (λ l. IsLabel l × (block ≡ spelling l))
    → ((found : ℕ) → (r ≡ Err (labels.Version found)) ↔ IsOtherVersion block found) → (r ≡ Err labels.NotVolume) ↔ IsNoVolume block → MatchResult r (HasLabel image) (IsLabelFault image)
label_told image block (Ok l) same long read version none = record { is_label = read.0; spelled = sym same ∙ read.1 }
label_told image block (Err labels.NotVolume) same long read version none = inr (subst IsNoVolume same (none.0 refl))
label_told image block (Err (labels.Version found)) same long read version none = (long, subst (λ (b : List ℕ). IsOtherVersion b found) same ((version found).0 refl))

-- ---- the size

object_code : (image : Image) (r code n : ℕ) → ObjectFault image r code n → code ≢ 1
object_code image r code n (ObjectFault.NoRoot none) = λ is. omega (arith, is)
object_code image r code n (ObjectFault.NoShadow s has other) = λ is. omega (arith, is)
object_code image r code n (ObjectFault.PastDisk root o path k shows past) = λ is. omega (arith, is)
object_code image r code n (ObjectFault.NotOwned place m used other) = λ is. omega (arith, is)
object_code image r code n (ObjectFault.SlotNamesNothing x root index s h leaf slot nothing) = λ is. omega (arith, is)
object_code image r code n (ObjectFault.NoRootIndex root two read other) = λ is. omega (arith, is)
object_code image r code n (ObjectFault.TwoShadows two) = λ is. omega (arith, is)
object_code image r code n (ObjectFault.PastSize root o leaf h here past) = λ is. omega (arith, is)
object_code image r code n (ObjectFault.NotFilled root o leaf i h here below past other) = λ is. omega (arith, is)
object_code image r code n (ObjectFault.DeadEnd root o path h shows at below short none) = λ is. omega (arith, is)

size_block : (image : Image) (code n : ℕ) → Fault image code n → code ≡ 1 → n ≡ 1
size_block image code n (Fault.WrongSize l has other) is = refl
size_block image code n (Fault.NoEntry m below none) is = absurd (omega (arith, is))
size_block image code n (Fault.RootOfAnother m e at root other) is = absurd (omega (arith, is))
size_block image code n (Fault.NotReserved m below fixed other) is = absurd (omega (arith, is))
size_block image code n (Fault.LabelNamesNothing l has nothing) is = absurd (omega (arith, is))
size_block image code n (Fault.InObject id c m reached wrong) is = absurd (object_code image id.block c m wrong is)
size_block image code n (Fault.TooFull left leaves few) is = absurd (omega (arith, is))

pub size_alone : (image : Image) (l : Label) → HasLabel image l → 64 * l.cylinders ≢ length image → AreFaultsOf image (damage 1 codes.wrong_size ∷ [])
size_alone image l has other = record {
  rise = λ j k d e less one two. at j k d e less two;
  each = λ d is. let same = one_of d is in subst (IsListed image) same (record { is = Fault.WrongSize l has other; alone = λ m its differ. refl });
  all = λ d listed.
      let code = listed.alone l has other in
      let block = size_block image d.code d.block listed.is code in
      (0, omega arith, λ i. record { block = sym block i; code = sym code i });
}
  where
    at : (j k : ℕ) (d e : Damage) → j < k → slice_get (damage 1 codes.wrong_size ∷ []) k ≡ Some e → IsDamageBefore d e
    at j zero d e less two = absurd (omega (arith, less))
    at j (suc k) d e less two = cc

    one_of : (d : Damage) → Contains (damage 1 codes.wrong_size ∷ []) d → damage 1 codes.wrong_size ≡ d
    one_of d (zero, inside, is) = is
    one_of d (suc k, inside, is) = absurd (omega (arith, inside))

-- ---- what is told at the beginning

pub none_stand : (image : Image) (n : ℕ) → AreStanding image 0 (replicate n shadow.None)
none_stand image n r below = subst (IsShadow []) (sym (none n r)) refl
  where
    none : (n r : ℕ) → get_or (replicate n shadow.None) r shadow.None ≡ shadow.None
    none zero r = refl
    none (suc n) zero = refl
    none (suc n) (suc r) = none n r

pub ground_told : (image : Image) (label : Label) (bad : Bool) → MatchBool bad (NamesNothing image label.root) (NamesRoot image label.root) → (m0 m1 m2 : List Bool)
    → AddsMarks (IsEntryFault image (length image)) m0 m1 → AddsMarks (IsToldOf bad 6 1) m1 m2 → AddsMarks (GroundFault image label) m0 m2
ground_told image label bad names m0 m1 m2 first second = adds_as (λ code k. IsEntryFault image (length image) code k ⊎ IsToldOf bad 6 1 code k) (GroundFault image label) m0 m2 (adds_then _ _ m0 m1 m2 first second) to from
  where
    nothing : (b : Bool) → MatchBool b (NamesNothing image label.root) (NamesRoot image label.root) → b ≡ true → NamesNothing image label.root
    nothing true is told = is
    nothing false is told = cc

    both : NamesNothing image label.root → NamesRoot image label.root → ⊥
    both (inl none) is = is.some none
    both (inr (inl past)) is = omega (arith, past, is.on_disk)
    both (inr (inr (root, spelled, other))) is = other (is.word root spelled)

    told : (b : Bool) → MatchBool b (NamesNothing image label.root) (NamesRoot image label.root) → NamesNothing image label.root → b ≡ true
    told true is none = refl
    told false is none = absurd (both none is)

    to : (code k : ℕ) → IsEntryFault image (length image) code k ⊎ IsToldOf bad 6 1 code k → GroundFault image label code k
    to code k (inl is) = GroundFault.OfEntry code k is
    to code k (inr t) = retold (GroundFault image label) bad 6 1 code k t (GroundFault.OfLabel (nothing bad names t.is_told))

    from : (code k : ℕ) → GroundFault image label code k → IsEntryFault image (length image) code k ⊎ IsToldOf bad 6 1 code k
    from code k (GroundFault.OfEntry c m is) = inl is
    from code k (GroundFault.OfLabel none) = inr (record { is_told = told bad names none; code_is = refl; block_is = refl })

-- ---- and at the end

is_less : (m n : ℕ) → nat_lt m n ≡ true → m < n
is_less m n is = grind (arith, nat_tests)

less_is : (m n : ℕ) → m < n → nat_lt m n ≡ true
less_is m n less = grind (arith, nat_tests)

pub last_told : (image : Image) (found : List ℕ) (of : List Use) (left : ℕ) → left ≡ unused_in of → (m0 m1 m2 : List Bool) → AddsMarks (IsShadowFault image found (length image)) m0 m1 → AddsMarks (IsToldOf (nat_lt left 4) 11 0) m1 m2 → AddsMarks (LastFault image found of) m0 m2
last_told image found of left same m0 m1 m2 first second = adds_as (λ code k. IsShadowFault image found (length image) code k ⊎ IsToldOf (nat_lt left 4) 11 0 code k) (LastFault image found of) m0 m2 (adds_then _ _ m0 m1 m2 first second) to from
  where
    to : (code k : ℕ) → IsShadowFault image found (length image) code k ⊎ IsToldOf (nat_lt left 4) 11 0 code k → LastFault image found of code k
    to code k (inl is) = LastFault.OfShadow code k is
    to code k (inr t) = retold (LastFault image found of) (nat_lt left 4) 11 0 code k t (LastFault.OfRoom (subst (λ (n : ℕ). n < 4) same (is_less left 4 t.is_told)))

    from : (code k : ℕ) → LastFault image found of code k → IsShadowFault image found (length image) code k ⊎ IsToldOf (nat_lt left 4) 11 0 code k
    from code k (LastFault.OfShadow c m is) = inl is
    from code k (LastFault.OfRoom few) = inr (record { is_told = less_is left 4 (subst (λ (n : ℕ). n < 4) (sym same) few); code_is = refl; block_is = refl })
