-- All that is found of a volume whose size is right.
use Rattle.std.specs.Prelude.{◌≡◌, ◌≢◌, ℕ, ◌*◌, ◌<◌, Bool, true, false, List, [], ◌∷◌, length, replicate, Option}
use Rattle.std.specs.Prelude.{Some, None}
use Rattle.std.specs.List.{Contains}
use Rattle.cfs_base.specs.Codes as codes
use Rattle.cfs_base.specs.Disk.{Image}
use Rattle.cfs_base.specs.declared.kind.Place.TheVariants as places
use Rattle.cyl_map.specs.Volume.{entry_in, map_of}
use Rattle.cyl_map.specs.declared.entry.MapEntry.{MapEntry}
use Rattle.ufs_model.specs.Numbers.{has_number}
use Rattle.vol_image.specs.Fault.{Fault, HasLabel, IsOtherShadow, NamesNothing, has_own_bit}
use Rattle.vol_image.specs.Part.{is_fixed, part_at, reserved, stands_for}
use Rattle.vol_label.specs.declared.label.Label.{Label}
use Rattle.vol_label.specs.declared.label.LabelFault.{LabelFault}
use Rattle.vol_label.specs.declared.label.LabelFault.TheVariants as labels
use Rattle.cfs_recover.specs.Grounds.{HasNoLabel, HasVersion}
use Rattle.cfs_check.specs.Items.{HasAllOf, HasFound, IsItemOf, Item}
use Rattle.cfs_check.specs.Marks.{AddsMarks, is_marked}
use Rattle.cfs_check.specs.Opened.{IsStandingOf, IsWalkTo}
use Rattle.cfs_check.specs.Uses.{Use, first_uses, unused_in}
use Rattle.cfs_check.specs.declared.survey.Survey.{Survey}
use Rattle.cfs_check.specs.declared.survey.Surveyed.{Surveyed}

-- why an image has no label of this version
abbrev pub IsLabelFault : Image → LabelFault → Type 0
IsLabelFault image labels.NotVolume = HasNoLabel image
IsLabelFault image (labels.Version found) = HasVersion image found

-- ---- entries

-- the bytes of a block's entry spell none, or the entry is of a root whose owner is another block
abbrev pub IsNoEntry : ℕ → Option MapEntry → Type 0
IsNoEntry n None = Unit {0}
IsNoEntry n (Some e) = (e.place ≡ Some places.Root) × (e.owner ≢ n)

-- the block is a map block or the label, and its entry isn't that of one
abbrev pub IsNotReserved : ℕ → Option MapEntry → Type 0
IsNotReserved n e = (is_fixed n ≡ true) × (e ≢ Some reserved)

-- what is wrong with such an entry
pub data WrongEntry (n : ℕ) (e : Option MapEntry) : ℕ → ℕ → Type 0 where
  NoEntry : IsNoEntry n e → WrongEntry n e codes.no_entry (map_of n)
  NotReserved : IsNotReserved n e → WrongEntry n e codes.not_owned n

abbrev pub EntryFaultAt : Image → ℕ → ℕ → ℕ → Type 0
EntryFaultAt image n = WrongEntry n (entry_in image n)

-- what is wrong with the entry of one of the first blocks
pub record IsEntryFault (image : Image) (below code n : ℕ) : Type 0 where
  pub block : ℕ
  pub before : block < below
  pub fault : EntryFaultAt image block code n

-- ---- shadow roots

-- The block is a shadow root that stands for an object that was found, but is no root, or one of another kind or
-- word.
pub record IsBadShadow (image : Image) (found : List ℕ) (s : ℕ) : Type 0 where
  pub root : ℕ
  pub on_disk : root < length image
  pub is_found : has_number root found ≡ true
  pub bit : has_own_bit root (part_at image root) ≡ true
  pub stands : stands_for root (entry_in image s) ≡ true
  pub other : IsOtherShadow image root s

-- one of the first blocks is such a shadow root
pub record IsShadowFault (image : Image) (found : List ℕ) (below code n : ℕ) : Type 0 where
  pub before : n < below
  pub bad : IsBadShadow image found n
  pub code_is : code ≡ codes.no_root

-- ---- all

-- every rooted object was looked at, and nothing else
pub record IsWholeSurvey (image : Image) (s : Survey) : Type 0 where
  pub label : Label
  pub has : HasLabel image label
  pub items : List Item
  pub found : HasFound image items s.uses s.roots
  pub all : (r : ℕ) → has_number r s.roots.blocks ≡ true → HasAllOf image items r
  pub only : (i : Item) → Contains items i → IsItemOf image i

-- exactly the faults of the volume are marked
pub record MarksFaults (image : Image) (marks : List Bool) : Type 0 where
  pub size : length marks ≡ 12 * length image
  pub each : (code n : ℕ) → code < 12 → is_marked marks code n ≡ true → Fault image code n
  pub all : (code n : ℕ) → Fault image code n → (code < 12) × (is_marked marks code n ≡ true)

pub record IsSurveyed (image : Image) (s : Surveyed) : Type 0 where
  pub table : IsStandingOf image s.standing
  pub whole : IsWholeSurvey image s.survey
  pub size : 64 * whole.label.cylinders ≡ length image
  pub faults : MarksFaults image s.survey.marks

-- ---- how a survey begins and ends

-- nothing was looked at yet: only the root index is found
pub record IsSurveyBegun (blocks : ℕ) (s : Survey) : Type 0 where
  pub marks : s.marks ≡ replicate (12 * blocks) false
  pub uses : s.uses ≡ first_uses blocks
  pub roots : s.roots ≡ record { blocks = 2 ∷ []; room = blocks }

-- what is wrong with the entries, and with the label
pub data GroundFault (image : Image) (label : Label) : ℕ → ℕ → Type 0 where
  OfEntry : (code n : ℕ) → IsEntryFault image (length image) code n → GroundFault image label code n
  OfLabel : NamesNothing image label.root → GroundFault image label codes.names_nothing 1

-- these faults are marked, and no object was looked at
pub record IsStarted (image : Image) (label : Label) (s : Surveyed) : Type 0 where
  pub table : IsStandingOf image s.standing
  pub marks : AddsMarks (GroundFault image label) (replicate (12 * length image) false) s.survey.marks
  pub walk : IsWalkTo image s.survey.marks 0 s.survey

-- what is wrong with shadow roots, and with the room
pub data LastFault (image : Image) (found : List ℕ) (of : List Use) : ℕ → ℕ → Type 0 where
  OfShadow : (code n : ℕ) → IsShadowFault image found (length image) code n → LastFault image found of code n
  OfRoom : unused_in of < 4 → LastFault image found of codes.too_full 0
