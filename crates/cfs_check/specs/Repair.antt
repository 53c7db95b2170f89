-- What is written when a volume is mended: roots, and then maps.
use Rattle.std.specs.Prelude.{◌≡◌, ◌≢◌, ◌⊎◌, ℕ, ◌+◌, ◌*◌, ◌/◌, ◌%◌, ◌<◌, ◌≤◌, true, false, if◌then◌else◌, ◌==◌, List}
use Rattle.std.specs.Prelude.{length, map, get_or, slice_get, Some}
use Rattle.std.specs.List.{range_with_len}
use Rattle.cfs_base.specs.Codes as codes
use Rattle.cfs_base.specs.Disk.{Image, block_at}
use Rattle.cfs_base.specs.declared.identifier.Puid.{Puid}
use Rattle.cfs_base.specs.declared.refusal.Damage.{Damage}
use Rattle.cyl_alloc.specs.Space.{unheld_entry}
use Rattle.cyl_map.specs.Entry.{IsEntry}
use Rattle.cyl_map.specs.Map.{map_spelling}
use Rattle.cyl_map.specs.declared.entry.MapEntry.{MapEntry}
use Rattle.cyl_map.specs.declared.state.BlockState.TheVariants.{Allocated}
use Rattle.ufs_model.specs.declared.object.Object.{Object}
use Rattle.ufs_model.specs.Graph.{Graph, object_at}
use Rattle.ufs_model.specs.Numbers.{has_number}
use Rattle.vol_image.specs.Fault.{Fault, shown_root}
use Rattle.vol_image.specs.Part.{reserved}
use Rattle.cfs_check.specs.Mended.{MendsTo}
use Rattle.cfs_check.specs.Sized.{IsLoadable}
use Rattle.cfs_check.specs.Surveyed.{IsSurveyed}
use Rattle.cfs_check.specs.Uses.{Use}
use Rattle.cfs_check.specs.declared.survey.Surveyed.{Surveyed}
use Rattle.cfs_check.specs.declared.uses.Use.TheVariants as uses

-- ---- which faults maps heal, if blocks are used so

-- maps don't heal this fault: it isn't of an entry, or it is of the entry of a block that is used twice
abbrev pub IsUnhealed : List Use → Damage → Type 0
IsUnhealed of d = ((d.code ≢ codes.no_entry) × (d.code ≢ codes.not_owned))
    ⊎ ((d.code ≡ codes.not_owned) × (get_or of d.block uses.Free ≡ uses.Twice))

-- maps heal the first faults
abbrev pub AreHealed : List Use → List Damage → ℕ → Type 0
AreHealed of ds below = (k : ℕ) (d : Damage) → k < below → slice_get ds k ≡ Some d → ¬ IsUnhealed of d

-- this is the first fault that maps don't heal
pub record IsFirstOf (of : List Use) (ds : List Damage) (d : Damage) : Type 0 where
  pub k : ℕ
  pub here : slice_get ds k ≡ Some d
  pub unhealed : IsUnhealed of d
  pub before : AreHealed of ds k

-- ---- the blocks that are written

-- the entry of a block with this use
abbrev pub mended_entry : Use → MapEntry
mended_entry uses.Free = unheld_entry
mended_entry uses.Fixed = reserved
mended_entry (uses.By owner place) = record { state = Allocated; committed = false; place = Some place; owner = owner }
mended_entry uses.Twice = unheld_entry

-- the entry of each use is valid
abbrev pub AreMapUses : List Use → Type 0
AreMapUses of = (n : ℕ) → IsEntry (mended_entry (get_or of n uses.Free))

-- the first entries of a cylinder
unfoldable pub entries_below : List Use → (cylinder below : ℕ) → List MapEntry
entries_below of j n = map (λ k. mended_entry (get_or of (64 * j + k) uses.Free)) (range_with_len 0 n)

abbrev pub mended_entries : List Use → ℕ → List MapEntry
mended_entries of j = entries_below of j 64

abbrev pub mended_map : List Use → ℕ → List ℕ
mended_map of j = map_spelling (mended_entries of j)

-- the content of a block: a map, a root block that was found, or another
abbrev pub mended_block : Image → List ℕ → List Use → ℕ → List ℕ
mended_block image found of n =
    if n % 64 == 0 then mended_map of (n / 64)
    else (if has_number n found then shown_root image n else block_at image n)

unfoldable pub mended : Image → List ℕ → List Use → Image
mended image found of = map (mended_block image found of) (range_with_len 0 (length image))

-- ---- what is written

-- all faults are of entries, no block is used twice, and the entry of each use is valid
pub record IsMendable (image : Image) (s : Surveyed) : Type 0 where
  pub loadable : IsLoadable image
  pub surveyed : IsSurveyed image s
  pub entries : (code n : ℕ) → Fault image code n → (code ≡ codes.no_entry) ⊎ (code ≡ codes.not_owned)
  pub single : (n : ℕ) → n < length image → get_or s.survey.uses n uses.Free ≢ uses.Twice
  pub spelled : AreMapUses s.survey.uses

-- a root block of the graph, with its content in image b
pub record IsRootIn (g : Graph) (b : Image) (n : ℕ) (content : List ℕ) : Type 0 where
  pub id : Puid
  pub object : Object
  pub there : object_at g id ≡ Some object
  pub block : id.block ≡ n
  pub is : content ≡ block_at b n

-- what is to be written: each root block that was found, and each map
pub record IsMendPlan (image : Image) (rs : List ℕ) (of : List Use) (g : Graph) (b : Image) : Type 0 where
  pub mends : MendsTo image g b
  pub cylinders : 64 * (length image / 64) ≡ length image
  pub roots : (r : ℕ) → has_number r rs ≡ true → IsRootIn g b r (shown_root image r)
  pub found : (id : Puid) (o : Object) → object_at g id ≡ Some o → has_number id.block rs ≡ true
  pub maps : (j : ℕ) → 64 * j < length image → block_at b (64 * j) ≡ mended_map of j

-- ---- images on the way

-- each root block has its content in b already
abbrev pub HasRoots : Image → Graph → Image → Type 0
HasRoots c g b = (id : Puid) (o : Object) → object_at g id ≡ Some o → block_at c id.block ≡ block_at b id.block

-- the image is mended to b
abbrev pub Mends : Graph → Image → Image → Type 0
Mends g b c = MendsTo c g b

-- the same, and its roots are written
abbrev pub MendsMaps : Graph → Image → Image → Type 0
MendsMaps g b c = MendsTo c g b × HasRoots c g b

-- the first of the root blocks that were found are written, and no map
pub record WroteRoots (image : Image) (found : List ℕ) (b c : Image) (below : ℕ) : Type 0 where
  pub each : (n : ℕ) → (block_at c n ≡ block_at image n) ⊎ (block_at c n ≡ block_at b n)
  pub done : (k r : ℕ) → k < below → slice_get found k ≡ Some r → block_at c r ≡ block_at b r
  pub maps : (j : ℕ) → block_at c (64 * j) ≡ block_at image (64 * j)

-- the first of the maps are written
pub record WroteMaps (image b c : Image) (below : ℕ) : Type 0 where
  pub done : (j : ℕ) → j < below → block_at c (64 * j) ≡ block_at b (64 * j)
  pub rest : (j : ℕ) → below ≤ j → block_at c (64 * j) ≡ block_at image (64 * j)
