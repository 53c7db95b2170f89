-- The blocks that a request takes if it is done, and in what order.
use Rattle.std.specs.Prelude.{◌≡◌, ◌≢◌, ◌⊎◌, ℕ, ◌+◌, ◌/◌, Bool, true, false, not, ◌&&◌, if◌then◌else◌, List, [], ◌∷◌}
use Rattle.std.specs.Prelude.{length, Option, None, Some, is_none}
use Rattle.std.specs.Option.{option_map_or}
use Rattle.cfs_base.specs.Disk.{Image}
use Rattle.cfs_base.specs.declared.identifier.Puid.{Puid}
use Rattle.cfs_base.specs.declared.kind.FileKind.TheVariants as kinds
use Rattle.cfs_base.specs.declared.kind.Place.TheVariants as places
use Rattle.claims.specs.Claims.{AreClaimed}
use Rattle.cyl_alloc.specs.Space.{allocated, intended}
use Rattle.cyl_map.specs.Volume.{entry_in}
use Rattle.cyl_map.specs.declared.entry.MapEntry.{MapEntry}
use Rattle.file_ops.specs.Changes.{claims_beside}
use Rattle.index_ops.specs.Changes.{leaf_and_node}
use Rattle.normal_files.specs.Order as plain
use Rattle.special_files.specs.Committing.{TakesShadow}
use Rattle.special_files.specs.Drafting.{Drafting}
use Rattle.special_files.specs.Order.{claims_anew, claims_between, leaf_claims}
use Rattle.ufs_model.specs.Need.{is_normal, takes_draft}
use Rattle.ufs_model.specs.Graph.{object_at}
use Rattle.ufs_model.specs.Object.{leaves_in, written_anew}
use Rattle.ufs_model.specs.Outcome.{block_named, creates}
use Rattle.ufs_model.specs.Refusal.{target}
use Rattle.ufs_model.specs.State.{State, draft_of, file_seen, named, seen}
use Rattle.ufs_model.specs.declared.asked.Ref.{Ref}
use Rattle.ufs_model.specs.declared.asked.Ref.TheVariants.{Direct, Through}
use Rattle.ufs_model.specs.declared.asked.Reply.{Reply}
use Rattle.ufs_model.specs.declared.asked.Request.{Request}
use Rattle.ufs_model.specs.declared.asked.Request.TheVariants as asks
use Rattle.ufs_model.specs.declared.change.Change.{Change}
use Rattle.ufs_model.specs.declared.change.Change.TheVariants.{Fill, Overwrite, SetSize}
use Rattle.ufs_model.specs.declared.object.Draft.{Draft}
use Rattle.ufs_model.specs.declared.object.File.{File}
use Rattle.vol_owners.specs.Change.{IsOpenTo, of_owners}
use Rattle.cfs_core.specs.Kernel.{Handle}
use Rattle.cfs_core.specs.Handles.{drafting_at}

-- ---- in order

-- From image a on a block is claimed for each of these entries, one after another, each the least-numbered Free one.
-- After that only the entries of Free blocks and of blocks of these owners change.
pub record ClaimsInOrder (claims : List MapEntry) (owners : List ℕ) (a b : Image) : Type 0 where
  pub mid : Image
  pub in_order : AreClaimed claims a mid
  pub rest : (n : ℕ) → (entry_in b n ≡ entry_in mid n)
      ⊎ (IsOpenTo (of_owners owners) (entry_in mid n) × IsOpenTo (of_owners owners) (entry_in b n))

-- each block that was claimed up to the image in the middle still has the entry for which it was claimed
abbrev pub KeepsClaims : (a mid b : Image) → Type 0
KeepsClaims a mid b = (n : ℕ) → entry_in mid n ≢ entry_in a n → entry_in b n ≡ entry_in mid n

-- the same, if nothing is dropped again
pub record ClaimsStay (drops : Bool) (claims : List MapEntry) (owners : List ℕ) (a b : Image) : Type 0 where
  pub order : ClaimsInOrder claims owners a b
  pub kept : drops ≡ false → KeepsClaims a order.mid b

-- ---- a file that is changed

-- a normal file takes the leaves and nodes that it doesn't hold yet, a special file all that is written anew
abbrev pub claims_in_place : (at : ℕ) → Change → File → List MapEntry
claims_in_place at (Overwrite offset bytes) f = plain.claims_of at f offset (length bytes)
claims_in_place at (SetSize size) f = []
claims_in_place at (Fill slot what) f = []

abbrev pub claims_in_file : (at : ℕ) → Change → File → List MapEntry
claims_in_file at change f = elim f.kind [
  | kinds.Normal ↦ claims_in_place at change f
  | kinds.Special ↦ claims_beside at change f
]

-- a draft takes those of these that aren't fresh
abbrev pub claims_in_draft : Change → Draft → Drafting → List MapEntry
claims_in_draft (Overwrite offset bytes) d was = claims_between was (offset / 512) (leaves_in (offset + length bytes))
claims_in_draft (SetSize size) d was = claims_anew was.at (written_anew (SetSize size) d.object d.fresh) d.fresh
claims_in_draft (Fill slot what) d was = leaf_claims was.at was.leaves was.nodes (slot / 64)

abbrev pub drafting_of : List Handle → Ref → Option Drafting
drafting_of handles (Direct id) = None
drafting_of handles (Through t) = drafting_at handles t.draw

-- the root block of what a reference goes to
abbrev pub root_reached : State → ℕ → Ref → ℕ
root_reached s who ref = option_map_or (λ (id : Puid). id.block) (named s who ref) 0

-- what a change takes of what is seen through a reference
abbrev pub claims_through : List Handle → State → ℕ → Ref → Change → List MapEntry
claims_through handles s who ref change = elim (draft_of s who ref) [
  | None ↦ claims_in_file (root_reached s who ref) change (file_seen s who ref)
  | Some d ↦ option_map_or (claims_in_draft change d) (drafting_of handles ref) []
]

-- what a slot of an index takes: its leaf and its node, or in a draft those of these that aren't fresh
abbrev pub claims_for_slot : List Handle → State → ℕ → Ref → (slot : ℕ) → List MapEntry
claims_for_slot handles s who ref slot = elim (draft_of s who ref) [
  | None ↦ leaf_and_node (slot / 64) (root_reached s who ref)
  | Some d ↦ option_map_or (claims_in_draft (Fill slot None) d) (drafting_of handles ref) []
]

-- the entry of the root of a new object: if it is made in a draft it is Allocated at once
abbrev pub made_entry : State → ℕ → Ref → Reply → MapEntry
made_entry s who ref reply =
    if is_none (draft_of s who ref) then intended places.Root (block_named reply)
    else allocated places.Root (block_named reply)

-- ---- a request

-- The entries for which a request claims blocks, in their order: a new object's root, then leaves, each with its
-- node, and the shadow root of a draft that begins.
abbrev pub claims_for : List Handle → State → ℕ → Request → Reply → List MapEntry
claims_for handles s who (asks.CreateFile kind fill index slot) reply =
    made_entry s who index reply ∷ claims_for_slot handles s who index slot
claims_for handles s who (asks.CreateIndex slots index slot) reply =
    made_entry s who index reply ∷ claims_for_slot handles s who index slot
claims_for handles s who (asks.Retain index slot id) reply = claims_for_slot handles s who index slot
claims_for handles s who (asks.Delete index slot) reply = claims_for_slot handles s who index slot
claims_for handles s who (asks.OpenFor id mode) reply =
    if takes_draft mode (object_at s.graph id) then intended places.ShadowRoot id.block ∷ [] else []
claims_for handles s who (asks.Write file offset bytes) reply =
    claims_through handles s who file (Overwrite offset bytes)
claims_for handles s who (asks.Resize file size) reply = claims_through handles s who file (SetSize size)
claims_for handles s who request reply = []

-- the roots of the object to which it goes, and of one that it makes
abbrev pub owners_of : State → ℕ → Request → Reply → List ℕ
owners_of s who request reply =
    root_reached s who (target request) ∷ (if creates request then block_named reply ∷ [] else [])

abbrev pub is_set_size : Request → Bool
is_set_size (asks.Resize file size) = true
is_set_size request = false

-- what is seen is no normal file, and no draft
abbrev pub is_beside : State → ℕ → Ref → Bool
is_beside s who ref = is_none (draft_of s who ref) && not (is_normal (seen s who ref).object)

-- Whether the request is a commit of its own: that takes a shadow root last, and gives it back.
abbrev pub commits_alone : State → ℕ → Request → Bool
commits_alone s who (asks.CreateFile kind fill index slot) = is_beside s who index
commits_alone s who (asks.CreateIndex slots index slot) = is_beside s who index
commits_alone s who (asks.Retain index slot id) = is_beside s who index
commits_alone s who (asks.Delete index slot) = is_beside s who index
commits_alone s who (asks.Write file offset bytes) = is_beside s who file
commits_alone s who (asks.Resize file size) = is_beside s who file
commits_alone s who request = false

-- From image a to image b the blocks are taken that the request takes, and the shadow root of its own commit last.
pub record TakesForRequest (handles : List Handle) (s : State) (who : ℕ) (request : Request) (reply : Reply)
    (a b : Image) : Type 0 where
  pub order : ClaimsInOrder (claims_for handles s who request reply) (owners_of s who request reply) a b
  pub shadow : commits_alone s who request ≡ true → TakesShadow (root_reached s who (target request)) order.mid b
  -- if the request is no commit of its own, and no resize, the blocks that were claimed have their entries in image b
  pub kept : commits_alone s who request ≡ false → is_set_size request ≡ false → KeepsClaims a order.mid b
