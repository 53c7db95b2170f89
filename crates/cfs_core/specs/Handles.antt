-- The grants of all sessions, with the drafts of special files and indices that are open for writing.
use Rattle.std.specs.Prelude.{◌≡◌, ℕ, ◌<◌, ◌≤◌, Bool, false, not, ◌&&◌, ◌==◌, if◌then◌else◌, List}
use Rattle.std.specs.Prelude.{map, filter, find, [], ◌∷◌, Option, None, Some, option_and_then, option_map, is_some}
use Rattle.std.specs.List.{list_any}
use Rattle.block_tree.specs.declared.root.Root.{Root}
use Rattle.cfs_base.specs.declared.identifier.Puid.{Puid}
use Rattle.open_table.specs.declared.grant.OpenGrant.{OpenGrant}
use Rattle.special_files.specs.Drafting.{Drafting}
use Rattle.ufs_model.specs.Identifier.{same_puid}
use Rattle.cfs_core.specs.Kernel.{Handle}

-- the handles in the order in which they were acquired, and whether there is room for one more, with a draft
pub record Handleing : Type 0 where
  pub handles : List Handle
  pub has_room : Bool

-- these grants, each with the draft that is held for its draw
abbrev pub handled : (ℕ → Option Drafting) → List OpenGrant → List Handle
handled held grants = map (λ grant. record { grant = grant; drafting = held grant.tuid.draw }) grants

-- nothing is held for a draw that no grant has
abbrev pub AreOfGrants : (ℕ → Option Drafting) → List OpenGrant → Type 0
AreOfGrants held grants = (draw : ℕ) → list_any (λ grant. draw == grant.tuid.draw) grants ≡ false → held draw ≡ None

-- ---- the handle of one draw

abbrev pub is_drawn : ℕ → Handle → Bool
is_drawn draw handle = draw == handle.grant.tuid.draw

abbrev pub drafting_at : List Handle → ℕ → Option Drafting
drafting_at handles draw = option_and_then (λ handle. handle.drafting) (find (is_drawn draw) handles)

-- there is a draft of this draw, and this many bytes are within its size
pub record HoldsDraft (handles : List Handle) (draw bytes : ℕ) : Type 0 where
  pub drafting : Drafting
  pub has : drafting_at handles draw ≡ Some drafting
  pub within : bytes ≤ drafting.root.size

-- its object's root is on a disk of this size
abbrev pub IsOnDisk : List Handle → (draw blocks : ℕ) → Type 0
IsOnDisk handles draw blocks = (d : Drafting) → drafting_at handles draw ≡ Some d → d.at < blocks

-- the handles with this draft there, or with none
abbrev pub with_drafting : ℕ → Option Drafting → List Handle → List Handle
with_drafting draw drafting handles =
    map (λ handle. if is_drawn draw handle then record { grant = handle.grant; drafting = drafting } else handle)
    handles

-- The draft of this draw has become another, as `So` says. The other handles are as they were.
pub record ChangesHeld (draw : ℕ) (old new : List Handle) (So : Drafting → Drafting → Type 0) : Type 0 where
  pub was : Drafting
  pub has : drafting_at old draw ≡ Some was
  pub now : Drafting
  pub with_it : new ≡ with_drafting draw (Some now) old
  pub so : So was now

-- the root that this object is to get by a draft, if it has one
abbrev pub root_at : List Handle → Puid → Option Root
root_at [] id = None
root_at (handle ∷ handles) id =
    if same_puid id handle.grant.id && is_some handle.drafting then option_map (λ d. d.root) handle.drafting
    else root_at handles id

-- a handle whose grant passes the test has a draft
abbrev pub have_draft : (OpenGrant → Bool) → List Handle → Bool
have_draft test handles = list_any (λ handle. test handle.grant && is_some handle.drafting) handles

abbrev pub is_at : ℕ → OpenGrant → Bool
is_at draw grant = draw == grant.tuid.draw

-- ---- what is left

-- those whose grants don't pass the test
abbrev pub handles_but : (OpenGrant → Bool) → List Handle → List Handle
handles_but test handles = filter (λ handle. not (test handle.grant)) handles
