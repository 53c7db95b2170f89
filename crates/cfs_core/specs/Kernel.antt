-- What contracts see of a core.
use Rattle.std.specs.Prelude.{◌≡◌, ℕ, ◌+◌, ◌*◌, ◌≤◌, Bool, true, false, ◌||◌, ◌&&◌, nat_le, nat_lt}
use Rattle.std.specs.Prelude.{if◌then◌else◌, List, map, length, Option, Some, None, IfSome, is_none, is_some}
use Rattle.std.specs.Option.{option_map_or}
use Rattle.std.specs.List.{list_all}
use Rattle.cfs_base.specs.declared.identifier.Puid.{Puid}
use Rattle.collector_steps.specs.Collecting.{Collecting, volume_of}
use Rattle.collector_steps.specs.declared.phase.Phase.{Phase}
use Rattle.collector_steps.specs.declared.phase.Phase.TheVariants as phases
use Rattle.cyl_alloc.specs.Space.{Kept}
use Rattle.open_table.specs.declared.grant.OpenGrant.{OpenGrant}
use Rattle.puid_space.specs.Directory.{Listing, has_root_in}
use Rattle.puid_space.specs.Draw.{Draws}
use Rattle.special_files.specs.Drafting.{Drafting}
use Rattle.cfs_core.specs.declared.collecting.Collections.{Collections}
use Rattle.cfs_core.specs.declared.kernel.Stop.{Stop}

-- a grant, and the draft of a special file or an index that is open for writing
pub record Handle : Type 0 where
  pub grant : OpenGrant
  pub drafting : Option Drafting

abbrev pub grants_in : List Handle → List OpenGrant
grants_in handles = map (λ handle. handle.grant) handles

-- the grant was drawn no later than this
abbrev pub is_drawn_by : ℕ → Handle → Bool
is_drawn_by drawn handle = nat_le handle.grant.tuid.draw drawn

-- a draft as it is between two calls: its object's root is below this block, it has a shadow root, and it makes
-- nothing
abbrev pub is_ready_for : ℕ → Drafting → Bool
is_ready_for blocks d = nat_lt d.at blocks && is_some d.shadow && is_none d.created

abbrev pub is_ready : ℕ → Handle → Bool
is_ready blocks handle = option_map_or (is_ready_for blocks) handle.drafting true

pub record Kernel (D : Type 0) : Type 0 where
  pub disk : D
  pub root : Puid
  -- the identifiers of all objects, with their kinds
  pub directory : Listing
  -- how many blocks of each cylinder are Free
  pub space : Kept
  -- the seed of the random words, and how many were drawn
  pub words : Draws
  pub handles : List Handle
  pub collections : Collections
  pub stop : Option Stop

-- ---- collections

abbrev pub marks_in : Phase → Bool
marks_in phases.Idle = false
marks_in phases.Marking = true
marks_in (phases.Inner cylinder) = false
marks_in (phases.Roots cylinder) = false
marks_in phases.Swept = false

abbrev pub sweeps_in : Phase → Bool
sweeps_in phases.Idle = false
sweeps_in phases.Marking = false
sweeps_in (phases.Inner cylinder) = true
sweeps_in (phases.Roots cylinder) = true
sweeps_in phases.Swept = true

-- a collection runs
abbrev pub collection_runs : Option Collecting → Bool
collection_runs None = false
collection_runs (Some k) = marks_in k.phase || sweeps_in k.phase

-- A collector is one of the volume. No more collections were finished than called for, and one that runs was called
-- for.
pub record AreCollections (room : ℕ) (c : Collections) : Type 0 where
  pub volume : IfSome c.collector (λ k. volume_of k ≡ room)
  pub few : c.finished + (if collection_runs c.collector then 1 else 0) ≤ c.called

-- ---- on any disk

-- On any disk: it has 64 blocks a cylinder, there is room for the identifier of each block, and no identifier has
-- block 0. Each grant was drawn.
pub record IsSizedKernel {D : Type 0} (blocks : D → ℕ) (disk : D) (directory : Listing) (space : Kept)
    (handles : List Handle)
    (drawn : ℕ) (collections : Collections) : Type 0 where
  pub size : blocks disk ≡ 64 * length space.free
  pub room : directory.room ≡ blocks disk
  pub some : has_root_in directory.named 0 ≡ false
  pub drawn_all : list_all (is_drawn_by drawn) handles ≡ true
  pub kept : AreCollections directory.room collections
  pub ready : list_all (is_ready directory.room) handles ≡ true
