-- When a core stands for a state: a relation, since no field of a core has all that a collection remembers.
use Rattle.std.specs.Prelude.{◌≡◌, ℕ, ◌≤◌, Bool, true, false, ◌||◌, List, [], ◌∷◌}
use Rattle.std.specs.Prelude.{length, map, sum, Option, Some, None, option_map, refl}
use Rattle.cfs_base.specs.Disk.{Image}
use Rattle.cfs_base.specs.declared.identifier.Puid.{Puid}
use Rattle.cfs_base.specs.declared.disk.Disk.{Ghosts}
use Rattle.collector_steps.specs.Collecting.{Collecting, Collects}
use Rattle.cyl_alloc.specs.Left.{LeftCommit}
use Rattle.cyl_map.specs.Volume.{free_from}
use Rattle.intentions.specs.Left.{StoreWith, coming, final_image}
use Rattle.open_table.specs.declared.grant.OpenGrant as handles
use Rattle.puid_space.specs.Kinds.{kinds_of}
use Rattle.special_files.specs.Drafting.{Drafting, IsOpen, opened_as}
use Rattle.ufs_model.specs.declared.collection.Collection.{Collection}
use Rattle.ufs_model.specs.declared.collection.Collection.TheVariants as collections
use Rattle.ufs_model.specs.declared.object.Draft.{Draft}
use Rattle.ufs_model.specs.declared.object.Grant.{Grant}
use Rattle.ufs_model.specs.Limits.{reserve}
use Rattle.ufs_model.specs.Need.{is_normal}
use Rattle.ufs_model.specs.Refusal.{is_reading}
use Rattle.ufs_model.specs.State.{State, is_running}
use Rattle.ufs_model.specs.Vanish.{is_marking}
use Rattle.ufs_model.specs.WellFormed.{IsState}
use Rattle.vol_owners.specs.Account.{Drafts, IsSwept, Opened, no_drafts, with_opened}
use Rattle.cfs_core.specs.declared.collecting.Collections.{Collections}
use Rattle.cfs_core.specs.declared.kernel.Stop.{Stop}
use Rattle.cfs_core.specs.Kernel.{Kernel, Handle, grants_in, marks_in, sweeps_in}

-- ---- grants

-- the grant without its draft
abbrev pub bare : Grant → handles.OpenGrant
bare g = record { tuid = g.tuid; session = g.session; id = g.id; mode = g.mode }

-- the draft of a grant, as the store accounts for it
abbrev pub opened_if : Option Drafting → Option Draft → Option Opened
opened_if (Some drafting) (Some d) = Some (opened_as drafting d)
opened_if (Some drafting) None = None
opened_if None draft = None

-- these drafts and that of one more grant, if it has one
abbrev pub with_opened_if : Puid → Option Opened → Drafts → Drafts
with_opened_if id None ds = ds
with_opened_if id (Some d) ds = with_opened id d ds

-- the drafts that the grants have
abbrev pub drafts_of_handles : List Handle → List Grant → Drafts
drafts_of_handles (handle ∷ handles) (grant ∷ grants) =
    with_opened_if handle.grant.id (opened_if handle.drafting grant.draft) (drafts_of_handles handles grants)
drafts_of_handles [] grants = no_drafts
drafts_of_handles (handle ∷ handles) [] = no_drafts

-- the draft of a special file or an index, which a grant for writing has
pub record IsDraftOf (ds : Drafts) (grant : handles.OpenGrant) (drafting : Drafting) (d : Draft) : Type 0 where
  pub is_open : IsOpen ds grant.id drafting d
  pub special : is_normal d.object ≡ false
  pub writes : is_reading grant.mode ≡ false

-- the core has a draft exactly if the grant has one, and they are the same
abbrev pub HasDraftOf : Drafts → Handle → Option Drafting → Option Draft → Type 0
HasDraftOf ds handle None None = Unit {0}
HasDraftOf ds handle (Some drafting) (Some d) = IsDraftOf ds handle.grant drafting d
HasDraftOf ds handle None (Some d) = ⊥
HasDraftOf ds handle (Some drafting) None = ⊥

abbrev pub AreDraftsOf : Drafts → List Handle → List Grant → Type 0
AreDraftsOf ds (handle ∷ handles) (grant ∷ grants) =
    HasDraftOf ds handle handle.drafting grant.draft × AreDraftsOf ds handles grants
AreDraftsOf ds [] [] = Unit {0}
AreDraftsOf ds [] (grant ∷ grants) = ⊥
AreDraftsOf ds (handle ∷ handles) [] = ⊥

-- ---- the collection

abbrev pub sweeps_now : Collection → Bool
sweeps_now collections.None = false
sweeps_now (collections.Marking edges starts) = false
sweeps_now collections.Sweeping = true

-- a collection runs
abbrev pub is_collecting : Collection → Bool
is_collecting c = is_marking c || sweeps_now c

-- The collector is as far as the state's collection, and keeps what holds of a collection between any two calls.
pub record HasCollector (image : Image) (s : State) (k : Collecting) : Type 0 where
  pub marking : is_marking s.collection ≡ marks_in k.phase
  pub sweeping : sweeps_now s.collection ≡ sweeps_in k.phase
  pub collects : Collects image s k

-- a core without a collector has no collection
abbrev pub HasCollection : Image → State → Option Collecting → Type 0
HasCollection image s None = s.collection ≡ collections.None
HasCollection image s (Some k) = HasCollector image s k

-- ---- standing for

-- what also holds of a core that stopped
pub record IsFront {D : Type 0} (k : Kernel D) (s : State) : Type 0 where
  pub drawn : s.drawn ≡ k.words.drawn
  pub directory : k.directory.named ≡ kinds_of s.graph
  pub grants : grants_in k.handles ≡ map bare s.grants
  pub stopped : s.stopped ≡ option_map (λ stop. stop.moment) k.stop

-- how many blocks of an image are Free
abbrev pub free_of : Image → ℕ
free_of image = free_from image 0 (length image)

-- How many blocks of the image that is to come are Free. If no commit is left they are those that the core counts.
abbrev pub free_with : {D : Type 0} → Ghosts D → Kernel D → Option LeftCommit → ℕ
free_with g k None = sum k.space.free
free_with g k (Some l) = free_of (coming (g.content k.disk) (Some l))

abbrev pub free_to_come : {D : Type 0} → Ghosts D → Kernel D → ℕ
free_to_come g k = free_with g k k.space.left

-- the image to which a core comes
abbrev pub end_in : {D : Type 0} → Ghosts D → Kernel D → Image
end_in g k = final_image g k.disk k.space

-- The store has the graph and the drafts, whatever writes wait for a barrier, and `commit` is what is left of one
-- commit past its bit, or nothing. In the image that is to come the blocks of vanished objects are gone unless a
-- sweep goes on, four blocks are Free, and the collection is there.
pub record ServesWith {D : Type 0} (g : Ghosts D) (k : Kernel D) (s : State) (commit : Option LeftCommit) : Type 0 where
  pub front : IsFront k s
  pub state : IsState s
  pub root : s.graph.root ≡ k.root
  pub store : StoreWith g s.graph (drafts_of_handles k.handles s.grants) k.disk k.space commit
  pub left : k.space.left ≡ commit
  pub drafts : AreDraftsOf (drafts_of_handles k.handles s.grants) k.handles s.grants
  pub swept : sweeps_now s.collection ≡ false → IsSwept (coming (g.content k.disk) commit) s.graph
  pub four : reserve ≤ free_with g k commit
  pub collecting : HasCollection (coming (g.content k.disk) commit) s k.collections.collector

-- no commit is left to be carried out
abbrev pub CoreServes : {D : Type 0} → Ghosts D → Kernel D → State → Type 0
CoreServes g k s = ServesWith g k s None

-- one commit is left, or none
abbrev pub ServesIs : {D : Type 0} → Ghosts D → Kernel D → State → Type 0
ServesIs g k s = ServesWith g k s k.space.left

-- it serves the state with each collector that keeps up with it
abbrev pub StoresState : {D : Type 0} → Ghosts D → Kernel D → State → Type 0
StoresState g k s =
    (c : Collections) → HasCollection (end_in g k) s c.collector → ServesIs g (record k { collections = c }) s

abbrev pub Stands : {D : Type 0} → Ghosts D → Kernel D → State → Option Stop → Type 0
Stands g k s None = ServesIs g k s
Stands g k s (Some stop) = IsFront k s

abbrev pub StandsFor : {D : Type 0} → Ghosts D → Kernel D → State → Type 0
StandsFor g k s = Stands g k s k.stop

-- what holds of any core, stopped or not
pub front_of : {D : Type 0} (g : Ghosts D) (k : Kernel D) (s : State) → StandsFor g k s → IsFront k s
front_of g k s stands = at k.stop stands
  where
    at : (o : Option Stop) → Stands g k s o → IsFront k s
    at None serves = serves.front
    at (Some stop) front = front

-- the state of a core that runs is well-formed, and has the core's root index
pub core_formed : {D : Type 0} (g : Ghosts D) (k : Kernel D) (s : State) → StandsFor g k s → is_running s ≡ true
    → IsState s × (s.graph.root ≡ k.root)
core_formed g k s stands runs = at k.stop refl stands
  where
    at : (o : Option Stop) → k.stop ≡ o → Stands g k s o → IsState s × (s.graph.root ≡ k.root)
    at None is serves = (serves.state, serves.root)
    at (Some stop) is front = absurd (cc (runs, front.stopped, is))
