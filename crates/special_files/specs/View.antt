-- What a call on a draft is given if the store has the draft, and how the call goes then.
use Rattle.std.specs.Prelude.{◌≡◌, ℕ, false, length, IfErr, IfOk, OnOk, Result, Some, None}
use Rattle.block_tree.specs.Root.{root_spelling}
use Rattle.cfs_base.specs.Run.{Leaves, Tells}
use Rattle.cfs_base.specs.declared.disk.Disk.{Ghosts}
use Rattle.cfs_base.specs.declared.identifier.Puid.{Puid}
use Rattle.cfs_base.specs.declared.refusal.Refused.{Refused}
use Rattle.cyl_alloc.specs.Space.{Kept}
use Rattle.intentions.specs.Left.{IsShownAt, StoreIs}
use Rattle.intentions.specs.Store.{StoreHas}
use Rattle.ufs_model.specs.Graph.{Graph, object_at}
use Rattle.ufs_model.specs.declared.object.Draft.{Draft}
use Rattle.ufs_model.specs.declared.object.Object.{Object}
use Rattle.vol_image.specs.Reading.{IsTree}
use Rattle.vol_image.specs.Seen.{tree_in}
use Rattle.vol_image.specs.Sound.{Holds}
use Rattle.special_files.specs.Drafting.{Drafting, IsOpen}
use Rattle.special_files.specs.Refusal.{has_met_damage}
use Rattle.vol_owners.specs.Account.{Drafts}

-- The store has these objects and drafts. One of the objects has this identifier, and its draft is the one in memory,
-- which is this draft of the model.
pub record DraftView {D : Type 0} (g : Ghosts D) (disk : D) (space : Kept) (was : Drafting) : Type 0 where
  pub graph : Graph
  pub ds : Drafts
  pub id : Puid
  pub object : Object
  pub draft : Draft
  pub store : StoreHas g graph ds disk space
  pub at : object_at graph id ≡ Some object
  pub opened : IsOpen ds id was draft

-- The same for a call that only reads: one commit may be unfinished.
pub record DraftSeen {D : Type 0} (g : Ghosts D) (disk : D) (was : Drafting) : Type 0 where
  pub graph : Graph
  pub ds : Drafts
  pub space : Kept
  pub id : Puid
  pub object : Object
  pub draft : Draft
  pub store : StoreIs g graph ds disk space
  pub at : object_at graph id ≡ Some object
  pub opened : IsOpen ds id was draft

-- The store has an object with its root at this block.
pub record ObjectView {D : Type 0} (g : Ghosts D) (disk : D) (space : Kept) (at : ℕ) : Type 0 where
  pub graph : Graph
  pub ds : Drafts
  pub id : Puid
  pub object : Object
  pub store : StoreHas g graph ds disk space
  pub root : id.block ≡ at
  pub there : object_at graph id ≡ Some object

-- The store has an object that is shown at this block: by its root, or by the shadow root that stands in for it.
pub record ShownView {D : Type 0} (g : Ghosts D) (disk : D) (at : ℕ) : Type 0 where
  pub graph : Graph
  pub ds : Drafts
  pub space : Kept
  pub id : Puid
  pub object : Object
  pub shown : IsShownAt g graph ds disk space id object at

-- the store has no draft of it
abbrev pub IsShut : {D : Type 0} {g : Ghosts D} {disk : D} {space : Kept} {at : ℕ} → ObjectView g disk space at
    → Type 0
IsShut v = v.ds v.id ≡ None

-- The disk tells its content, and below the root that the draft is to give its object there is a tree. A call that
-- only reads needs no more.
pub record HasTree {D : Type 0} (g : Ghosts D) (disk : D) (was : Drafting) : Type 0 where
  pub tells : Tells g disk
  pub owner : ℕ
  pub object : Object
  pub tree : IsTree (length (g.content disk)) owner (tree_in (g.content disk) (root_spelling was.root)) was.root object

-- If a call is done, it has done this with what it returns. Each image that a crash leaves on the way holds these
-- objects, and no damage is met.
pub record GoesTo {D A : Type 0} (g : Ghosts D) (graph : Graph) (P : A → Type 0) (old new : D)
    (result : Result A Refused) :
    Type 0 where
  pub done : IfOk result P
  pub leaves : Leaves g old new (λ c. Holds c graph)
  pub sound : IfErr result (λ e. has_met_damage e ≡ false)

-- If a call is done, it has done this. Each image that a crash leaves on the way holds these objects, and no damage
-- is met.
pub record GoesHolding {D A : Type 0} (g : Ghosts D) (graph : Graph) (P : Type 0) (old new : D)
    (result : Result A Refused) :
    Type 0 where
  pub done : OnOk result P
  pub leaves : Leaves g old new (λ c. Holds c graph)
  pub sound : IfErr result (λ e. has_met_damage e ≡ false)
