-- A store in which one commit is past its bit and not carried out.
use Rattle.std.specs.Prelude.{◌≡◌, ℕ, ◌==◌, Bool, true, false, List, set, Option, Some, None}
use Rattle.cfs_base.specs.Disk.{Image, block_at}
use Rattle.cfs_base.specs.Run.{IsSettled}
use Rattle.cfs_base.specs.declared.disk.Disk.{Ghosts}
use Rattle.cfs_base.specs.declared.identifier.Puid.{Puid}
use Rattle.cyl_alloc.specs.Left.{LeftCommit, block_shown}
use Rattle.cyl_alloc.specs.Space.{AreCounts, Kept}
use Rattle.cyl_map.specs.Mapped.{mapped}
use Rattle.cyl_map.specs.Volume.{entry_in}
use Rattle.cyl_map.specs.declared.entry.MapEntry.{MapEntry}
use Rattle.intentions.specs.Commit.{IsCommitted}
use Rattle.intentions.specs.Course.{IsCopied, Keeps, Settling}
use Rattle.intentions.specs.Store.{StoreHas}
use Rattle.intentions.specs.Turned.{MayTurn, changed_if, turned}
use Rattle.intentions.specs.declared.change.EntryChange.{EntryChange}
use Rattle.intentions.specs.declared.change.EntryChange.TheVariants.{ClearBit, Finish, Undo}
use Rattle.ufs_model.specs.Graph.{Graph, ids_of, object_at}
use Rattle.ufs_model.specs.Identifier.{rises}
use Rattle.ufs_model.specs.Numbers.{has_number}
use Rattle.ufs_model.specs.declared.object.Object.{Object}
use Rattle.vol_image.specs.Run.{Carries}
use Rattle.vol_owners.specs.Account.{Accounts, Drafts}
use Rattle.vol_owners.specs.Change.{IsOpenTo, of_owners}

-- ---- what is to come

-- the shadow root is given back, and all else is carried out
abbrev pub how_for : Bool → EntryChange
how_for true = Undo
how_for false = Finish

-- the change of the entry of each block that is left
abbrev pub how_left : LeftCommit → ℕ → EntryChange
how_left l n = how_for (n == l.shadow)

-- the entry of block n once the commit is carried out: what is left is settled, and the root's bit is cleared
abbrev pub settled : LeftCommit → ℕ → MapEntry → MapEntry
settled l n e = changed_if (n == l.root) ClearBit (turned (how_left l) l.rest n e)

abbrev pub copied_if : Bool → LeftCommit → Image → Image
copied_if true l image = image
copied_if false l image = set image l.root (block_at image l.shadow)

-- the image once nothing is left
abbrev pub coming : Image → Option LeftCommit → Image
coming image None = image
coming image (Some l) = mapped (settled l) (copied_if l.copied l image)

-- ---- how far the commit is carried out

-- The entries of these blocks are open to changes of these owners.
abbrev pub AreOpen : List ℕ → Image → List ℕ → Type 0
AreOpen owners image ns = (n : ℕ) → has_number n ns ≡ true → IsOpenTo (λ e. of_owners owners e) (entry_in image n)

-- The object's commit bit is set, it is read by its shadow root, and no write waits for a barrier. Or its root is
-- copied, and each image that a crash leaves is one in which it settles. What is left may be done.
abbrev pub GoesOn : {D : Type 0} → Ghosts D → Bool → Graph → Puid → Object → LeftCommit → D → Type 0
GoesOn g false graph id o l d = IsSettled g d × IsCommitted (g.content d) graph id o l.shadow
    × MayTurn (Settling (copied_if false l (g.content d)) graph id o l.shadow) (copied_if false l (g.content d))
    (how_left l) l.rest
GoesOn g true graph id o l d = (c : Image) × IsCopied c graph id o l.shadow
    × Keeps g (Settling c graph id o l.shadow) d
    × MayTurn (Settling c graph id o l.shadow) (g.content d) (how_left l) l.rest

-- These objects are carried on: one of them, whose commit is past its bit, as far as that is carried out. The Free
-- blocks of the disk as it is are counted.
pub record IsGoing {D : Type 0} (g : Ghosts D) (graph : Graph) (disk : D) (space : Kept) (l : LeftCommit) : Type 0 where
  pub id : Puid
  pub object : Object
  pub root_is : id.block ≡ l.root
  pub goes : GoesOn g l.copied graph id object l disk
  pub counts : AreCounts (g.content disk) space

abbrev pub GoesWith : {D : Type 0} → Ghosts D → Graph → D → Kept → Option LeftCommit → Type 0
GoesWith g graph disk space None = Carries g graph disk × AreCounts (g.content disk) space
GoesWith g graph disk space (Some l) = IsGoing g graph disk space l

-- ---- with the blocks of all objects and drafts

-- The store has these objects and drafts. Each block of the image that is to come has its use.
pub record HasLeft {D : Type 0} (g : Ghosts D) (graph : Graph) (drafts : Drafts) (disk : D) (space : Kept)
    (l : LeftCommit) : Type 0 where
  pub going : IsGoing g graph disk space l
  -- Each block that is left is of this object, or of one that is made with it, or it is Free. Neither has a draft.
  pub owners : List ℕ
  pub own : has_number going.id.block owners ≡ true
  pub opens : AreOpen owners (g.content disk) l.rest
  pub shut : (x : Puid) → has_number x.block owners ≡ true → drafts x ≡ None
  pub account : Accounts (coming (g.content disk) (Some l)) graph drafts
  pub ordered : rises (ids_of graph) ≡ true

-- the state between two calls, with what is left of one commit or with nothing left
abbrev pub StoreWith : {D : Type 0} → Ghosts D → Graph → Drafts → D → Kept → Option LeftCommit → Type 0
StoreWith g graph drafts disk space None = StoreHas g graph drafts disk space
StoreWith g graph drafts disk space (Some l) = HasLeft g graph drafts disk space l

abbrev pub StoreIs : {D : Type 0} → Ghosts D → Graph → Drafts → D → Kept → Type 0
StoreIs g graph drafts disk space = StoreWith g graph drafts disk space space.left

-- the image to which the store comes
abbrev pub final_image : {D : Type 0} → Ghosts D → D → Kept → Image
final_image g disk space = coming (g.content disk) space.left

-- ---- reads

-- The store has this object. It is read by this block: its root, or the shadow root that stands in for it until it is
-- copied.
pub record IsShownAt {D : Type 0} (g : Ghosts D) (graph : Graph) (drafts : Drafts) (disk : D) (space : Kept)
    (id : Puid) (o : Object) (at : ℕ) : Type 0 where
  pub store : StoreIs g graph drafts disk space
  pub there : object_at graph id ≡ Some o
  pub shown : at ≡ block_shown space.left id.block
