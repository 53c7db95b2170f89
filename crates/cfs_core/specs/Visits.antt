-- A request reaches what it names, unless it is refused on the way: a draft, or an object, whose root is read.
use Rattle.std.specs.Prelude.{◌≡◌, ◌≢◌, ℕ, ◌<◌, ◌≤◌, true, Some, None, Result, Ok, Err}
use Rattle.block_tree.specs.Pointers.{size_limit}
use Rattle.block_tree.specs.declared.root.Root.{Root}
use Rattle.cfs_base.specs.declared.disk.Disk.{Ghosts}
use Rattle.cfs_base.specs.declared.identifier.Puid.{Puid}
use Rattle.cfs_base.specs.declared.identifier.Tuid.{Tuid}
use Rattle.cfs_base.specs.declared.kind.Kind.{Kind}
use Rattle.cfs_base.specs.declared.refusal.Refused.{Refused}
use Rattle.cyl_alloc.specs.Left.{block_shown}
use Rattle.puid_space.specs.Kinds.{object_kind}
use Rattle.ufs_model.specs.Graph.{object_at}
use Rattle.ufs_model.specs.State.{State}
use Rattle.ufs_model.specs.declared.asked.Ref.{Ref}
use Rattle.ufs_model.specs.declared.asked.Ref.TheVariants.{Through}
use Rattle.ufs_model.specs.declared.asked.Request.{Request}
use Rattle.ufs_model.specs.declared.asked.Wanted.{Wanted}
use Rattle.ufs_model.specs.declared.asked.Wanted.TheVariants.{AFile, AnIndex, Either}
use Rattle.ufs_model.specs.declared.object.File.{File}
use Rattle.ufs_model.specs.declared.object.Index.{Index}
use Rattle.ufs_model.specs.declared.object.Object.{Object}
use Rattle.ufs_model.specs.declared.object.Object.TheVariants as objects
use Rattle.cfs_core.specs.Calls.{Tries}
use Rattle.cfs_core.specs.Drafts.{IsDrafted}
use Rattle.cfs_core.specs.Handles.{HoldsDraft}
use Rattle.cfs_core.specs.Kernel.{Kernel}
use Rattle.cfs_core.specs.Looks.{ReachesAll, WasRead}
use Rattle.cfs_core.specs.StandsFor.{ServesIs}
use Rattle.cfs_core.specs.Ways.{GoesBy, unfit_of}
use Rattle.cfs_core.specs.declared.visiting.Reached.{Reached}
use Rattle.cfs_core.specs.declared.visiting.Reached.TheVariants as reached
use Rattle.cfs_core.specs.declared.visiting.There.{There}
use Rattle.cfs_core.specs.declared.visiting.Visited.{Visited}
use Rattle.cfs_core.specs.declared.visiting.Visited.TheVariants as visited
use Rattle.cfs_core.specs.declared.way.Way.{Way}

-- what is wanted: an index, a file, or either
abbrev pub Sort : Wanted → Type 0
Sort AnIndex = Index
Sort AFile = File
Sort Either = Object

abbrev pub as_object : (wants : Wanted) → Sort wants → Object
as_object AnIndex = objects.Index
as_object AFile = objects.File
as_object Either = λ o. o

-- how a request goes that changes what is there, and names nothing else
abbrev pub changing_way : Ref → Way
changing_way to = record { to = to; also = None; changes = true }

-- The session's grant has a draft of what is wanted, and the request goes through it.
pub record ReachesDraft {D : Type 0} (wants : Wanted) (way : Way) (who : ℕ) (k : Kernel D) (grant : Tuid) : Type 0 where
  pub through : way.to ≡ Through grant
  pub has : IsDrafted k wants who grant
  pub holds : HoldsDraft k.handles grant.draw 0

-- The request reaches an object of this kind, which is wanted there and has no draft. Its root block is one of the
-- disk's, and not block 0. The object that is also named doesn't have block 0 either.
pub record ReachesObject {D : Type 0} (g : Ghosts D) (wants : Wanted) (way : Way) (who : ℕ) (k : Kernel D) (id : Puid)
    (kind : Kind) : Type 0 where
  pub reached : (request : Request) → GoesBy request wants way → ReachesAll g (as_object wants) k who request id
  pub fit : unfit_of wants (Some kind) ≡ None
  pub kind_is : (s : State) (o : Object) → ServesIs g k s → object_at s.graph id ≡ Some o → object_kind o ≡ kind
  pub on_disk : id.block < g.blocks k.disk
  pub some : id.block ≢ 0
  pub also : (also : Puid) → way.also ≡ Some also → also.block ≢ 0

abbrev pub ReachesSo : {D : Type 0} → Ghosts D → Wanted → Way → ℕ → Kernel D → Reached → Type 0
ReachesSo g wants way who k (reached.Draft grant) = ReachesDraft wants way who k grant
ReachesSo g wants way who k (reached.Object id kind) = ReachesObject g wants way who k id kind

-- ---- and the root is read

-- Since the core was `k`, at most n reads were made, one of them of this root of an object, where it is shown.
pub record CameTo {D : Type 0} (g : Ghosts D) (n : ℕ) (k now : Kernel D) (id : Puid) (root : Root) : Type 0 where
  pub same : now ≡ record k { disk = now.disk }
  pub read : WasRead g n (block_shown k.space.left id.block) root k.disk now.disk

pub record VisitsObject {D : Type 0} (g : Ghosts D) (wants : Wanted) (way : Way) (who : ℕ) (old new : Kernel D)
    (there : There) : Type 0 where
  pub reaches : ReachesObject g wants way who old there.id there.kind
  pub came : CameTo g 1 old new there.id there.root
  pub limit : there.root.size ≤ size_limit

abbrev pub Visits : {D : Type 0} → Ghosts D → Wanted → Way → ℕ → Kernel D → Kernel D → Result Visited Refused → Type 0
Visits g wants way who old new (Ok (visited.Refused reply)) =
    (request : Request) → GoesBy request wants way → Tries g old new who request (Ok reply)
Visits g wants way who old new (Ok (visited.Draft grant)) = (new ≡ old) × ReachesDraft wants way who old grant
Visits g wants way who old new (Ok (visited.Object there)) = VisitsObject g wants way who old new there
Visits g wants way who old new (Err e) =
    (request : Request) → GoesBy request wants way → Tries g old new who request (Err e)
