-- A session leaves: its grants are dropped one after another, and their drafts are given up, once what was left of a
-- commit is carried out.
use Rattle.std.specs.Prelude.{◌≡◌, ◌⊎◌, ℕ, ◌-◌, ◌≤◌, not, ◌==◌, ◌++◌, List, [], filter, map}
use Rattle.std.specs.Prelude.{Option, Some, None, Result, Ok, Err}
use Rattle.cfs_base.specs.Calls.{HasFailed, MakesAtMost}
use Rattle.cfs_base.specs.Run.{Leaves}
use Rattle.cfs_base.specs.declared.disk.Disk.{Ghosts}
use Rattle.cfs_base.specs.declared.identifier.Puid.{Puid}
use Rattle.cfs_base.specs.declared.refusal.Damage.{Damage}
use Rattle.finisher.specs.Going.{calls_left, tries_left}
use Rattle.intentions.specs.Store.{StoreHas}
use Rattle.cyl_alloc.specs.Space.{Kept}
use Rattle.leaf_changes.specs.Tops.{Top}
use Rattle.open_table.specs.Grants.{grants_of, without_session}
use Rattle.open_table.specs.declared.grant.OpenGrant.{OpenGrant}
use Rattle.special_files.specs.Committing.{Dropped, draft_top}
use Rattle.special_files.specs.Drafting.{Drafting}
use Rattle.special_files.specs.Refusal.{IsDraftDamage}
use Rattle.special_files.specs.View.{DraftSeen}
use Rattle.ufs_model.specs.declared.object.Grant.{Grant}
use Rattle.ufs_model.specs.State.{State}
use Rattle.vol_image.specs.Sound.{Holds}
use Rattle.cfs_core.specs.declared.kernel.Halt.{Halt}
use Rattle.cfs_core.specs.declared.kernel.Stop.{Stop}
use Rattle.cfs_core.specs.Calls.{AddsNoStray}
use Rattle.cfs_core.specs.Damage.{IsDamageTold}
use Rattle.cfs_core.specs.Handles.{drafting_at}
use Rattle.cfs_core.specs.Kernel.{Kernel, grants_in}
use Rattle.cfs_core.specs.Rescues.{AreRescued}
use Rattle.cfs_core.specs.StandsFor.{ServesIs, end_in}

-- the grants of all other sessions
abbrev pub of_others : ℕ → List Grant → List Grant
of_others who grants = filter (λ g. not (g.session == who)) grants

-- the objects of a session's grants, in the order in which they were acquired
abbrev pub objects_of : List OpenGrant → ℕ → List Puid
objects_of grants who = map (λ g. g.id) (grants_of grants who)

-- it serves the state with fewer grants of the session
pub record ServesFewer {D : Type 0} (g : Ghosts D) (k : Kernel D) (s : State) (who : ℕ) : Type 0 where
  pub grants : List Grant
  pub serves : ServesIs g k (record s { grants = grants })
  pub others : of_others who grants ≡ of_others who s.grants

-- A block was damaged when a draft was given up, in the core as it was then. The draft is one of those of before.
pub record MetDamage {D : Type 0} (g : Ghosts D) (old new : Kernel D) (damage : Damage) : Type 0 where
  pub draw : ℕ
  pub was : Drafting
  pub stood : drafting_at old.handles draw ≡ Some was
  pub mid : Kernel D
  pub later : g.moment old.disk ≤ g.moment mid.disk
  pub is : IsDraftDamage g (draft_top was) mid.disk new.disk new.space damage
  pub told : IsDamageTold g mid new None damage

-- It stopped in this call: at the moment before the disk's present one if a device call failed, or at the disk's
-- present moment if a block is damaged.
pub record StopsSo {D : Type 0} (g : Ghosts D) (old new : Kernel D) (stop : Stop) : Type 0 where
  pub failed : stop.damage ≡ None → HasFailed g old.disk new.disk × (stop.moment ≡ g.moment new.disk - 1)
  pub damaged : (damage : Damage) → stop.damage ≡ Some damage
      → MetDamage g old new damage × (stop.moment ≡ g.moment new.disk)

-- Some grants of the session are gone, with their drafts. All else is as it was, except that a core that ran may have
-- stopped.
pub record Sheds {D : Type 0} (g : Ghosts D) (who : ℕ) (old new : Kernel D) : Type 0 where
  pub words : new.words ≡ old.words
  pub directory : new.directory ≡ old.directory
  -- the drafts of the objects of these grants, the first of the session, are no longer read
  pub over : List Puid
  pub dropped : objects_of (grants_in old.handles) who ≡ over ++ objects_of (grants_in new.handles) who
  pub ended : AreRescued old.collections.collector new.collections.collector [] over
  pub called : new.collections.called ≡ old.collections.called
  pub finished : new.collections.finished ≡ old.collections.finished
  -- each draft that is left was there before
  pub stood : (draw : ℕ) (was : Drafting) → drafting_at new.handles draw ≡ Some was
      → drafting_at old.handles draw ≡ Some was
  pub others : without_session (grants_in new.handles) who ≡ without_session (grants_in old.handles) who
  pub size : g.blocks new.disk ≡ g.blocks old.disk
  pub faults : g.faults old.disk ≤ g.faults new.disk
  pub later : g.moment old.disk ≤ g.moment new.disk
  -- a core that had stopped makes no call of the disk
  pub idle : (stop : Stop) → old.stop ≡ Some stop
      → (new.stop ≡ Some stop) × (new.disk ≡ old.disk) × (new.space ≡ old.space)
  -- a core that ran gives up the drafts, and each image that a crash leaves has the objects
  pub leaves : (s : State) → ServesIs g old s → old.stop ≡ None → Leaves g old.disk new.disk (λ c. Holds c s.graph)
  pub serves : (s : State) → ServesIs g old s → old.stop ≡ None → new.stop ≡ None → ServesFewer g new s who
  -- no block is left behind
  pub strays : (s : State) → ServesIs g old s → old.stop ≡ None → new.stop ≡ None
      → AddsNoStray (end_in g old) (end_in g new) s.graph s.graph
  -- it stops if a device call failed, or at a damage
  pub halts : (stop : Stop) → old.stop ≡ None → new.stop ≡ Some stop → StopsSo g old new stop
  -- it stops at no damage if it served a state
  pub sound : (s : State) → ServesIs g old s → old.stop ≡ None → (stop : Stop) → new.stop ≡ Some stop
      → stop.damage ≡ None
  -- a commit that was left is carried out before a draft is given up, and none is begun
  pub left : new.stop ≡ None → (new.space.left ≡ old.space.left) ⊎ (new.space.left ≡ None)

-- ---- one draft

-- the draft as the store has it then; it is given up on the disk as it is once nothing is unfinished
pub record IsGivenUp {D : Type 0} {g : Ghosts D} {disk : D} {was : Drafting} (v : DraftSeen g disk was)
    (old new : Kernel D) : Type 0 where
  pub mid : D
  pub space : Kept
  pub store : StoreHas g v.graph v.ds mid space
  pub none : space.left ≡ None
  pub content : g.content mid ≡ end_in g old
  pub dropped : Dropped g v.graph v.ds v.id was.created mid new.disk new.space

pub record GaveUp {D : Type 0} {g : Ghosts D} {disk : D} {was : Drafting} (v : DraftSeen g disk was)
    (old new : Kernel D) : Type 0 where
  pub leaves : Leaves g old.disk new.disk (λ c. Holds c v.graph)
  pub given : new.stop ≡ None → IsGivenUp v old new
  pub sound : (stop : Stop) → new.stop ≡ Some stop → stop.damage ≡ None

-- a block was damaged on the way
pub record MeetsDamage {D : Type 0} (g : Ghosts D) (at : Top) (old new : Kernel D) (damage : Damage) : Type 0 where
  pub mid : D
  pub calls : MakesAtMost g (calls_left old.space.left) (tries_left old.space.left) old.disk mid
  pub is : IsDraftDamage g at mid new.disk new.space damage

-- A draft is given up, unless the core had stopped. Before that what is left of a commit is carried out. If this
-- fails the core stops, even if nothing was tried: the draft is gone.
pub record GivesUp {D : Type 0} (g : Ghosts D) (was : Drafting) (old new : Kernel D) : Type 0 where
  pub same : new ≡ record old { disk = new.disk; space = new.space; stop = new.stop }
  pub size : g.blocks new.disk ≡ g.blocks old.disk
  pub faults : g.faults old.disk ≤ g.faults new.disk
  pub later : g.moment old.disk ≤ g.moment new.disk
  pub idle : (stop : Stop) → old.stop ≡ Some stop → new ≡ old
  pub left : old.stop ≡ None → new.stop ≡ None → new.space.left ≡ None
  pub ends : (v : DraftSeen g old.disk was) → v.space ≡ old.space → old.stop ≡ None → GaveUp v old new
  pub failed : (stop : Stop) → old.stop ≡ None → new.stop ≡ Some stop → stop.damage ≡ None
      → HasFailed g old.disk new.disk × (stop.moment ≡ g.moment new.disk - 1)
  pub damaged : (stop : Stop) (damage : Damage) → old.stop ≡ None → new.stop ≡ Some stop → stop.damage ≡ Some damage
      → MeetsDamage g (draft_top was) old new damage × (stop.moment ≡ g.moment new.disk)

-- ---- what is reported

abbrev pub halt_of : (before now : Option Stop) → Result (Unit {0}) Halt
halt_of None None = Ok tt
halt_of None (Some stop) = Err (record { moment = stop.moment })
halt_of (Some stop) now = Ok tt
