-- What the sweep of one cylinder does to a disk and to the counts of its Free blocks.
use Rattle.std.specs.Prelude.{◌≡◌, ℕ, ◌+◌, ◌*◌, ◌/◌, ◌<◌, nat_lt, if◌then◌else◌, false, List, length, Result}
use Rattle.std.specs.Prelude.{IfErr, OnErr, OnOk}
use Rattle.cfs_base.specs.Calls.{MakesAtMost, OnlyReads}
use Rattle.cfs_base.specs.Outside.{count_after}
use Rattle.cfs_base.specs.Run.{Leaves, Tells}
use Rattle.cfs_base.specs.declared.disk.Disk.{Ghosts}
use Rattle.cfs_base.specs.declared.identifier.Puid.{Puid}
use Rattle.cfs_base.specs.declared.kind.Kind.{Kind}
use Rattle.cfs_base.specs.declared.refusal.Trouble.{Trouble}
use Rattle.cfs_base.specs.declared.refusal.Trouble.TheVariants as trouble
use Rattle.cyl_alloc.specs.Refusals.{IsMapTrouble}
use Rattle.cfs_base.specs.Refusals.{trouble_had_tried}
use Rattle.cyl_alloc.specs.Space.{AreCounts, Kept}
use Rattle.ufs_model.specs.State.{State}
use Rattle.vol_image.specs.Sound.{Holds}
use Rattle.vol_owners.specs.Account.{Drafts}
use Rattle.collector_steps.specs.declared.phase.Phase.{Phase}
use Rattle.collector_steps.specs.declared.phase.Phase.TheVariants as phases
use Rattle.collector_steps.specs.declared.sweep.Pass.{Pass}
use Rattle.collector_steps.specs.declared.sweep.Pass.TheVariants as passes
use Rattle.collector_steps.specs.Collecting.{Collecting, Collects, Serves, volume_of}
use Rattle.collector_steps.specs.Left.{steps_left}
use Rattle.collector_steps.specs.Sweep.{IsSweptOf, MayBegin, NoneGoes}

abbrev pub IsDamageTrouble : Trouble → Type 0
IsDamageTrouble (trouble.Disk tried) = ⊥
IsDamageTrouble (trouble.Damaged damage) = Unit {0}

-- One read, and one write if some entry is to become Free.
pub record IsSweep {D : Type 0} (g : Ghosts D) (directory : List (Puid × Kind)) (pass : Pass) (cylinder : ℕ)
    (old new : D)
    (before after : Kept) (result : Result (Unit {0}) Trouble) : Type 0 where
  -- each entry that is to become Free is Free, and no other changed
  pub swept : Tells g old → OnOk result (IsSweptOf directory pass cylinder (g.content old) (g.content new))
  -- what was served is still served
  pub serves : (s : State) (ds : Drafts) → Serves g old directory s ds → MayBegin pass (g.content old) s.graph
      → OnOk result (Serves g new directory s ds)
  -- done or failed, each image that a crash leaves has the graph
  pub leaves : (s : State) (ds : Drafts) → Serves g old directory s ds → Leaves g old new (λ c. Holds c s.graph)
  -- the counts are again those of the disk
  pub counts : Tells g old → AreCounts (g.content old) before → OnOk result (AreCounts (g.content new) after)
  pub cylinders : length after.free ≡ length before.free
  pub left : after.left ≡ before.left
  pub kept : OnErr result (after ≡ before)
  -- a device call failed, or the cylinder's map block is no map, which can't be on a disk that is served
  pub refused : IfErr result (IsMapTrouble g old new (64 * cylinder))
  pub sound : (s : State) (ds : Drafts) → Serves g old directory s ds → IfErr result (λ t. ¬ IsDamageTrouble t)
  pub unless_tried : IfErr result (λ t. trouble_had_tried t ≡ false → OnlyReads g 1 old new)
  pub calls : MakesAtMost g 2 1 old new
  -- a map of which no entry is to become Free isn't written
  pub spares : Tells g old → NoneGoes directory pass cylinder (g.content old) → OnlyReads g 1 old new

-- ---- a collector that sweeps

-- the phase is that of the pass
abbrev pub IsPhaseOf : Pass → Phase → Type 0
IsPhaseOf pass phases.Idle = ⊥
IsPhaseOf pass phases.Marking = ⊥
IsPhaseOf passes.Inner (phases.Inner cylinder) = Unit {0}
IsPhaseOf passes.Roots (phases.Inner cylinder) = ⊥
IsPhaseOf passes.Inner (phases.Roots cylinder) = ⊥
IsPhaseOf passes.Roots (phases.Roots cylinder) = Unit {0}
IsPhaseOf pass phases.Swept = ⊥

abbrev pub cylinder_of : Phase → ℕ
cylinder_of phases.Idle = 0
cylinder_of phases.Marking = 0
cylinder_of (phases.Inner cylinder) = cylinder
cylinder_of (phases.Roots cylinder) = cylinder
cylinder_of phases.Swept = 0

-- the inner pass is over all cylinders before the root pass begins
abbrev pub next_phase : ℕ → Phase → Phase
next_phase cylinders phases.Idle = phases.Idle
next_phase cylinders phases.Marking = phases.Marking
next_phase cylinders (phases.Inner cylinder) =
    if nat_lt (cylinder + 1) cylinders then phases.Inner (cylinder + 1) else phases.Roots 0
next_phase cylinders (phases.Roots cylinder) =
    if nat_lt (cylinder + 1) cylinders then phases.Roots (cylinder + 1) else phases.Swept
next_phase cylinders phases.Swept = phases.Swept

-- A collector swept its next cylinder.
pub record HasSwept {D : Type 0} (g : Ghosts D) (directory : List (Puid × Kind)) (pass : Pass) (old new : D)
    (before after : Kept) (k l : Collecting) (result : Result (Unit {0}) Trouble) : Type 0 where
  pub sweep : IsSweep g directory pass (cylinder_of k.phase) old new before after result
  pub serves : (s : State) (ds : Drafts) → Serves g old directory s ds → Collects (g.content old) s k
      → OnOk result (Serves g new directory s ds)
  pub keeps : (s : State) (ds : Drafts) → Serves g old directory s ds → Collects (g.content old) s k
      → OnOk result (Collects (g.content new) s l)
  pub phase : OnOk result (l.phase ≡ next_phase (volume_of k / 64) k.phase)
  pub steps : OnOk result (l.steps ≡ count_after k.steps)
  pub added : l.added ≡ k.added
  pub less : OnOk result (steps_left l < steps_left k)
  pub marks : l.marks ≡ k.marks
  pub rescues : l.rescues ≡ k.rescues
  pub same : OnErr result (l ≡ k)
