-- What a crash leaves of one call.
use Rattle.std.specs.Prelude.{◌≡◌, ◌⊎◌, ℕ, Some, None}
use Rattle.cfs_base.specs.Disk.{Image}
use Rattle.cfs_base.specs.Run.{Leaves, left_now}
use Rattle.cfs_base.specs.declared.disk.Disk.{Ghosts}
use Rattle.cfs_base.specs.declared.identifier.Puid.{Puid}
use Rattle.ufs_model.specs.declared.asked.Event.{Event}
use Rattle.ufs_model.specs.declared.asked.Event.TheVariants as events
use Rattle.ufs_model.specs.declared.asked.Reply.{Reply}
use Rattle.ufs_model.specs.declared.asked.Reply.TheVariants as replies
use Rattle.ufs_model.specs.declared.asked.Request.{Request}
use Rattle.ufs_model.specs.declared.object.File.{File}
use Rattle.ufs_model.specs.declared.object.Object.TheVariants as objects
use Rattle.ufs_model.specs.Graph.{Graph, with_object}
use Rattle.ufs_model.specs.State.{State}
use Rattle.ufs_model.specs.Refusal.{refusal_of}
use Rattle.ufs_model.specs.Outcome.{outcome_of}
use Rattle.ufs_model.specs.Next.{next}
use Rattle.vol_image.specs.Sound.{IsSoundAs, rooted_part}
use Rattle.vol_image.specs.Survives.{ChangesInPlace, IsBetween, IsDoneOrInDoubt, MayName}

-- the graphs whose rooted part may be read during a call with this event, if the event isn't counted yet
pub data Early (seed : ℕ) (s : State) : Event → Graph → Type 0 where
  Before : (e : Event) → Early seed s e s.graph
  -- the change of a normal file was cut short
  Cut : (who : ℕ) (request : Request) (reply : Reply) (id : Puid) (old new f : File) → IsDoneOrInDoubt reply
      → ChangesInPlace s who request id old new → IsBetween old new f
      → Early seed s (events.Ask who request reply) (with_object s.graph id (objects.File f))

-- the same, if the event is counted
pub data Late (seed : ℕ) (s : State) : Event → Graph → Type 0 where
  After : (e : Event) (t : State) → next seed s e ≡ Some t → Late seed s e t.graph
  -- a request in doubt was done, or cut short
  InDoubt : (who b moment : ℕ) (request : Request) → refusal_of s who request ≡ None → MayName s request b
      → Late seed s (events.Ask who request (replies.Disk (Some moment))) (outcome_of seed s who request b).1.graph
  CutInDoubt : (who moment : ℕ) (request : Request) (id : Puid) (old new f : File)
      → ChangesInPlace s who request id old new → IsBetween old new f
      → Late seed s (events.Ask who request (replies.Disk (Some moment))) (with_object s.graph id (objects.File f))

-- the image is sound, and reads as the rooted part of such a graph
pub record ReadsIn (image : Image) (P : Graph → Type 0) : Type 0 where
  pub graph : Graph
  pub may : P graph
  pub reads : IsSoundAs image (rooted_part graph)

-- What a crash leaves during this call, from this state and with this event, survives the events before it, or these
-- and this one. What a crash leaves now survives these and this one.
pub record CallSurvives {D : Type 0} (g : Ghosts D) (seed : ℕ) (s : State) (e : Event) (old new : D) : Type 0 where
  pub crashes : Leaves g old new (λ c. ReadsIn c (Early seed s e) ⊎ ReadsIn c (Late seed s e))
  pub now : (c : Image) → left_now g new c → ReadsIn c (Late seed s e)

-- no device call was made, and the event leaves the graph as it was
pub record IsIdle {D : Type 0} (seed : ℕ) (s : State) (e : Event) (old new : D) : Type 0 where
  pub disk : new ≡ old
  pub after : State
  pub step : next seed s e ≡ Some after
  pub graph : after.graph ≡ s.graph

-- a call with this event survives
abbrev pub Survived : {D : Type 0} → Ghosts D → ℕ → State → Event → D → D → Type 0
Survived g seed s e old new = CallSurvives g seed s e old new ⊎ IsIdle seed s e old new

-- a call without an event: what a crash leaves during it reads as before
pub record CallKeeps {D : Type 0} (g : Ghosts D) (s : State) (old new : D) : Type 0 where
  pub crashes : Leaves g old new (λ c. ReadsIn c (λ h. h ≡ s.graph))
