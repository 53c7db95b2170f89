-- A session's requests, one after another, and what they leave of a state.
use Rattle.std.specs.Prelude.{◌≡◌, ℕ, ◌≤◌, true, false, Some, List}
use Rattle.cfs_base.specs.declared.identifier.Puid.{Puid}
use Rattle.ufs_model.specs.declared.asked.Event.TheVariants as events
use Rattle.ufs_model.specs.declared.asked.Reply.{Reply}
use Rattle.ufs_model.specs.declared.asked.Request.{Request}
use Rattle.ufs_model.specs.declared.asker.Asker.{Ghosts}
use Rattle.ufs_model.specs.Graph.{Graph, is_there, object_at}
use Rattle.ufs_model.specs.Identifier.{is_among}
use Rattle.ufs_model.specs.Next.{is_sweeping, next}
use Rattle.ufs_model.specs.Room.{graph_blocks}
use Rattle.ufs_model.specs.State.{State}

-- Each request was asked, and after each the graph has P, as it had before the first.
pub data Chain {A : Type 0} (g : Ghosts A) (who : ℕ) (P : Graph → Type 0) (a : A) (s : State) :
    A → State → Type 0 where
  Start : P s.graph → Chain g who P a s a s
  Then : {b c : A} {t u : State} → Chain g who P a s b t → (request : Request) (reply : Reply)
      → g.asked b who request reply c → next (g.seed b) t (events.Ask who request reply) ≡ Some u → P u.graph
      → Chain g who P a s c u

-- A graph that has all objects of the other, as they were except for those named. No block is given back.
pub record KeepsObjects (named : List Puid) (g h : Graph) : Type 0 where
  pub root : h.root ≡ g.root
  pub there : (x : Puid) → is_there g x ≡ true → is_there h x ≡ true
  pub others : (x : Puid) → is_there g x ≡ true → is_among x named ≡ false → object_at h x ≡ object_at g x
  pub blocks : graph_blocks g ≤ graph_blocks h

-- A call that made such requests, from this state to that one. The grants stay, and a collection goes on.
pub record Calls {A : Type 0} (g : Ghosts A) (who : ℕ) (P : Graph → Type 0) (named : List Puid) (old new : A)
    (s t : State) : Type 0 where
  pub stands : g.stands new t
  pub chain : Chain g who P old s new t
  pub graph : KeepsObjects named s.graph t.graph
  pub grants : t.grants ≡ s.grants
  pub sweeps : is_sweeping t.collection ≡ is_sweeping s.collection
