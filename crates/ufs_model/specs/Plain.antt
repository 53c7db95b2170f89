-- What the slow server is to its callers, and how it answers.
use Rattle.std.specs.Prelude.{◌≡◌, ℕ, ◌≤◌, Bool, true, false, length, set, slice_get, Option, Some, None}
use Rattle.std.proofs.Common.{ap}
use Rattle.ufs_model.specs.Limits.{most_at_once}
use Rattle.cfs_base.specs.declared.identifier.Tuid.{Tuid}
use Rattle.ufs_model.specs.declared.asked.Ref.{Ref}
use Rattle.ufs_model.specs.declared.asked.Ref.TheVariants.{Through}
use Rattle.ufs_model.specs.declared.asked.Request.{Request}
use Rattle.ufs_model.specs.declared.asked.Reply.{Reply}
use Rattle.ufs_model.specs.declared.asked.Reply.TheVariants as replies
use Rattle.ufs_model.specs.declared.object.Draft.{Draft}
use Rattle.ufs_model.specs.declared.object.Grant.{Grant}
use Rattle.cfs_base.specs.declared.identifier.Puid.{Puid}
use Rattle.ufs_model.specs.declared.object.Object.{Object}
use Rattle.ufs_model.specs.Object.{Fill}
use Rattle.ufs_model.specs.Graph.{IsLeastFreeRoot, with_object}
use Rattle.ufs_model.specs.State.{State, changed_draft, grant_of, is_running}
use Rattle.ufs_model.specs.Refusal.{refusal_of}
use Rattle.ufs_model.specs.Outcome.{outcome_of, creates, block_named}
use Rattle.ufs_model.specs.WellFormed.{IsState}

-- a server: the seed of its words, and its state
pub record Server : Type 0 where
  pub seed : ℕ
  pub state : State

-- the place of the grant to whose draft the reference goes
pub record IsDraftPlace (s : State) (who : ℕ) (ref : Ref) (at : ℕ) : Type 0 where
  pub t : Tuid
  pub through : ref ≡ Through t
  pub grant : Grant
  pub found : grant_of s who t ≡ Some grant
  pub stands : slice_get s.grants at ≡ Some grant
  pub draft : Draft
  pub has : grant.draft ≡ Some draft

-- the state with a new object, and its identifier in the slot of the draft of the grant at this place
abbrev pub with_new_in_draft : State → (at : ℕ) → Grant → Draft → (slot : ℕ) → Puid → Object → State
with_new_in_draft s at g d slot id o = record s {
  graph = with_object s.graph id o;
  grants = set s.grants at (record g { draft = Some (changed_draft (Fill slot (Some id)) d) });
}

-- the refusal, which changes nothing, or else the outcome
abbrev pub refused_or : Option Reply → State → Reply × State → Reply × State
refused_or (Some reply) s done = (reply, s)
refused_or None s done = done

-- the answer to a request and the state after it, if b is the root block of a new object
abbrev pub answer_of : ℕ → State → ℕ → Request → ℕ → Reply × State
answer_of seed s who request b = refused_or (refusal_of s who request) s (outcome_of seed s who request b)

abbrev pub is_id : Reply → Bool
is_id (replies.Id id) = true
is_id reply = false

-- reply and state are those of the answer, in which a new object's root block is the least free one
pub record IsAnswer (seed : ℕ) (s : State) (who : ℕ) (request : Request) (reply : Reply) (after : State) : Type 0 where
  pub is : answer_of seed s who request (block_named reply) ≡ (reply, after)
  pub least : creates request ≡ true → is_id reply ≡ true → IsLeastFreeRoot s.graph.objects (block_named reply)

-- The server has no disk, is never full and doesn't stop. A content is no longer than one read.
abbrev pub IsPlainReply : Reply → Type 0
IsPlainReply (replies.Content bytes) = length bytes ≤ most_at_once
IsPlainReply (replies.Full n) = ⊥
IsPlainReply (replies.Stopped moment) = ⊥
IsPlainReply (replies.Disk doubt) = ⊥
IsPlainReply (replies.Damaged damage moment) = ⊥
IsPlainReply reply = Unit {0}

-- ---- the states for which it stands: its own state, which is well-formed

pub plain_counted : (p : Server) (s : State) → (s ≡ p.state) × IsState s → s.drawn ≡ p.state.drawn
plain_counted p s stands = ap (λ (t : State). t.drawn) stands.0

pub plain_formed : (p : Server) (s : State) → (s ≡ p.state) × IsState s → is_running s ≡ true
    → IsState s × (s.graph.root ≡ p.state.graph.root)
plain_formed p s stands runs = (stands.1, ap (λ (t : State). t.graph.root) stands.0)
