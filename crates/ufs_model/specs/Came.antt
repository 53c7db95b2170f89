-- What an answer that may come is, known from the answer alone.
use Rattle.std.specs.Prelude.{◌≡◌, ℕ, ◌+◌, ◌<◌, true, false, Some, None}
use Rattle.cfs_base.specs.declared.refusal.Need.{Need}
use Rattle.ufs_model.specs.declared.asked.Reply.{Reply}
use Rattle.ufs_model.specs.declared.asked.Reply.TheVariants as replies
use Rattle.ufs_model.specs.declared.asked.Request.{Request}
use Rattle.ufs_model.specs.Graph.{is_free_root}
use Rattle.ufs_model.specs.Limits.{reserve}
use Rattle.ufs_model.specs.Need.{need_of}
use Rattle.ufs_model.specs.Next.{is_direct_delete}
use Rattle.ufs_model.specs.Outcome.{creates, outcome_of}
use Rattle.ufs_model.specs.Refusal.{refusal_of}
use Rattle.ufs_model.specs.State.{State, is_running, stopped_at}

-- want of memory, a stop, or trouble with the disk, which say nothing of the request
abbrev pub IsTroubleIn : State → Reply → Type 0
IsTroubleIn s replies.Memory = Unit {0}
IsTroubleIn s (replies.Stopped moment) = s.stopped ≡ Some moment
IsTroubleIn s (replies.Disk doubt) = is_running s ≡ true
IsTroubleIn s (replies.Damaged damage moment) = is_running s ≡ true
IsTroubleIn s reply = ⊥

-- the server stops after a doubt and at a damage
abbrev pub after_trouble : Reply → State → State
after_trouble (replies.Disk (Some moment)) s = stopped_at moment s
after_trouble (replies.Damaged damage moment) s = stopped_at moment s
after_trouble reply s = s

-- An answer is the outcome of the request, its refusal, a want of blocks, or trouble.
pub data Came (seed : ℕ) (s : State) (who : ℕ) (request : Request) (reply : Reply) (t : State) : Type 0 where
  ByOutcome : (b : ℕ) → is_running s ≡ true → refusal_of s who request ≡ None
      → (creates request ≡ true → is_free_root s.graph b ≡ true)
      → reply ≡ (outcome_of seed s who request b).0 → t ≡ (outcome_of seed s who request b).1
      → Came seed s who request reply t
  ByRefusal : is_running s ≡ true → refusal_of s who request ≡ Some reply → t ≡ s → Came seed s who request reply t
  ByWant : (n : Need) → is_running s ≡ true → refusal_of s who request ≡ None → is_direct_delete request ≡ false
      → n.need ≡ need_of s who request → n.free < n.need + reserve → reply ≡ replies.Full n → t ≡ s
      → Came seed s who request reply t
  ByTrouble : IsTroubleIn s reply → t ≡ after_trouble reply s → Came seed s who request reply t
