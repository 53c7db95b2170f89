-- A disk of which no call is listed to fail, and that keeps none, never fails.
use Rattle.std.proofs.Common.{inl, inr, ℕ, [], false, ◌∙◌, arith, IsTrue}
use Rattle.cfs_serve.proofs.Cited.{Contains, Image, IsDue, IsUncalled, IsSamePlan, IsSure, MemoryDisk, is_recording}

pub made_sure : (d : MemoryDisk) (blocks : Image) → IsUncalled d blocks [] false → IsSure d
made_sure d blocks made = record { none = λ m listed. in_none m ((made.listed m).0 listed); forgets = made.recording }
  where
    in_none : (m : ℕ) → Contains [] m → ⊥
    in_none m is = absurd (omega (arith, is.1))

pub stays_sure : (old new : MemoryDisk) → IsSamePlan old new → IsSure old → IsSure new
stays_sure old new plan sure = record { none = λ m. rw plan.listed (sure.none m); forgets = plan.recording ∙ sure.forgets }

pub never_recording : (d : MemoryDisk) → IsSure d → IsTrue (is_recording d) → ⊥
never_recording d sure is = cc (sure.forgets, is)

pub never_due : (d : MemoryDisk) → IsSure d → IsDue d → ⊥
never_due d sure (inl listed) = sure.none _ listed
never_due d sure (inr over) = never_recording d sure over.0
