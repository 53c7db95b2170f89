-- What a request makes of an asker, whatever states it stood for, and what its answer says.
use Rattle.std.specs.Prelude.{◌≡◌, ℕ, ◌<◌, Bool, true, false, Some}
use Rattle.cfs_base.specs.Outside.{Rose}
use Rattle.ufs_model.specs.declared.asked.Event.TheVariants as events
use Rattle.ufs_model.specs.declared.asked.Reply.{Reply}
use Rattle.ufs_model.specs.declared.asked.Reply.TheVariants as replies
use Rattle.ufs_model.specs.declared.asked.Request.{Request}
use Rattle.ufs_model.specs.declared.asked.Request.TheVariants as asks
use Rattle.ufs_model.specs.Next.{is_sweeping, next}
use Rattle.ufs_model.specs.Room.{IsRoom}
use Rattle.ufs_model.specs.State.{State}

-- the answer is an event that may come in the state, and the asker stands for the state after it
pub record IsAsked (stands : State → Type 0) (seed : ℕ) (s : State) (who : ℕ) (request : Request) (reply : Reply) :
    Type 0 where
  pub after : State
  pub step : next seed s (events.Ask who request reply) ≡ Some after
  pub standing : stands after

-- the request only reads: no block is taken for it
abbrev pub only_reads : Request → Bool
only_reads (asks.Retrieve index slot) = true
only_reads (asks.Slots index) = true
only_reads (asks.Read file offset count) = true
only_reads (asks.Size file) = true
only_reads request = false

-- In a state for which the asker stood nothing is damaged. A Full names the room, and a request that only reads is
-- never answered so.
abbrev pub IsExactIn : (cylinders : ℕ) → State → Request → Reply → Type 0
IsExactIn cylinders s request (replies.Damaged damage moment) = ⊥
IsExactIn cylinders s request (replies.Full n) =
    (only_reads request ≡ false) × (is_sweeping s.collection ≡ false → IsRoom cylinders s n.free)
IsExactIn cylinders s request reply = Unit {0}

-- a call of the disk that is reported as failed did fail, and a damage that is reported was found
abbrev pub TellsTrouble : (failed failed_now damaged damaged_now : ℕ) → Reply → Type 0
TellsTrouble failed failed_now damaged damaged_now (replies.Disk doubt) = Rose failed failed_now
TellsTrouble failed failed_now damaged damaged_now (replies.Damaged damage moment) = damaged < damaged_now
TellsTrouble failed failed_now damaged damaged_now reply = Unit {0}
