-- What an answer is to the logged server.
use Rattle.std.proofs.Common.{◌≡◌, ℕ}
use Rattle.cfs_serve.proofs.Cited.{IsAsked, MakesServed, Reply, Request, State}
use Rattle.ufs_model.specs.declared.asked.Event.TheVariants as events

pub asked_makes : (stands : State → Type 0) (seed other : ℕ) → seed ≡ other → (s : State) (who : ℕ) (request : Request) (reply : Reply) → IsAsked stands seed s who request reply
    → MakesServed stands other s (events.Ask who request reply)
asked_makes stands seed other same s who request reply asked = rw (← same) (record { after = asked.after; step = asked.step; standing = asked.standing })
