-- The events of a run, one after another.
use Rattle.std.specs.Prelude.{ℕ, List, [], ◌∷◌, Option, Some, option_and_then, IsSome}
use Rattle.ufs_model.specs.declared.asked.Event.{Event}
use Rattle.ufs_model.specs.Graph.{Graph}
use Rattle.ufs_model.specs.State.{State, opening}
use Rattle.ufs_model.specs.Next.{next}

-- the state after these events, if each may happen in its turn
abbrev pub replay_from : ℕ → State → List Event → Option State
replay_from seed s [] = Some s
replay_from seed s (e ∷ es) = option_and_then (λ t. replay_from seed t es) (next seed s e)

abbrev pub replay : ℕ → Graph → List Event → Option State
replay seed g trail = replay_from seed (opening g) trail

abbrev pub IsLegalRun : ℕ → Graph → List Event → Type 0
IsLegalRun seed g trail = IsSome (replay seed g trail)
