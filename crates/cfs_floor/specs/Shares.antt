-- Shares of the turns.
use Rattle.std.specs.Prelude.{◌≡◌, ℕ, zero, suc, ◌≤◌, List, [], ◌∷◌, ◌++◌}
use Rattle.cfs_floor.specs.declared.workers.Share.{Share}

-- the shares of the first workers
abbrev pub shares_from : (left : ℕ → ℕ) → ℕ → List Share
shares_from left zero = []
shares_from left (suc n) = shares_from left n ++ (record { worker = n; left = left n } ∷ [])

-- what is left of a share once it has ended
abbrev pub IsRest : Share → Share → Type 0
IsRest old new = (new.worker ≡ old.worker) × (new.left ≤ old.left)
