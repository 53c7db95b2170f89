use Rattle.std.proofs.Common.{◌≡◌, ℕ, ◌<◌, get_or, length}
use Rattle.front_floor.proofs.rest.budgets_of.Given as goal

-- so many workers have theirs
abbrev pub invariant-workers : goal.invariant-workers
invariant-workers g l = (length l.budgets.items ≡ l.worker)
    × ((w : ℕ) → w < l.worker → get_or l.budgets.items w 0 ≡ g.M.Machine.left l.machine w)
