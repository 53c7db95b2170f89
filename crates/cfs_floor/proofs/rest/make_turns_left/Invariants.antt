use Rattle.std.proofs.Common.{◌≡◌, ℕ, ◌<◌, true}
use Rattle.cfs_floor.proofs.rest.make_turns_left.Given as goal

abbrev pub invariant-loop : goal.invariant-loop
invariant-loop g l = (g.M.Machine.worker_count l.machine ≡ g.M.Machine.worker_count l.fn.machine) × (l.worker-end ≡ g.M.Machine.worker_count l.fn.machine) × ((k : ℕ) → k < l.worker → g.M.Machine.done l.machine k ≡ true)

abbrev pub decreases-loop : goal.decreases-loop
decreases-loop g l = g.M.Machine.left l.machine l.worker

abbrev pub invariant-loop-worker : goal.invariant-loop-worker
invariant-loop-worker g l = (g.M.Machine.worker_count l.machine ≡ g.M.Machine.worker_count l.fn.machine) × (l.worker-end ≡ g.M.Machine.worker_count l.fn.machine) × ((k : ℕ) → k < l.worker → g.M.Machine.done l.machine k ≡ true)
