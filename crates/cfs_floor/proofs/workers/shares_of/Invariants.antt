use Rattle.std.proofs.Common.{◌≡◌}
use Rattle.cfs_floor.specs.Shares.{shares_from}
use Rattle.cfs_floor.proofs.workers.shares_of.Given as goal

abbrev pub invariant-loop-worker : goal.invariant-loop-worker
invariant-loop-worker g l = (l.shares.items ≡ shares_from (g.M.Machine.left l.machine) l.worker) × (l.worker-end ≡ g.M.Machine.worker_count l.machine)
