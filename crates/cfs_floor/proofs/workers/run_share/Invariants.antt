use Rattle.std.proofs.Common.{◌≡◌, ◌+◌}
use Rattle.cfs_floor.proofs.workers.run_share.Given as goal

abbrev pub invariant-loop-share : goal.invariant-loop-share
invariant-loop-share g l = (l.turn + l.share.left ≡ l.fn.share.left) × (l.share.worker ≡ l.fn.share.worker)

abbrev pub decreases-loop-share : goal.decreases-loop-share
decreases-loop-share g l = l.share.left
