use Rattle.front_floor.specs.Knows.{Ran}
use Rattle.front_floor.proofs.threads.run_worker.Given as goal

abbrev pub invariant-loop-handle : goal.invariant-loop-handle
invariant-loop-handle g l = Ran l.fn.handle l.handle

abbrev pub decreases-loop-handle : goal.decreases-loop-handle
decreases-loop-handle g l = l.handle.left
