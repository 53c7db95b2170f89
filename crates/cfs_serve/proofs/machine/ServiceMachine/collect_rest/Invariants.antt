use Rattle.std.proofs.Common.{◌≡◌}
use Rattle.cfs_serve.proofs.machine.ServiceMachine.collect_rest.Given as goal

-- the ports are as they were
abbrev pub invariant-steps : goal.invariant-steps
invariant-steps g l = l.self.ports ≡ l.fn.self.ports

abbrev pub decreases-steps : goal.decreases-steps
decreases-steps g l = l.self.left
