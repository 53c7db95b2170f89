use Rattle.std.proofs.Common.{◌≡◌, ◌+◌, ◌≤◌, ◌++◌, length, map}
use Rattle.cfs_serve.proofs.Cited.{reverse, vec_capacity}
use Rattle.cfs_serve.proofs.clients.unstack.Given as goal

-- the sinks that are here, and those of the ports that are left, are those that there were
abbrev pub invariant-ports : goal.invariant-ports
invariant-ports g l = record {
  room : length l.sinks.items + length l.ports.items ≤ vec_capacity l.sinks;
  capacity : vec_capacity l.sinks ≡ vec_capacity l.fn.sinks;
  moved : map g.K.Sink.intake l.sinks.items ++ map (λ p. p.sink) (reverse l.ports.items)
      ≡ map g.K.Sink.intake l.fn.sinks.items ++ map (λ p. p.sink) (reverse l.fn.ports.items);
}

abbrev pub decreases-ports : goal.decreases-ports
decreases-ports g l = length l.ports.items
