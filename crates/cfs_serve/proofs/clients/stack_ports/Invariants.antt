use Rattle.std.proofs.Common.{◌≡◌, ◌+◌, ◌≤◌, ◌++◌, length, map}
use Rattle.cfs_serve.proofs.Cited.{AreNew, request_lines, reverse, vec_capacity}
use Rattle.cfs_serve.proofs.clients.stack_ports.Given as goal

-- the scripts and sinks that are left, and those of the ports, are those that there were
abbrev pub invariant-clients : goal.invariant-clients
invariant-clients g l = record {
  count : length l.scripts.items ≡ length l.sinks.items;
  room : length l.scripts.items + length l.ports.items ≤ vec_capacity l.ports;
  fits : length l.sinks.items + length l.ports.items ≤ vec_capacity l.sinks;
  capacity : vec_capacity l.sinks ≡ vec_capacity l.fn.sinks;
  lines : map request_lines l.scripts.items ++ map (λ p. p.lines) (reverse l.ports.items) ≡ map request_lines l.fn.scripts.items;
  sinks : map g.K.Sink.intake l.sinks.items ++ map (λ p. p.sink) (reverse l.ports.items) ≡ map g.K.Sink.intake l.fn.sinks.items;
  new : AreNew l.root (reverse l.ports.items);
}

abbrev pub decreases-clients : goal.decreases-clients
decreases-clients g l = length l.scripts.items
