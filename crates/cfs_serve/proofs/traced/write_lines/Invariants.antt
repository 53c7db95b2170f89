use Rattle.std.proofs.Common.{◌≡◌, length, take}
use Rattle.cfs_serve.proofs.Cited.{Wrote, begun_lines}
use Rattle.cfs_serve.proofs.traced.write_lines.Given as goal

-- the lines of the events before this one were written
abbrev pub invariant-events : goal.invariant-events
invariant-events g l = record {
  ends : l.at-end ≡ length l.fn.trail.events;
  wrote : Wrote (g.K.Sink.intake l.fn.sink) (g.K.Sink.intake l.sink) (begun_lines l.fn.opening (take l.at l.fn.trail.events));
}
