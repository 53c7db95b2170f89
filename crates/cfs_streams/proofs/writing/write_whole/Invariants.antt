use Rattle.std.proofs.Common.{length, ◌-◌, ◌≤◌, take}
use Rattle.cfs_streams.specs.Writing.{Wrote}
use Rattle.cfs_streams.proofs.writing.write_whole.Given as goal

abbrev pub invariant-loop-written : goal.invariant-loop-written
invariant-loop-written g l = record {
  within : l.written ≤ length l.bytes;
  so_far : Wrote (g.K.Sink.intake l.initial.sink) (g.K.Sink.intake l.sink) (take l.written l.bytes);
}

abbrev pub decreases-loop-written : goal.decreases-loop-written
decreases-loop-written g l = length l.bytes - l.written
