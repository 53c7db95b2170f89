use Rattle.std.proofs.Common.{◌≤◌, ◌+◌, ◌-◌, length}
use Rattle.cfs_streams.specs.Reading.{Gave}
use Rattle.cfs_streams.proofs.reading.read_whole.Given as goal

abbrev pub invariant-loop-buffer : goal.invariant-loop-buffer
invariant-loop-buffer g l = record {
  within : length l.bytes.items ≤ l.limit + 1;
  so_far : Gave (g.S.Source.supply l.initial.source) (g.S.Source.supply l.source) l.bytes.items;
}

abbrev pub decreases-loop-buffer : goal.decreases-loop-buffer
decreases-loop-buffer g l = l.limit + 1 - length l.bytes.items
