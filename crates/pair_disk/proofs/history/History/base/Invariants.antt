use Rattle.std.proofs.Common.{◌≡◌, take}
use Rattle.pair_disk.proofs.Words.{replayed_writes, unwritten}
use Rattle.pair_disk.proofs.history.History.base.Given as goal

abbrev pub invariant-loop-kept : goal.invariant-loop-kept
invariant-loop-kept l = l.base.items ≡ (replayed_writes (unwritten l.self.first.items) l.at (take l.kept-index l.self.kept.items)).base
