use Rattle.std.proofs.Common.{◌≡◌, take}
use Rattle.pair_disk.proofs.Words.{replayed_writes, unwritten}
use Rattle.pair_disk.proofs.history.History.is_torn.Given as goal

abbrev pub invariant-loop-kept : goal.invariant-loop-kept
invariant-loop-kept l = l.torn ≡ (replayed_writes (unwritten l.self.first.items) l.at (take l.kept-index l.self.kept.items)).torn l.block
