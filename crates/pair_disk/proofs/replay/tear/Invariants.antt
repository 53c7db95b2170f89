use Rattle.std.proofs.Common.{◌≡◌, IsTrue, length, drop}
use Rattle.pair_disk.proofs.Words.{AreBlocks, IsTornImage, TornState, may_tear, picked}
use Rattle.pair_disk.proofs.replay.tear.Given as goal

abbrev pub invariant-loop-pick : goal.invariant-loop-pick
invariant-loop-pick l = record {
  puts : picked l.content.items (drop l.pick-index l.picks) ≡ picked l.initial.content.items l.picks;
  allowed : (s : TornState) → IsTornImage s l.initial.content.items → IsTrue (may_tear s l.picks) → IsTornImage s l.content.items × IsTrue (may_tear s (drop l.pick-index l.picks));
  size : length l.content.items ≡ length l.initial.content.items;
  blocks : AreBlocks l.initial.content.items → AreBlocks l.content.items;
}
