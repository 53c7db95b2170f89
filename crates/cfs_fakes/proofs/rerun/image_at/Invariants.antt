use Rattle.std.proofs.Common.{◌≡◌, length, take}
use Rattle.cfs_fakes.specs.Picks.{IsWanted}
use Rattle.cfs_fakes.specs.Replay.{zeros, replayed_calls}
use Rattle.cfs_fakes.specs.Rerun.{Follows}
use Rattle.cfs_fakes.proofs.rerun.image_at.Given as goal

abbrev pub invariant-loop-kept : goal.invariant-loop-kept
invariant-loop-kept l = record {
  follows : Follows l.rerun (replayed_calls (zeros l.blocks) l.at (take l.kept-index l.calls));
  wanted : IsWanted l.rerun.wanted.items l.picks l.blocks;
  size : length l.rerun.wanted.items ≡ l.blocks;
}
