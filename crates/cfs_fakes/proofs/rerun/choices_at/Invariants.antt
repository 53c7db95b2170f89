use Rattle.std.proofs.Common.{◌≡◌, take}
use Rattle.cfs_fakes.specs.Replay.{zeros, replayed_calls, choices_of}
use Rattle.cfs_fakes.proofs.rerun.choices_at.Given as goal

abbrev pub invariant-loop-kept : goal.invariant-loop-kept
invariant-loop-kept l = l.count ≡ choices_of (replayed_calls (zeros l.blocks) l.at (take l.kept-index l.calls)) l.block
