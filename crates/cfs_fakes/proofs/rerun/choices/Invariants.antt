use Rattle.std.proofs.Common.{◌≡◌, length, drop}
use Rattle.cfs_fakes.specs.Picks.{IsWanted}
use Rattle.cfs_fakes.proofs.rerun.choices.Given as goal

abbrev pub invariant-loop-i : goal.invariant-loop-i
invariant-loop-i l = record {
  wanted : IsWanted l.wanted.items (drop l.i l.picks) l.blocks;
  size : length l.wanted.items ≡ l.blocks;
}
