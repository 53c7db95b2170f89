use Rattle.std.proofs.Common.{◌≡◌, ◌++◌, drop}
use Rattle.ufs_model.proofs.Words.{within}
use Rattle.ufs_model.proofs.numbers.Levels.within.Given as goal

abbrev pub invariant-loop-i : goal.invariant-loop-i
invariant-loop-i l = l.levels.items ++ within (drop l.i l.self) (drop l.i l.others) ≡ within l.self l.others
