use Rattle.std.proofs.Common.{◌≡◌, ◌+◌, ◌*◌, ◌≤◌, ◌^◌, drop}
use Rattle.ufs_model.proofs.Words.{missing}
use Rattle.ufs_model.proofs.numbers.Levels.missing.Given as goal

abbrev pub invariant-loop-i : goal.invariant-loop-i
invariant-loop-i l =
    (l.count + missing (drop l.i l.self) (drop l.i l.others) ≡ missing l.self l.others) × (l.count ≤ l.i * 2 ^ 64)
