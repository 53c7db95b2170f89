use Rattle.std.proofs.Common.{◌≡◌, ◌++◌, drop}
use Rattle.ufs_model.proofs.Words.{merged}
use Rattle.ufs_model.proofs.numbers.Levels.merged.Given as goal

abbrev pub invariant-loop-i : goal.invariant-loop-i
invariant-loop-i l =
    l.levels.items ++ merged (drop l.i l.self-inside.levels.items) (drop l.i l.others-inside.levels.items) ≡ merged l.self-inside.levels.items l.others-inside.levels.items
