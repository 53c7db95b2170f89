use Rattle.std.proofs.Common.{◌≡◌, ◌-◌}
use Rattle.ufs_model.proofs.Words.{range_with_len}
use Rattle.ufs_model.proofs.numbers.Numbers.row.Given as goal

abbrev pub invariant-loop-number : goal.invariant-loop-number
invariant-loop-number l = l.row.items ≡ range_with_len l.from (l.number - l.from)
