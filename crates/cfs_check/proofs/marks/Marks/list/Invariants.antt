use Rattle.std.proofs.Common.{◌≡◌}
use Rattle.cfs_check.specs.Marks.{damages_below}
use Rattle.cfs_check.proofs.marks.Marks.list.Given as goal

abbrev pub invariant-loop-place : goal.invariant-loop-place
invariant-loop-place l = l.faults.items ≡ damages_below l.marked-items l.place
