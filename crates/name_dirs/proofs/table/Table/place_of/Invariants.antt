use Rattle.std.proofs.Common.{◌≢◌, ℕ, ◌<◌, ◌≤◌}
use Rattle.name_dirs.specs.Directory.{row_at}
use Rattle.name_dirs.proofs.table.Table.place_of.Given as goal

abbrev pub invariant-rows : goal.invariant-rows
invariant-rows l = (k : ℕ) → 1 ≤ k → k < l.place → row_at l.self.bytes k ≢ l.row
