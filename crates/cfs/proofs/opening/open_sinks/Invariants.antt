use Rattle.std.proofs.Common.{◌≡◌, length}
use Rattle.cfs.proofs.opening.open_sinks.Given as goal

-- one is open for each path that was passed
abbrev pub invariant-paths : goal.invariant-paths
invariant-paths l = length l.sinks.items ≡ l.path-index
