use Rattle.std.proofs.Common.{◌≡◌, ◌↔◌, ℕ, ◌<◌, true}
use Rattle.cyl_map.proofs.Words.{IsSome, entry_at}
use Rattle.cyl_map.proofs.map.is_spelled.Given as goal

abbrev pub invariant-loop-bytes : goal.invariant-loop-bytes
invariant-loop-bytes l = (l.good ≡ true) ↔ ((k : ℕ) → k < l.bytes-index → IsSome (entry_at l.block k))
