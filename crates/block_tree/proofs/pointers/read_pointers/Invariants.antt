use Rattle.std.proofs.Common.{◌≡◌, ◌<◌, ◌^◌, ℕ, get_or}
use Rattle.block_tree.proofs.Words.{number_at}
use Rattle.block_tree.proofs.pointers.read_pointers.Given as goal

abbrev pub invariant-loop-i : goal.invariant-loop-i
invariant-loop-i l = record {
  read : (k : ℕ) → k < l.i → get_or l.into k 0 ≡ number_at l.bytes k;
  fit : (k : ℕ) → k < l.i → get_or l.into k 0 < 2 ^ 32;
}
