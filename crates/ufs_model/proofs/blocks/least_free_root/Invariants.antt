use Rattle.std.proofs.Common.{◌≡◌, ◌<◌, ◌≤◌, ℕ, true}
use Rattle.ufs_model.proofs.Words.{has_block}
use Rattle.ufs_model.proofs.blocks.least_free_root.Given as goal

-- each block so far is taken
abbrev pub invariant-loop-block : goal.invariant-loop-block
invariant-loop-block l = (c : ℕ) → 3 ≤ c → c < l.block → has_block l.objects.entries c ≡ true
