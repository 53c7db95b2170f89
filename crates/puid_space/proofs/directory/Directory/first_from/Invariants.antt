use Rattle.std.proofs.Common.{◌≡◌, drop}
use Rattle.puid_space.proofs.Words.{first_in, listed}
use Rattle.puid_space.proofs.directory.Directory.first_from.Given as goal

-- it is the first of those from this block on
abbrev pub invariant-loop-block : goal.invariant-loop-block
invariant-loop-block l = first_in l.fn.self.named l.fn.number ≡ first_in (listed l.block (drop l.block l.self-inside.cells.items)) l.fn.number
