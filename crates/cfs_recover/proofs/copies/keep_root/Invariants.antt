use Rattle.std.proofs.Common.{◌≡◌, ◌++◌, drop}
use Rattle.cfs_recover.proofs.Words.{node_pieces, pieces_of}
use Rattle.cfs_recover.proofs.copies.keep_root.Given as goal

abbrev pub invariant-loop-number : goal.invariant-loop-number
invariant-loop-number l = l.kept.items ++ node_pieces l.number (drop l.number l.root.nodes) ≡ l.fn.kept.items ++ pieces_of l.root
