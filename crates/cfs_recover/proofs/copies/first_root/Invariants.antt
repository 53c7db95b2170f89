use Rattle.std.proofs.Common.{◌≡◌, ◌++◌, List}
use Rattle.cfs_recover.proofs.Words.{BeginsAnew, IsGoodRoot, Piece, Root, pieces_of}
use Rattle.cfs_recover.proofs.Pieces.{AreReadTo}
use Rattle.cfs_recover.proofs.copies.first_root.Given as goal

abbrev pub invariant-loop-number : goal.invariant-loop-number
invariant-loop-number l = (root : Root) (rest : List Piece) → IsGoodRoot root → l.kept ≡ pieces_of root ++ rest → BeginsAnew rest → AreReadTo root.nodes rest l.number l.rest l.nodes
