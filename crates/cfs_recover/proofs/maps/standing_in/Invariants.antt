use Rattle.std.proofs.Common.{◌≡◌, length}
use Rattle.cfs_recover.proofs.Words.{AreMapsOf, AreStanding, Image}
use Rattle.cfs_recover.proofs.maps.standing_in.Given as goal

abbrev pub invariant-loop-block : goal.invariant-loop-block
invariant-loop-block l = record {
  size : length l.standing ≡ l.blocks;
  told : (image : Image) → AreMapsOf image l.maps → AreStanding image l.block l.standing;
}
