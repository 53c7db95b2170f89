use Rattle.std.proofs.Common.{◌+◌, ◌*◌, ℕ, length}
use Rattle.cfs_recover.proofs.Words.{AreGoodBelow, Grows, HasPointers, Image, OnlyReads, Stores, Walks, reads_by_height, sum_run}
use Rattle.cfs_recover.specs.Reads.{reads_below}
use Rattle.cfs_recover.proofs.Counting.{one_pointer}
use Rattle.cfs_recover.proofs.walk_below.+levels.Given as goal

abbrev pub decreases-walk_twig : goal.decreases-walk_twig
decreases-walk_twig g l = 2 * l.twig.height

abbrev pub decreases-walk_below : goal.decreases-walk_below
decreases-walk_below g l = 2 * l.at.height + 1

abbrev pub invariant-walk_below-loop-place : goal.invariant-walk_below-loop-place
invariant-walk_below-loop-place g l = record {
  reads : OnlyReads g.D.Disk (l.place * reads_by_height l.at.height) l.initial.disk l.disk;
  few : (image : Image) → Stores g.D.Disk l.initial.disk image
      → OnlyReads g.D.Disk (sum_run (one_pointer (reads_below image l.root l.at.height) (l.at.number * length l.pointers) l.pointers) 0 l.place) l.initial.disk l.disk;
  grows : Grows l.initial.walk l.walk;
  told : (image : Image) (done : ℕ) → Walks g.D.Disk l.initial.disk image l.maps l.initial.walk done → HasPointers image l.owner l.root l.at l.pointers
      → Walks g.D.Disk l.disk image l.maps l.walk done × AreGoodBelow image l.owner l.root l.walk l.at l.pointers l.place;
}
