use Rattle.std.proofs.Common.{◌*◌, ◌-◌, ◌≤◌, length}
use Rattle.cfs_recover.proofs.Words.{AreStanding, Grows, HasKept, HasLabel, Image, Label, OnlyReads, Walks, reads_of_object}
use Rattle.cfs_recover.specs.Reads.{HasRead}
use Rattle.cfs_recover.proofs.walk.walk_all.Given as goal

abbrev pub invariant-loop-next : goal.invariant-loop-next
invariant-loop-next g l = record {
  within : l.next ≤ length l.walk.found.items;
  reads : OnlyReads g.D.Disk (reads_of_object * l.next) l.initial.disk l.disk;
  grows : Grows l.initial.walk l.walk;
  told : (image : Image) (label : Label) → Walks g.D.Disk l.initial.disk image l.maps l.initial.walk 0 → AreStanding image (length image) l.standing → HasLabel image label
      → Walks g.D.Disk l.disk image l.maps l.walk l.next × HasKept image l.walk.found.items l.next l.kept.items;
  by_object : (image : Image) (label : Label) → Walks g.D.Disk l.initial.disk image l.maps l.initial.walk 0 → AreStanding image (length image) l.standing → HasLabel image label
      → HasRead g.D.Disk image l.walk.found.items l.next l.initial.disk l.disk;
}

abbrev pub decreases-loop-next : goal.decreases-loop-next
decreases-loop-next g l = g.D.Disk.blocks l.initial.disk - l.next
