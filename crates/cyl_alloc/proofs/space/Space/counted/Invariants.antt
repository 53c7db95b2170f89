use Rattle.std.proofs.Common.{◌≡◌, ◌*◌, ◌<◌, ℕ, length, get_or}
use Rattle.cyl_alloc.proofs.Words.{IsGoodMap, AreFreeCounts, OnlyReads, Tells, free_in_cylinder}
use Rattle.cyl_alloc.proofs.space.Space.counted.Given as goal

abbrev pub invariant-loop-cylinder : goal.invariant-loop-cylinder
invariant-loop-cylinder g l = record {
  reads : OnlyReads g.D.Disk l.cylinder l.initial.disk l.disk;
  kept : AreFreeCounts l.counts;
  size : length l.counts ≡ l.cylinders;
  counts : Tells g.D.Disk l.initial.disk → (j : ℕ) → j < l.cylinder → get_or l.counts j 0 ≡ free_in_cylinder (g.D.Disk.content l.initial.disk) j;
  whole : Tells g.D.Disk l.initial.disk → (j : ℕ) → j < l.cylinder → IsGoodMap (g.D.Disk.content l.initial.disk) (64 * j);
}
