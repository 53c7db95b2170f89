use Rattle.std.proofs.Common.{◌≡◌, ◌+◌, ◌*◌, ◌≤◌, ℕ, length, get_or}
use Rattle.cfs_recover.proofs.Words.{AreMapsOf, AreTidied, Graph, Image, IsSettled, IsTidying, RunKeeps, MakesAtMost, Tidies, block_at, changed_maps}
use Rattle.cfs_recover.proofs.tidy.write_maps.Given as goal

abbrev pub invariant-loop-cylinder : goal.invariant-loop-cylinder
invariant-loop-cylinder g l = record {
  calls : MakesAtMost g.D.Disk l.cylinder l.cylinder l.initial.disk l.disk;
  size : length l.space.free ≡ length l.maps;
  left : l.space.left ≡ l.initial.space.left;
  zero : (k : ℕ) → l.cylinder ≤ k → get_or l.space.free k 0 ≡ 0;
  keeps : (a : Image) (graph : Graph) → IsSettled g.D.Disk l.initial.disk → g.D.Disk.content l.initial.disk ≡ a → IsTidying a graph l.held → AreMapsOf a l.maps
      → RunKeeps g.D.Disk (Tidies a graph) l.initial.disk l.disk × AreTidied (g.D.Disk.content l.disk) l.maps l.held l.space.free l.cylinder
      × ((k : ℕ) → l.cylinder ≤ k → block_at (g.D.Disk.content l.disk) (64 * k) ≡ block_at a (64 * k))
      × (g.D.Disk.tries l.disk ≤ g.D.Disk.tries l.initial.disk + changed_maps a (g.D.Disk.content l.disk) l.cylinder);
}
