use Rattle.std.proofs.Common.{◌≡◌, ◌+◌, ◌≤◌, List, drop}
use Rattle.cfs_recover.proofs.Words.{AreKeptFor, AreWritten, Copied, CopiesRoots, Graph, Image, RunKeeps, MakesAtMost, all_pieces, copies_before}
use Rattle.cfs_recover.proofs.writes.write_roots.Given as goal

abbrev pub invariant-loop-item : goal.invariant-loop-item
invariant-loop-item g l = record {
  calls : MakesAtMost g.D.Disk l.item-index l.item-index l.initial.disk l.disk;
  keeps : (a : Image) (graph : Graph) (start : _) (copies : List Copied) → RunKeeps g.D.Disk (CopiesRoots a graph) start l.initial.disk → AreKeptFor a graph l.maps l.walked copies
      → RunKeeps g.D.Disk (CopiesRoots a graph) start l.disk × AreWritten a copies (g.D.Disk.content l.disk) (copies_before a l.walked.walk.found.items l.item-index)
      × (l.kept ≡ all_pieces (drop (copies_before a l.walked.walk.found.items l.item-index) copies))
      × (g.D.Disk.tries l.disk ≤ g.D.Disk.tries l.initial.disk + copies_before a l.walked.walk.found.items l.item-index);
}
