use Rattle.std.proofs.Common.{◌≡◌, ℕ, false, [], get_or}
use Rattle.special_files.proofs.shrink.ShedListing.{ListRun}
use Rattle.special_files.proofs.freed.list_from.Given as goal

abbrev pub invariant-loop-number : goal.invariant-loop-number
invariant-loop-number g l = record {
  run : ListRun g.D.Disk l.parts.root.now l.parts.leaves.now l.parts.nodes.now l.way l.from l.number l.initial.disk l.disk l.list;
  none : ((n : ℕ) → get_or l.parts.nodes.now n false ≡ false) → (l.list ≡ []) × (l.disk ≡ l.initial.disk);
}
