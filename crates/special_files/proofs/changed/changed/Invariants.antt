use Rattle.special_files.proofs.changed.ChangedRun.{ListedTo}
use Rattle.special_files.proofs.changed.changed.Given as goal

abbrev pub invariant-loop-number : goal.invariant-loop-number
invariant-loop-number g l = ListedTo g.D.Disk l.own l.root l.number l.initial.disk l.disk l.taken l.dropped
