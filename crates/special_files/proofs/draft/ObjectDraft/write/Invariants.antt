use Rattle.special_files.proofs.write.WriteRuns.{WriteRun}
use Rattle.special_files.proofs.draft.ObjectDraft.write.Given as goal

abbrev pub invariant-loop-leaf : goal.invariant-loop-leaf
invariant-loop-leaf g l = WriteRun g.D.Disk l.offset l.bytes l.leaf-counter l.to l.initial.disk l.disk l.initial.space l.space l.initial.self l.self l.way
