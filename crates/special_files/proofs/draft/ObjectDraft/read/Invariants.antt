use Rattle.special_files.proofs.read.ReadLeaves.{ReadTo}
use Rattle.special_files.proofs.draft.ObjectDraft.read.Given as goal

abbrev pub invariant-loop-leaf : goal.invariant-loop-leaf
invariant-loop-leaf g l = ReadTo g.D.Disk l.self l.offset l.leaf l.initial.into l.initial.disk l.disk l.way l.into
