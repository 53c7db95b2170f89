use Rattle.std.proofs.Common.{◌≡◌}
use Rattle.ufs_model.proofs.Words.{paste}
use Rattle.ufs_model.proofs.object.Content.overwrite.Given as goal

abbrev pub invariant-loop-i : goal.invariant-loop-i
invariant-loop-i l = l.self-inside.bytes.items ≡ paste l.initial.self-inside.bytes.items l.offset l.new l.i
