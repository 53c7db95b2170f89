use Rattle.std.proofs.Common.{take}
use Rattle.ufs_model.proofs.Words.{IsSpread}
use Rattle.ufs_model.proofs.marks.spread.Given as goal

abbrev pub invariant-seen : goal.invariant-seen
invariant-seen l = IsSpread l.seen (take l.one-index l.seen) l.fn.reached.keys l.reached.keys l.grew
