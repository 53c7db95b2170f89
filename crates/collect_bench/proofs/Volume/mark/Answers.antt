use Rattle.cfs_base.proofs.Emptied.{emptied}
use Rattle.collect_bench.proofs.Volume.mark.Goals as goal

pub condemn-requires-clause-read : goal.condemn-requires-clause-read
condemn-requires-clause-read c = emptied _ _ c.has_grey.ensures c.if-has_grey.false

pub condemn-requires-clause-taken : goal.condemn-requires-clause-taken
condemn-requires-clause-taken c = emptied _ _ c.has_rescue.ensures c.if-has_rescue.false
