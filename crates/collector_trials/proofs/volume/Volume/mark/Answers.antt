use Rattle.cfs_base.proofs.Emptied.{emptied}
use Rattle.collector_trials.proofs.volume.Volume.mark.Goals as goal

pub condemn-taken-requires-clause-read : goal.condemn-taken-requires-clause-read
condemn-taken-requires-clause-read c = emptied _ _ c.has_grey.ensures c.if-has_grey.false

pub condemn-taken-requires-clause-taken : goal.condemn-taken-requires-clause-taken
condemn-taken-requires-clause-taken c = emptied _ _ c.has_rescue.ensures c.if-has_rescue.false
