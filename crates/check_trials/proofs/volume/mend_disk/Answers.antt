use Rattle.std.proofs.Common.{IsTrue, sym, subst}
use Rattle.check_trials.proofs.volume.mend_disk.Goals as goal

pub mend-requires-clause-same : goal.mend-requires-clause-same
mend-requires-clause-same g c lifetimes lives honest =
    let was = subst IsTrue c.load.ensures.calls.same.honesty honest in ((c.in_ok-image.ensures.settled was).tells, sym (c.in_ok-image.ensures.content was))
