use Rattle.std.proofs.Common.{◌≡◌, true, map}
use Rattle.ufs_model.proofs.Words.{IsReachedBy, Puid, seen_end, is_among}
use Rattle.ufs_model.proofs.Reached.{outside}
use Rattle.ufs_model.proofs.marks.reached_in.Given as goal

abbrev pub invariant-rounds : goal.invariant-rounds
invariant-rounds l = (x : Puid) → is_among x l.reached.keys ≡ true → IsReachedBy l.seen x

-- what is not reached yet
abbrev pub decreases-rounds : goal.decreases-rounds
decreases-rounds l = outside (map seen_end l.seen) l.reached.keys
