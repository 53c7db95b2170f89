use Rattle.std.proofs.Common.{◌++◌, length}
use Rattle.cfs_audit.proofs.Words.{ended, opening_line}
use Rattle.cfs_audit.proofs.Followed.{IsAt}
use Rattle.cfs_audit.proofs.trail.follow.Given as goal

abbrev pub invariant-lines : goal.invariant-lines
invariant-lines l = IsAt (ended (opening_line l.fn.opening) ++ l.text) l.rest l.fn.opening l.events l.follower

abbrev pub decreases-lines : goal.decreases-lines
decreases-lines l = length l.rest
