use Rattle.std.proofs.Common.{◌≡◌, take, true}
use Rattle.cfs_audit.proofs.Words.{has_no_end}
use Rattle.cfs_audit.proofs.cut.first_line.Given as goal

abbrev pub invariant-bytes : goal.invariant-bytes
invariant-bytes l = has_no_end (take l.end l.text) ≡ true
