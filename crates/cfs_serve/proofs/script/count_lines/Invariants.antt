use Rattle.std.proofs.Common.{◌≡◌, ◌+◌, ◌≤◌, length}
use Rattle.cfs_serve.proofs.Cited.{request_lines}
use Rattle.cfs_serve.proofs.script.count_lines.Given as goal

-- what was counted and what is left are all
abbrev pub invariant-lines : goal.invariant-lines
invariant-lines l = record {
  all : l.count + length (request_lines l.rest) ≡ length (request_lines l.script);
  room : l.count + length l.rest ≤ length l.script;
}

abbrev pub decreases-lines : goal.decreases-lines
decreases-lines l = length l.rest
