use Rattle.std.proofs.Common.{◌≡◌, ◌-◌, ◌≤◌, length}
use Rattle.special_files.proofs.Words.{unset_in}
use Rattle.special_files.proofs.flags.Flags.lacking.Given as goal

abbrev pub invariant-loop-at : goal.invariant-loop-at
invariant-loop-at l = record {
  from : l.from ≤ l.at;
  count : l.count ≡ length (unset_in l.self l.from l.at);
  most : l.count ≤ l.at - l.from;
}
