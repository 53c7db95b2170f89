use Rattle.std.proofs.Common.{◌≡◌, ◌+◌, ◌/◌, drop}
use Rattle.intentions.specs.Runs.{FlipsFirst, runs, runs_after}
use Rattle.intentions.proofs.run.change_first.Given as goal

abbrev pub invariant-loop-count : goal.invariant-loop-count
invariant-loop-count l = record {
  flips : FlipsFirst l.rule l.first l.count l.freed l.blocks l.fn.map l.map;
  runs : 1 + runs_after (l.first / 64) (drop l.count l.blocks) ≡ runs l.blocks;
}
