use Rattle.std.proofs.Common.{ℕ, ◌≤◌, subst}
use Rattle.marking.specs.Colours.{none_marked}
use Rattle.marking.specs.Pace.{unread}
use Rattle.cfs_core.proofs.collecting.begun.Goals as goal

pub returns-clause-begun : goal.returns-clause-begun
returns-clause-begun c = record {
  phase = c.in_ok-begin.ensures.phase;
  steps = c.in_ok-begin.ensures.counts.0;
  added = c.in_ok-begin.ensures.counts.1;
  left = c.in_ok-begin.ensures.left;
  keeps = λ seed s t image well named roots step few. c.in_ok-begin.ensures.keeps seed s t image well named roots step (subst (λ (n : ℕ). unread t none_marked ≤ n) c.begin.ensures.volume few);
}
