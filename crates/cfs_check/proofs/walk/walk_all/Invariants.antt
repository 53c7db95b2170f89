use Rattle.std.proofs.Common.{◌≡◌, ◌-◌, ◌≤◌, Bool, List}
use Rattle.cfs_check.specs.Opened.{IsWalkTo}
use Rattle.cfs_check.proofs.walk.walk_all.Given as goal

abbrev pub invariant-loop-done : goal.invariant-loop-done
invariant-loop-done g l = record {
  room : l.survey.roots.room ≡ l.fn.survey.roots.room;
  within : l.done ≤ l.survey.roots.room;
  walk : (before : List Bool) → IsWalkTo l.image before 0 l.fn.survey → IsWalkTo l.image before l.done l.survey;
}

abbrev pub decreases-loop-done : goal.decreases-loop-done
decreases-loop-done g l = l.survey.roots.room - l.done
