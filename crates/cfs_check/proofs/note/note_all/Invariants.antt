use Rattle.std.proofs.Common.{◌≡◌, ◌++◌, Bool, List, map, take}
use Rattle.std.specs.List.{AllZip}
use Rattle.cfs_check.specs.Findings.{IsLookAt}
use Rattle.cfs_check.specs.Items.{AtTwig, Item, Knows}
use Rattle.cfs_check.specs.Roots.{Extends}
use Rattle.cfs_check.proofs.note.note_all.Given as goal

abbrev pub invariant-loop-at : goal.invariant-loop-at
invariant-loop-at l = record {
  room : l.survey.roots.room ≡ l.initial.survey.roots.room;
  known : (before : List Bool) (items : List Item) → Knows l.image before items l.initial.survey → AllZip (λ t f. IsLookAt l.image l.initial.survey.roots.blocks t f) l.twigs l.found
      → Knows l.image before (items ++ map AtTwig (take l.at l.twigs)) l.survey × Extends l.initial.survey.roots l.survey.roots;
}
