use Rattle.std.proofs.Common.{◌≡◌, Bool, List, []}
use Rattle.cfs_check.specs.Findings.{HoldersAreOn}
use Rattle.cfs_check.specs.Items.{Item, Knows}
use Rattle.cfs_check.specs.Opened.{OpensBatch}
use Rattle.cfs_check.proofs.walk.open_batch.Given as goal

abbrev pub invariant-loop-next : goal.invariant-loop-next
invariant-loop-next l = record {
  roots : l.survey.roots ≡ l.initial.survey.roots;
  opens : (before : List Bool) (items : List Item) → Knows l.image before items l.initial.survey → OpensBatch l.image before items l.initial.survey.roots.blocks l.done l.next l.survey l.twigs.items;
  holders : HoldersAreOn l.image l.twigs.items;
  first : l.next ≡ l.done → l.twigs.items ≡ [];
}
