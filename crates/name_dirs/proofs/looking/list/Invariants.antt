use Rattle.std.proofs.Common.{◌≡◌, true}
use Rattle.ufs_model.specs.State.{State}
use Rattle.name_dirs.specs.Faults.{NoneFalls}
use Rattle.name_dirs.specs.Text.{names_rise}
use Rattle.name_dirs.proofs.Sought.{AreListedTo}
use Rattle.name_dirs.proofs.Told.{HasOpened}
use Rattle.name_dirs.proofs.looking.list.Given as goal

abbrev pub invariant-places : goal.invariant-places
invariant-places g l = record {
  later : NoneFalls g.A.Asker 0 l.fn.asker l.asker;
  rise : names_rise l.names ≡ true;
  so_far : (s : State) → g.A.Asker.stands l.fn.asker s → (o : HasOpened g.A.Asker l.who l.dir l.fn.asker l.asker s l.table) × AreListedTo o.of.index o.of.file l.names l.place;
}
