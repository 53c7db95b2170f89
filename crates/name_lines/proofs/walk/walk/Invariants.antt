use Rattle.std.proofs.Common.{◌≡◌, [], drop}
use Rattle.ufs_model.specs.State.{State}
use Rattle.name_dirs.specs.Faults.{NoneFalls}
use Rattle.name_lines.proofs.Led.{IsOnPath}
use Rattle.name_lines.proofs.walk.walk.Given as goal

abbrev pub invariant-names : goal.invariant-names
invariant-names g l = record {
  items : l.name-items ≡ l.path;
  later : NoneFalls g.A.Asker 0 l.fn.asker l.asker;
  so_far : (s : State) → g.A.Asker.stands l.fn.asker s → s.grants ≡ [] → IsOnPath g.A.Asker l.who s l.fn.asker l.asker l.path (drop l.name-index l.path) l.at;
}
