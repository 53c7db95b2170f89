use Rattle.std.proofs.Common.{◌≡◌, ◌-◌, ◌≤◌, true, Some, length, take}
use Rattle.ufs_model.specs.declared.object.File.{File}
use Rattle.ufs_model.specs.State.{State, is_running}
use Rattle.name_dirs.specs.Calls.{ReadsOn}
use Rattle.name_dirs.specs.Directory.{file_at}
use Rattle.name_dirs.specs.Faults.{NoneFalls}
use Rattle.name_dirs.proofs.opening.read_bytes.Given as goal

abbrev pub invariant-pieces : goal.invariant-pieces
invariant-pieces g l = record {
  within : l.at ≤ l.size;
  later : NoneFalls g.A.Asker 0 l.fn.asker l.asker;
  so_far : (s : State) (f : File) → g.A.Asker.stands l.fn.asker s → is_running s ≡ true → file_at s.graph l.file ≡ Some f → l.size ≡ length f.bytes
      → ReadsOn g.A.Asker l.who l.fn.asker l.asker s s × (l.bytes.items ≡ take l.at f.bytes);
}

abbrev pub decreases-pieces : goal.decreases-pieces
decreases-pieces g l = l.size - l.at
