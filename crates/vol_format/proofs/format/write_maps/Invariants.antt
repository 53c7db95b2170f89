use Rattle.std.proofs.Common.{◌≡◌, ◌*◌, ◌<◌, ℕ, IsTrue, Some}
use Rattle.cfs_base.specs.Calls.{MakesAtMost}
use Rattle.cyl_map.specs.Volume.{entry_in}
use Rattle.vol_format.specs.Fresh.{IsUnlabelled, fresh_entry}
use Rattle.vol_format.proofs.format.write_maps.Given as goal

abbrev pub invariant-loop-cylinder : goal.invariant-loop-cylinder
invariant-loop-cylinder g l = record {
  calls : MakesAtMost g.D.Disk l.cylinder l.cylinder l.initial.disk l.disk;
  stays : (start : _) → IsUnlabelled g.D.Disk start l.initial.disk → IsUnlabelled g.D.Disk start l.disk;
  entries : IsTrue (g.D.Disk.honest l.initial.disk) → (n : ℕ) → n < 64 * l.cylinder → entry_in (g.D.Disk.content l.disk) n ≡ Some (fresh_entry n);
}
