use Rattle.std.proofs.Common.{◌≡◌, ◌*◌, length, take}
use Rattle.cyl_map.specs.Map.{map_spelling}
use Rattle.cfs_check.specs.Repair.{entries_below}
use Rattle.cfs_check.proofs.repair.mended_map.Given as goal

abbrev pub invariant-loop-entry : goal.invariant-loop-entry
invariant-loop-entry l = record {
  long : length l.map ≡ 512;
  done : take (8 * l.entry) l.map ≡ map_spelling (entries_below l.uses l.cylinder l.entry);
}
