use Rattle.std.proofs.Common.{◌≡◌, ◌++◌, ◌<◌, ◌≤◌, count_by, drop, length, map, take}
use Rattle.collector_steps.proofs.Words.{goes, swept}
use Rattle.collector_steps.proofs.sweep.sweep_map.Given as goal

abbrev pub invariant-loop-place : goal.invariant-loop-place
invariant-loop-place l = record {
  so_far : l.map ≡ map (swept l.directory.named l.pass) (take l.place l.initial.map) ++ drop l.place l.initial.map;
  count : l.freed ≡ count_by (goes l.directory.named l.pass) (take l.place l.initial.map);
  few : l.freed ≤ l.place;
  long : 0 < l.place → length l.initial.map ≡ 64;
}
