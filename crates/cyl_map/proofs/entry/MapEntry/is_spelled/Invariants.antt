use Rattle.std.proofs.Common.{◌≡◌, ◌↔◌, true, take}
use Rattle.cyl_map.proofs.Words.{table}
use Rattle.cyl_map.proofs.Entries.{SpelledAmong}
use Rattle.cyl_map.proofs.entry.MapEntry.is_spelled.Given as goal

abbrev pub invariant-loop-row : goal.invariant-loop-row
invariant-loop-row l = (l.any ≡ true) ↔ SpelledAmong (take l.row-index table) l.bytes
