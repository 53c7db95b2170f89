use Rattle.name_dirs.proofs.Scanned.{IsScanned}
use Rattle.name_dirs.proofs.opening.are_rows.Given as goal

abbrev pub invariant-rows : goal.invariant-rows
invariant-rows l = IsScanned l.bytes l.names l.place
