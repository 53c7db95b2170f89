use Rattle.std.proofs.Common.{rules}
use Rattle.cfs_recover.proofs.Words.{EntryFault}
use Rattle.cfs_recover.proofs.entry.check_entry.Goals as goal

pub returns-then-entry-block : goal.returns-then-entry-block
returns-then-entry-block c = EntryFault.RootOfAnother (search rules) (search rules)

pub returns-then-ne : goal.returns-then-ne
returns-then-ne c = EntryFault.NotReserved (search rules) (search rules)
