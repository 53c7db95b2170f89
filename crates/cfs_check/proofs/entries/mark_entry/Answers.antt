use Rattle.cfs_check.proofs.Entered.{entry_told}
use Rattle.cfs_check.proofs.entries.mark_entry.Goals as goal

pub returns : goal.returns
returns c = entry_told c.args.block c.args.entry _ _ c.is_no_entry.ensures c.is_not_reserved.ensures _ _ _ c.note_if.ensures c.note_if-2.ensures
