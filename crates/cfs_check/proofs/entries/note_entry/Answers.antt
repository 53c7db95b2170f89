use Rattle.std.proofs.Common.{◌∙◌, sym}
use Rattle.cfs_check.proofs.Entered.{stands_on}
use Rattle.cfs_check.proofs.entries.note_entry.Goals as goal

pub returns-in_default-clause-stand : goal.returns-in_default-clause-stand
returns-in_default-clause-stand c are = stands_on c.args.image.now c.args.block c.args.standing.now (sym c.entry_of-entry.ensures ∙ c.in_default.is) are
