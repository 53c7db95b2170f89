use Rattle.cfs_check.proofs.Noted.{five_told}
use Rattle.cfs_check.proofs.note.note_findings.Goals as goal

pub returns : goal.returns
returns c = five_told c.args.found c.args.block _ _ _ _ _ _ c.note_if.ensures c.note_if-2.ensures c.note_if-3.ensures c.note_if-4.ensures c.note_if-5.ensures
