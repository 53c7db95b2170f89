use Rattle.std.proofs.Common.{sym, ap, ◌∙◌}
use Rattle.ufs_model.proofs.Remembered.{marking_is, marks}
use Rattle.ufs_model.proofs.progress.Progress.is_marking.Goals as goal

pub returns-in-Marking : goal.returns-in-Marking
returns-in-Marking c = sym (marking_is c.args.self.now ∙ ap marks c.in-Marking.is)
