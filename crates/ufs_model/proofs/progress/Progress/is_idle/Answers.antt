use Rattle.std.proofs.Common.{sym, ap, ◌∙◌}
use Rattle.ufs_model.proofs.Remembered.{idle_is, idles}
use Rattle.ufs_model.proofs.progress.Progress.is_idle.Goals as goal

pub returns-in-Marking : goal.returns-in-Marking
returns-in-Marking c = sym (idle_is c.args.self.now ∙ ap idles c.in-Marking.is)
