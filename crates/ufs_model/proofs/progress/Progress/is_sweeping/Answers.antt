use Rattle.std.proofs.Common.{sym, ap, ◌∙◌}
use Rattle.ufs_model.proofs.Remembered.{sweeping_is, sweeps}
use Rattle.ufs_model.proofs.progress.Progress.is_sweeping.Goals as goal

pub returns-in-Marking : goal.returns-in-Marking
returns-in-Marking c = sym (sweeping_is c.args.self.now ∙ ap sweeps c.in-Marking.is)
