use Rattle.std.proofs.Common.{◌∙◌}
use Rattle.ufs_model.proofs.Rises.{rises_is}
use Rattle.ufs_model.proofs.vanish.rise.Goals as goal

pub returns : goal.returns
returns c = c.rise_by_next.ensures ∙ rises_is c.args.ids.now
