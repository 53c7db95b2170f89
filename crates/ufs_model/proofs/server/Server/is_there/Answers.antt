use Rattle.std.proofs.Common.{◌∙◌, ap}
use Rattle.ufs_model.proofs.Words.{Server, is_there}
use Rattle.ufs_model.proofs.server.Server.is_there.Goals as goal

pub returns : goal.returns
returns c = c.contains_key.ensures ∙ ap (λ (s : Server). is_there s.state.graph c.args.id) c.self.view_is
