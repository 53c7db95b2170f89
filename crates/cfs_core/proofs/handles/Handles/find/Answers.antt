use Rattle.std.proofs.Common.{ap, sym, ◌∙◌}
use Rattle.cfs_core.proofs.Words.{session_grant}
use Rattle.cfs_core.specs.Kernel.{grants_in}
use Rattle.cfs_core.proofs.Handled.{handled_grants}
use Rattle.cfs_core.proofs.handles.Handles.find.Goals as goal

pub returns : goal.returns
returns c = c.find.ensures ∙ ap (λ gs. session_grant gs c.args.who c.args.tuid) (sym (handled_grants _ c.self.inside.grants.grants) ∙ ap (λ t. grants_in t.handles) c.self.view_is)
