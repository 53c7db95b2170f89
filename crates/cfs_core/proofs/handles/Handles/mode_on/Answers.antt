use Rattle.std.proofs.Common.{ap, sym, ◌∙◌}
use Rattle.cfs_core.proofs.Words.{open_mode}
use Rattle.cfs_core.specs.Kernel.{grants_in}
use Rattle.cfs_core.proofs.Handled.{handled_grants}
use Rattle.cfs_core.proofs.handles.Handles.mode_on.Goals as goal

pub returns : goal.returns
returns c = c.mode_on.ensures ∙ ap (λ gs. open_mode gs c.args.id) (sym (handled_grants _ c.self.inside.grants.grants) ∙ ap (λ t. grants_in t.handles) c.self.view_is)
