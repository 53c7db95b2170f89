use Rattle.std.proofs.Common.{ap, sym, ◌∙◌}
use Rattle.cfs_core.proofs.Words.{first_grant}
use Rattle.cfs_core.specs.Kernel.{grants_in}
use Rattle.cfs_core.proofs.Handled.{handled_grants}
use Rattle.cfs_core.proofs.handles.Handles.next_of.Goals as goal

pub returns : goal.returns
returns c = c.next_of.ensures ∙ ap (λ gs. first_grant gs c.args.who) (sym (handled_grants _ c.self.inside.grants.grants) ∙ ap (λ t. grants_in t.handles) c.self.view_is)
