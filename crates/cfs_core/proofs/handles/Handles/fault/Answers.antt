use Rattle.std.proofs.Common.{ap, sym, ◌∙◌}
use Rattle.cfs_core.proofs.Words.{fault_of}
use Rattle.cfs_core.specs.Kernel.{grants_in}
use Rattle.cfs_core.proofs.Handled.{handled_grants}
use Rattle.cfs_core.proofs.handles.Handles.fault.Goals as goal

pub returns : goal.returns
returns c = c.fault.ensures ∙ ap (λ gs. fault_of gs c.args.grant) (sym (handled_grants _ c.self.inside.grants.grants) ∙ ap (λ t. grants_in t.handles) c.self.view_is)
