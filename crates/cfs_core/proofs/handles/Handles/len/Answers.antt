use Rattle.std.proofs.Common.{IsTrue, ap, sym, subst, ◌∙◌}
use Rattle.cfs_core.proofs.Words.{is_grant_table}
use Rattle.cfs_core.specs.Kernel.{grants_in}
use Rattle.cfs_core.proofs.Handled.{handled_grants}
use Rattle.cfs_core.proofs.handles.Handles.len.Goals as goal

pub returns-clause-held : goal.returns-clause-held
returns-clause-held c = subst (λ gs. IsTrue (is_grant_table gs)) (sym (handled_grants _ c.self.inside.grants.grants) ∙ ap (λ t. grants_in t.handles) c.self.view_is) c.len.ensures.held
