use Rattle.std.proofs.Common.{sym, ◌∙◌, ap, option_map}
use Rattle.cfs_core.proofs.Words.{session_grant, grant_of, named}
use Rattle.cfs_core.specs.Kernel.{grants_in}
use Rattle.cfs_core.proofs.Ways.{named_of}
use Rattle.cfs_core.proofs.kernel.Core.goes_to.Goals as goal

pub returns-in_ok-find-in-Through : goal.returns-in_ok-find-in-Through
returns-in_ok-find-in-Through g c = λ s serves.
    let found = c.find.ensures ∙ ap (λ gs. session_grant gs c.args.who c.in-Through.grant) (ap (λ k. grants_in k.handles) c.self.view_is ∙ serves.front.grants) ∙ c.table_follows_the_model.ensures.found s c.args.who c.in-Through.grant in
    ap (option_map (λ x. x.id)) (sym c.in_ok-find-in-Through.was) ∙ named_of c.find.result (grant_of s c.args.who c.in-Through.grant) found ∙ ap (named s c.args.who) (sym c.in-Through.is)

pub returns-in_err-find-in-Through : goal.returns-in_err-find-in-Through
returns-in_err-find-in-Through g c = rw c.from_residual.ensures (λ s serves.
    let found = c.find.ensures ∙ ap (λ gs. session_grant gs c.args.who c.in-Through.grant) (ap (λ k. grants_in k.handles) c.self.view_is ∙ serves.front.grants) ∙ c.table_follows_the_model.ensures.found s c.args.who c.in-Through.grant in
    ap (option_map (λ x. x.id)) (sym c.in_err-find-in-Through.was) ∙ named_of c.find.result (grant_of s c.args.who c.in-Through.grant) found ∙ ap (named s c.args.who) (sym c.in-Through.is))
