use Rattle.std.proofs.Common.{nat_eq, ◌≡◌, None, Some, ap, sym, subst, ◌∙◌, IfOk, OnErr}
use Rattle.cfs_core.proofs.Words.{get, session_grant}
use Rattle.open_table.specs.Grants.{is_session_grant}
use Rattle.cfs_core.specs.Kernel.{grants_in}
use Rattle.cfs_core.specs.Handles.{AreOfGrants, have_draft, is_at, handled, handles_but}
use Rattle.cfs_core.proofs.Handled.{none_held, none_of_grant, on_err, on_ok, handled_but, handled_grants, stays_or}
use Rattle.cfs_core.proofs.handles.Handles.close.Goals as goal

pub invariant_of-self : goal.invariant_of-self
invariant_of-self c = stays_or c.close.result (λ gs. AreOfGrants (get nat_eq c.self.inside.drafts) gs) c.close.ensures.grants (on_err c.close.result (ap (λ t. t.grants)) c.close.ensures.err)
    (none_held (get nat_eq c.self.inside.drafts) (is_session_grant c.args.who c.args.tuid) c.self.inside.grants.grants
    (none_of_grant c.args.who c.args.tuid _ (ap (λ t. have_draft (is_at c.args.tuid.draw) t.handles) c.self.view_is ∙ c.requires.undrafted)) c.self.invariant)
    c.self.invariant

pub returns-clause-found : goal.returns-clause-found
returns-clause-found c = subst (λ gs. IfOk c.close.result (λ grant. session_grant gs c.args.who c.args.tuid ≡ Some grant)) (sym (handled_grants _ c.self.inside.grants.grants) ∙ ap (λ t. grants_in t.handles) c.self.view_is) c.close.ensures.found

pub returns-clause-handles : goal.returns-clause-handles
returns-clause-handles c = on_ok c.close.result (λ is. ap (handled _) is ∙ handled_but _ (is_session_grant c.args.who c.args.tuid) c.self.inside.grants.grants ∙ ap (λ t. handles_but (is_session_grant c.args.who c.args.tuid) t.handles) c.self.view_is) c.close.ensures.grants

pub returns-clause-none : goal.returns-clause-none
returns-clause-none c = subst (λ gs. OnErr c.close.result (session_grant gs c.args.who c.args.tuid ≡ None)) (sym (handled_grants _ c.self.inside.grants.grants) ∙ ap (λ t. grants_in t.handles) c.self.view_is) c.close.ensures.none
