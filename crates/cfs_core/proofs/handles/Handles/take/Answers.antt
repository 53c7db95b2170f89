use Rattle.std.proofs.Common.{nat_eq, ◌∙◌, ap, None, sym}
use Rattle.cfs_core.proofs.Words.{get}
use Rattle.cfs_core.specs.Handles.{with_drafting}
use Rattle.cfs_core.proofs.Handled.{held_here, handled_put, handled_same, unheld}
use Rattle.cfs_core.proofs.handles.Handles.take.Goals as goal

pub returns-clause-draft : goal.returns-clause-draft
returns-clause-draft c = c.remove.ensures.value ∙ held_here _ c.self.inside.grants.grants _ (ap (λ t. t.handles) c.self.view_is) c.self.invariant c.args.draw

pub returns-clause-handles : goal.returns-clause-handles
returns-clause-handles c = handled_put c.args.draw None _ _ c.remove.ensures.updates.0 c.self.inside.grants.grants ∙ ap (λ t. with_drafting c.args.draw None t.handles) c.self.view_is

pub returns-clause-kept : goal.returns-clause-kept
returns-clause-kept c = λ none.
    handled_same (get nat_eq c.self.inside.drafts) _ (λ q. c.remove.ensures.updates.0 q ∙ unheld (get nat_eq c.self.inside.drafts) c.args.draw (sym c.remove.ensures.value ∙ none) q) c.self.inside.grants.grants ∙ ap (λ t. t.handles) c.self.view_is
