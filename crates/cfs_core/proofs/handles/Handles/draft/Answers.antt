use Rattle.std.proofs.Common.{◌∙◌, ap}
use Rattle.cfs_core.proofs.Handled.{held_here}
use Rattle.cfs_core.proofs.handles.Handles.draft.Goals as goal

pub returns : goal.returns
returns c = c.get.ensures.value ∙ held_here _ c.self.inside.grants.grants _ (ap (λ t. t.handles) c.self.view_is) c.self.invariant c.args.draw
