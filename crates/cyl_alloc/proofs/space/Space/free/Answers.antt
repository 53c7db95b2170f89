use Rattle.std.proofs.Common.{◌∙◌, ap}
use Rattle.cyl_alloc.proofs.Words.{Kept, sum}
use Rattle.cyl_alloc.proofs.Counted.{sum_is}
use Rattle.cyl_alloc.proofs.space.Space.free.Goals as goal

pub returns-clause-counted : goal.returns-clause-counted
returns-clause-counted c image counts = c.total.ensures.sum ∙ ap (λ (kept : Kept). sum kept.free) c.self.view_is ∙ sum_is image c.args.self.now counts
