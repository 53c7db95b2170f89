use Rattle.std.proofs.Common.{◌≡◌, Bool, true, false, not, is_some, sym, ◌∙◌, ap}
use Rattle.cfs_core.specs.Ways.{is_gone}
use Rattle.cfs_core.proofs.Serving.{there_is}
use Rattle.cfs_core.proofs.kernel.Core.lacks.Goals as goal

flip : (a b : Bool) → a ≡ not b → b ≡ not a
flip a true is = ap not (sym is)
flip a false is = ap not (sym is)

pub returns-in-Some-clause-gone : goal.returns-in-Some-clause-gone
returns-in-Some-clause-gone g c = λ s serves.
    let there = there_is g.D.Disk c.args.self.now s serves c.in-Some.id ∙ sym (ap is_some c.kind.ensures.kind) in
    flip _ c.is_none.result c.is_none.ensures ∙ ap not (sym there) ∙ ap (is_gone s) (sym c.in-Some.is)
