use Rattle.std.proofs.Common.{◌≡◌, Option, Some, None, Result, Ok, Err, is_none, is_ok, sym, ◌∙◌, ap, IfErr, IfOk}
use Rattle.cfs_core.proofs.Words.{Kind, Reply}
use Rattle.cfs_core.proofs.way.is_fit.Goals as goal

fit_is : (r : Result Kind Reply) (kind : Option Kind) (o : Option Reply) → IfOk r (λ there. (kind ≡ Some there) × (o ≡ None)) → IfErr r (λ reply. o ≡ Some reply) → is_ok r ≡ is_none o
fit_is (Ok k) kind o fit unfit = sym (ap is_none fit.1)
fit_is (Err e) kind o fit unfit = sym (ap is_none unfit)

pub returns : goal.returns
returns c = c.is_ok.ensures.value ∙ fit_is c.wanted_kind.result c.args.kind _ c.wanted_kind.ensures.fit c.wanted_kind.ensures.unfit
