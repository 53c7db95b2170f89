use Rattle.std.proofs.lemmas.Result.{err_from_is_err_and}
use Rattle.ufs_model.specs.declared.asked.Request.TheVariants as asks
use Rattle.cfs_script.proofs.Readings.{AnswersReading-two}
use Rattle.cfs_script.proofs.request.delete.Goals as goal

pub returns-in_err-index : goal.returns-in_err-index
returns-in_err-index c =
    let told = AnswersReading-two (λ i s. asks.Delete i s) c.both.result _ _ (c.both.ensures _ _ c.ref_in.ensures c.number_in.ensures) in
    let fault = err_from_is_err_and c.from_residual.result c.from_residual.ensures.1 in
    rw (fault.1, fault.2, c.in-Some.ensures) (rw c.in_err-index.was at told)

pub returns : goal.returns
returns c =
    let told = AnswersReading-two (λ i s. asks.Delete i s) c.both.result _ _ (c.both.ensures _ _ c.ref_in.ensures c.number_in.ensures) in
    rw c.in-Some.ensures (rw c.in_ok-index.was at told)
