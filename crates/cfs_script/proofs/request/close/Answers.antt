use Rattle.std.proofs.lemmas.Result.{err_from_is_err_and}
use Rattle.ufs_model.specs.declared.asked.Request.TheVariants as asks
use Rattle.cfs_script.proofs.Readings.{AnswersReading-two}
use Rattle.cfs_script.proofs.request.close.Goals as goal

pub returns-in_err-grant : goal.returns-in_err-grant
returns-in_err-grant c =
    let told = AnswersReading-two (λ x y. asks.Close x y) c.both.result _ _ (c.both.ensures _ _ c.grant_in.ensures c.commit_in.ensures) in
    let fault = err_from_is_err_and c.from_residual.result c.from_residual.ensures.1 in
    rw (fault.1, fault.2, c.in-Some.ensures) (rw c.in_err-grant.was at told)

pub returns : goal.returns
returns c =
    let told = AnswersReading-two (λ x y. asks.Close x y) c.both.result _ _ (c.both.ensures _ _ c.grant_in.ensures c.commit_in.ensures) in
    rw c.in-Some.ensures (rw c.in_ok-grant.was at told)
