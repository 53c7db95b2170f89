use Rattle.std.proofs.lemmas.Result.{err_from_is_err_and}
use Rattle.ufs_model.specs.declared.asked.Request.TheVariants as asks
use Rattle.cfs_script.proofs.Readings.{AnswersReading-three}
use Rattle.cfs_script.proofs.request.create_index.Goals as goal

pub returns-in_err-slots : goal.returns-in_err-slots
returns-in_err-slots c =
    let told = AnswersReading-three (λ n i s. asks.CreateIndex n i s) c.both.result _ _ _ (c.both.ensures _ _ (c.both-slots_and_index.ensures _ _ c.number_in.ensures c.ref_in.ensures) c.number_in-2.ensures) in
    let fault = err_from_is_err_and c.from_residual.result c.from_residual.ensures.1 in
    rw (fault.1, fault.2, c.in-Some.ensures) (rw c.in_err-slots.was at told)

pub returns : goal.returns
returns c =
    let told = AnswersReading-three (λ n i s. asks.CreateIndex n i s) c.both.result _ _ _ (c.both.ensures _ _ (c.both-slots_and_index.ensures _ _ c.number_in.ensures c.ref_in.ensures) c.number_in-2.ensures) in
    rw c.in-Some.ensures (rw c.in_ok-slots.was at told)
