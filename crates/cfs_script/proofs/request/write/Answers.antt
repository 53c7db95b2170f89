use Rattle.std.proofs.lemmas.Result.{err_from_is_err_and}
use Rattle.ufs_model.specs.declared.asked.Request.TheVariants as asks
use Rattle.cfs_script.proofs.Readings.{AnswersReading-three}
use Rattle.cfs_script.proofs.request.write.Goals as goal

pub returns-in_err-file : goal.returns-in_err-file
returns-in_err-file c =
    let told = AnswersReading-three (λ x y z. asks.Write x y z) c.both.result _ _ _ (c.both.ensures _ _ (c.both-file_and_offset.ensures _ _ c.ref_in.ensures c.number_in.ensures) c.bytes_in.ensures) in
    let fault = err_from_is_err_and c.from_residual.result c.from_residual.ensures.1 in
    rw (fault.1, fault.2, c.in-Some.ensures) (rw c.in_err-file.was at told)

pub returns : goal.returns
returns c =
    let told = AnswersReading-three (λ x y z. asks.Write x y z) c.both.result _ _ _ (c.both.ensures _ _ (c.both-file_and_offset.ensures _ _ c.ref_in.ensures c.number_in.ensures) c.bytes_in.ensures) in
    rw c.in-Some.ensures (rw c.in_ok-file.was at told)
