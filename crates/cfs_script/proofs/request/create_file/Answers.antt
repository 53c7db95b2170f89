use Rattle.std.proofs.lemmas.Result.{err_from_is_err_and}
use Rattle.ufs_model.specs.declared.asked.Request.TheVariants as asks
use Rattle.cfs_script.proofs.Readings.{AnswersReading-four}
use Rattle.cfs_script.proofs.request.create_file.Goals as goal

pub returns-in_err-kind : goal.returns-in_err-kind
returns-in_err-kind c =
    let told = AnswersReading-four (λ k f i s. asks.CreateFile k f i s) c.both.result _ _ _ _
    (c.both.ensures _ _ (c.both-and_index.ensures _ _ (c.both-kind_and_fill.ensures _ _ c.kind_in.ensures c.byte_in.ensures) c.ref_in.ensures) c.number_in.ensures) in
    let fault = err_from_is_err_and c.from_residual.result c.from_residual.ensures.1 in
    rw (fault.1, fault.2, c.in-Some.ensures) (rw c.in_err-kind.was at told)

pub returns : goal.returns
returns c =
    let told = AnswersReading-four (λ k f i s. asks.CreateFile k f i s) c.both.result _ _ _ _
    (c.both.ensures _ _ (c.both-and_index.ensures _ _ (c.both-kind_and_fill.ensures _ _ c.kind_in.ensures c.byte_in.ensures) c.ref_in.ensures) c.number_in.ensures) in
    rw c.in-Some.ensures (rw c.in_ok-kind.was at told)
