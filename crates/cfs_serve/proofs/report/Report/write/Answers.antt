use Rattle.std.proofs.Common.{◌++◌}
use Rattle.cfs_serve.proofs.Cited.{counts_text, ending_text, err_from_is_err_and, fault_lines, then, then_whole}
use Rattle.cfs_serve.proofs.Texts.{first_of_three, second_of_three}
use Rattle.cfs_serve.proofs.report.Report.write.Goals as goal

pub returns-in_err-write_faults : goal.returns-in_err-write_faults
returns-in_err-write_faults g c =
    let told = c.args.self.now in
    let p = err_from_is_err_and c.from_residual.result c.from_residual.ensures.1 in
    rw p.1 (first_of_three _ _ (fault_lines told.faults) (counts_text told.counts) (ending_text told.cause) c.in_err-write_faults.ensures)

pub returns-in_err-write_counts : goal.returns-in_err-write_counts
returns-in_err-write_counts g c =
    let told = c.args.self.now in
    let r = c.from_residual-in_err-write_counts in
    let p = err_from_is_err_and r.result r.ensures.1 in
    rw p.1 (second_of_three _ _ _ (fault_lines told.faults) (counts_text told.counts) (ending_text told.cause) c.in_ok-write_faults.ensures c.in_err-write_counts.ensures)

pub returns : goal.returns
returns g c =
    let told = c.args.self.now in
    then_whole c.write_ending.result _ _ _ (fault_lines told.faults ++ counts_text told.counts) (ending_text told.cause)
    (then _ _ _ (fault_lines told.faults) (counts_text told.counts) c.in_ok-write_faults.ensures c.in_ok-write_counts.ensures) c.write_ending.ensures
