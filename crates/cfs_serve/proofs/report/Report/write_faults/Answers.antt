use Rattle.std.proofs.Common.{subst}
use Rattle.cfs_serve.proofs.Cited.{WroteSome, err_from_is_err_and, fault_line, fault_lines, slice_get-get_or}
use Rattle.cfs_serve.proofs.Texts.{line_broke}
use Rattle.cfs_serve.proofs.report.Report.write_faults.Goals as goal

pub returns-in_err-write_damage : goal.returns-in_err-write_damage
returns-in_err-write_damage g c =
    let p = err_from_is_err_and c.from_residual.result c.from_residual.ensures.1 in
    let faults = c.as_slice-faults.result.now in
    rw p.1 (subst (λ l. WroteSome (g.K.Sink.intake c.args.sink.now) (g.K.Sink.intake c.write_damage.new.sink) (fault_lines l)) c.as_slice-faults.ensures
    (line_broke fault_line (g.K.Sink.intake c.args.sink.now) (g.K.Sink.intake c.faults.sink) (g.K.Sink.intake c.write_damage.new.sink) faults c.faults.fault-index _
    (slice_get-get_or faults c.faults.fault-index (record { block = 0; code = 0 }) c.faults-test.true) c.faults.invariant c.in_err-write_damage.ensures))
