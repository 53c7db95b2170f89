use Rattle.std.proofs.Common.{take}
use Rattle.cfs_serve.proofs.Cited.{Wrote, fault_lines}
use Rattle.cfs_serve.proofs.report.Report.write_faults.Given as goal

-- the lines of the faults before this one were written
abbrev pub invariant-faults : goal.invariant-faults
invariant-faults g l = Wrote (g.K.Sink.intake l.fn.sink) (g.K.Sink.intake l.sink) (fault_lines (take l.fault-index l.faults))
