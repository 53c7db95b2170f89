use Rattle.std.proofs.Common.{◌+◌, ◌-◌, length, cond}
use Rattle.cfs_ports.proofs.Gathering.{IsGathering}
use Rattle.cfs_ports.specs.declared.lines.TheConstants.{CHUNK, LONGEST}
use Rattle.cfs_ports.proofs.lines.Lines.advance.Given as goal

abbrev pub invariant-loop-self : goal.invariant-loop-self
invariant-loop-self g l = IsGathering l.fn.self l.self

abbrev pub decreases-loop-self : goal.decreases-loop-self
decreases-loop-self g l =
    cond l.self.ended 0 (LONGEST + CHUNK + 1 - (length l.self.line + length l.self.held))
