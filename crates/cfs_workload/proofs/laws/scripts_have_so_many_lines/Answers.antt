use Rattle.cfs_workload.proofs.Lines.{script_lines, script_short}
use Rattle.cfs_workload.proofs.laws.scripts_have_so_many_lines.Goals as goal

pub returns-clause-lines : goal.returns-clause-lines
returns-clause-lines c = script_lines

pub returns-clause-short : goal.returns-clause-short
returns-clause-short c = script_short
