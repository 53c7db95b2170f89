use Rattle.ufs_model.proofs.WellGraphs.{fresh_whole}
use Rattle.ufs_model.proofs.KeepsStates.{opening_state, next_keeps, run_keeps}
use Rattle.ufs_model.proofs.laws.next_keeps_graphs.Goals as goal

pub returns-clause-fresh : goal.returns-clause-fresh
returns-clause-fresh c = fresh_whole

pub returns-clause-begin : goal.returns-clause-begin
returns-clause-begin c = opening_state

pub returns-clause-next : goal.returns-clause-next
returns-clause-next c = next_keeps

pub returns-clause-run : goal.returns-clause-run
returns-clause-run c = run_keeps
