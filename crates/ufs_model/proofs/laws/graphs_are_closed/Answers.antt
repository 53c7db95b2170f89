use Rattle.ufs_model.proofs.WellGraphs.{closed_graph, one_block, block_not_zero, object_whole}
use Rattle.ufs_model.proofs.laws.graphs_are_closed.Goals as goal

pub returns-clause-closed : goal.returns-clause-closed
returns-clause-closed c = closed_graph

pub returns-clause-blocks : goal.returns-clause-blocks
returns-clause-blocks c = one_block

pub returns-clause-not_zero : goal.returns-clause-not_zero
returns-clause-not_zero c = block_not_zero

pub returns-clause-objects : goal.returns-clause-objects
returns-clause-objects c = λ g a o h at. object_whole g h a o at
