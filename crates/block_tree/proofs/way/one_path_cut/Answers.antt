use Rattle.block_tree.proofs.Ways.{path_cut_before, path_cut_from}
use Rattle.block_tree.proofs.way.one_path_cut.Goals as goal

pub returns-clause-before : goal.returns-clause-before
returns-clause-before c = path_cut_before

pub returns-clause-from : goal.returns-clause-from
returns-clause-from c = path_cut_from
