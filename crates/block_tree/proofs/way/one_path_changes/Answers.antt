use Rattle.block_tree.proofs.Ways.{put_beside, put_here}
use Rattle.block_tree.proofs.way.one_path_changes.Goals as goal

pub returns-clause-beside : goal.returns-clause-beside
returns-clause-beside c = put_beside

pub returns-clause-here : goal.returns-clause-here
returns-clause-here c = put_here
