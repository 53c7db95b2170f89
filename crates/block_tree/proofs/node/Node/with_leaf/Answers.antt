use Rattle.block_tree.proofs.Ways.{node_with, sets_leaf}
use Rattle.block_tree.proofs.node.Node.with_leaf.Goals as goal

pub returns-clause-one : goal.returns-clause-one
returns-clause-one c = λ is. sets_leaf c.args.self.now c.args.place c.args.block is c.ranges.block.fits c.requires

pub returns-clause-good : goal.returns-clause-good
returns-clause-good c = λ is. node_with c.args.self.now c.args.place c.args.block is c.ranges.block.fits
