use Rattle.block_tree.proofs.Ways.{sets_node}
use Rattle.block_tree.proofs.root.Root.with_node.Goals as goal

pub returns-clause-one : goal.returns-clause-one
returns-clause-one c = λ fits. sets_node c.args.self.now c.args.number c.args.block fits c.ranges.block.fits c.requires
