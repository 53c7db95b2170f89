use Rattle.block_tree.proofs.Descents.{turned}
use Rattle.block_tree.proofs.along.Way.turn.Goals as goal

pub returns-clause-way : goal.returns-clause-way
returns-clause-way c image root is = turned image root c.args.self.now c.args.path c.shared.result c.shared.ensures.less c.shared.ensures.same is
