use Rattle.std.proofs.Common.{arith}
use Rattle.block_tree.proofs.RootSteps.{none_held, some_root}
use Rattle.block_tree.proofs.step.holds_any.Goals as goal

pub returns-clause-some : goal.returns-clause-some
returns-clause-some c image alive some = some_root image 0 c.args.root.now (omega arith) c.has_set.ensures.fit alive (c.has_set.ensures.some some)

pub returns-clause-none : goal.returns-clause-none
returns-clause-none c image none = none_held image 0 c.args.root.now (omega arith) c.has_set.ensures.fit (c.has_set.ensures.none none)
