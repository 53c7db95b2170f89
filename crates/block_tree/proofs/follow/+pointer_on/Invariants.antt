use Rattle.std.proofs.Common.{length}
use Rattle.block_tree.proofs.follow.+pointer_on.Given as goal

abbrev pub decreases-pointer_on : goal.decreases-pointer_on
decreases-pointer_on g l = length l.path.now
