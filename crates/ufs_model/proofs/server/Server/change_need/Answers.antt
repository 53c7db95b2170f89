use Rattle.std.proofs.Common.{arith}
use Rattle.ufs_model.proofs.server.Server.change_need.Goals as goal

pub overflow_add-result : goal.overflow_add-result
overflow_add-result c = let small = c.missing-in-None.ensures.small in omega (arith, small)
