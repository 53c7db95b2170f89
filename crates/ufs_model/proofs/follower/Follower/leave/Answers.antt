use Rattle.std.proofs.Common.{sym, subst}
use Rattle.ufs_model.proofs.Words.{IsState, Server}
use Rattle.ufs_model.proofs.WellGrants.{leave_keeps}
use Rattle.ufs_model.proofs.follower.Follower.leave.Goals as goal

pub invariant_of-self : goal.invariant_of-self
invariant_of-self c = subst (λ (s : Server). IsState s.state) (sym c.leave.ensures) (leave_keeps c.self.inside.server.state c.args.who c.self.invariant)
