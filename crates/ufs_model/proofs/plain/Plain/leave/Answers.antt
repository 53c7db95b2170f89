use Rattle.std.proofs.Common.{◌≡◌, ◌<◌, ◌≤◌, ℕ, true, sym, subst}
use Rattle.ufs_model.proofs.Words.{IsState, Server, has_block}
use Rattle.ufs_model.proofs.WellGrants.{leave_keeps}
use Rattle.ufs_model.proofs.plain.Plain.leave.Goals as goal

pub invariant_of-self : goal.invariant_of-self
invariant_of-self c =
    let was = c.self.inside.server.state in
    subst (λ (s : Server). IsState s.state × 3 ≤ c.self.inside.free_from × ((b : ℕ) → 3 ≤ b → b < c.self.inside.free_from → has_block s.state.graph.objects b ≡ true))
    (sym c.leave.ensures) (leave_keeps was c.args.who c.self.invariant.0, c.self.invariant.1, c.self.invariant.2)
