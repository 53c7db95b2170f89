use Rattle.std.proofs.Common.{◌≡◌, ◌+◌, ◌∙◌, Bool, sym, subst, true, ◌&&◌, not}
use Rattle.ufs_model.proofs.Words.{IfOk, Server, is_direct_delete, is_full, is_none, is_running, nat_lt, need_of, refusal_of, reserve, ◌==◌}
use Rattle.ufs_model.proofs.follower.Follower.is_full.Goals as goal

pub returns : goal.returns
returns c =
    let t = c.self.inside.server.state in
    let need = c.args.need in
    let run : is_none c.self.inside.stopped ≡ true = subst (λ (v : Server). is_running v.state ≡ true) (sym c.self.view_is) (sym c.runs.ensures ∙ c.if-not-runs.false) in
    subst (λ (v : Server). IfOk c.is_full.result (λ full. full ≡ is_full v.state c.args.who c.args.request.now need)) c.self.view_is
    (subst (λ (b : Bool). IfOk c.is_full.result (λ full. full ≡ (b && is_none (refusal_of t c.args.who c.args.request.now) && not (is_direct_delete c.args.request.now)
    && (need.need == need_of t c.args.who c.args.request.now) && nat_lt need.free (need.need + reserve)))) (sym run) c.is_full.ensures)
