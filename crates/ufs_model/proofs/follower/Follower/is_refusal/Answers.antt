use Rattle.std.proofs.Common.{◌≡◌, ◌∙◌, Bool, refl, sym, subst, true, false, ◌&&◌}
use Rattle.ufs_model.proofs.Words.{Server, is_none, is_refusal, is_running, option_map_or, refusal_of, same_reply}
use Rattle.ufs_model.proofs.follower.Follower.is_refusal.Goals as goal

pub returns-then-runs : goal.returns-then-runs
returns-then-runs c =
    let told = option_map_or (same_reply c.args.reply.now) (refusal_of c.self.inside.server.state c.args.who c.args.request.now) false in
    let run : is_none c.self.inside.stopped ≡ true = subst (λ (v : Server). is_running v.state ≡ true) (sym c.self.view_is) (sym c.runs.ensures ∙ c.if-runs.true) in
    subst (λ (v : Server). c.is_refusal.result ≡ is_refusal v.state c.args.who c.args.request.now c.args.reply.now) c.self.view_is
    (c.is_refusal.ensures ∙ subst (λ (b : Bool). told ≡ (b && told)) (sym run) refl)
