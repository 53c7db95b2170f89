use Rattle.std.proofs.Common.{◌≡◌, ◌∙◌, sym, subst, true, ◌&&◌}
use Rattle.ufs_model.proofs.Words.{IsState, Server, collection_of, is_running, may_vanish}
use Rattle.ufs_model.proofs.Unkept.{vanish_keeps}
use Rattle.ufs_model.proofs.follower.Follower.vanish.Goals as goal

pub invariant_of-self : goal.invariant_of-self
invariant_of-self c =
    let may = subst (λ (v : Server). (is_running v.state && may_vanish v.state c.args.ids.now) ≡ true) (sym c.self.view_is) (sym c.in_ok-may_go.ensures ∙ c.if-not-branch.false) in
    subst (λ (s : Server). IsState s.state) (sym c.take_out.ensures)
    (vanish_keeps c.self.inside.server.seed c.self.inside.server.state c.self.inside.stopped (collection_of c.self.inside.progress) c.in_ok-gone.gone.keys c.args.ids.now c.in_ok-gone.ensures c.self.invariant may)
