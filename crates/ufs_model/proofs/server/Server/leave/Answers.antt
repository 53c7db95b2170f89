use Rattle.std.proofs.Common.{◌≡◌, ◌∙◌, ap, rules, Bool, not}
use Rattle.ufs_model.proofs.Words.{Grant, Server, after_leave, filter, filter_same, the_view, ◌==◌}
use Rattle.ufs_model.proofs.server.Server.leave.Goals as goal

-- the grants that stay are those of other sessions
pub returns : goal.returns
returns c =
    let stay : Grant → Bool = λ g. not (g.session == c.args.who) in
    let kept : c.retain.new.self.items ≡ filter stay c.self.inside.grants.items = filter_same _ stay _ (λ g b f h. search rules) _ _ c.retain.ensures.filtered in
    ap (λ grants. record (the_view c.self.inside) { state = record (the_view c.self.inside).state { grants = grants } }) kept
    ∙ ap (λ (s : Server). record s { state = after_leave s.state c.args.who }) c.self.view_is
