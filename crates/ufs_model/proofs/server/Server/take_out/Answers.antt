use Rattle.std.proofs.Common.{◌≡◌, ◌∙◌, ap, rules, Bool, not}
use Rattle.ufs_model.proofs.Words.{Object, Puid, Server, filter, filter_same_pairs, is_among, the_view, without}
use Rattle.ufs_model.proofs.server.Server.take_out.Goals as goal

-- the objects that stay are those that are not among them
pub returns : goal.returns
returns c =
    let stay : Puid × Object → Bool = λ e. not (is_among e.0 c.args.ids.now.keys) in
    let kept : c.retain.new.self.entries ≡ filter stay c.self.inside.objects.entries = filter_same_pairs _ stay _ (λ k v b w f t. search rules) _ _ c.retain.ensures.filtered in
    ap (λ entries. record (the_view c.self.inside) { state = record (the_view c.self.inside).state { graph = record (the_view c.self.inside).state.graph { objects = entries } } }) kept
    ∙ ap (λ (s : Server). record s { state = record s.state { graph = without s.state.graph c.args.ids.now.keys } }) c.self.view_is
