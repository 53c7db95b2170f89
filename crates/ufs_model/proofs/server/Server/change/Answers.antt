use Rattle.std.proofs.Common.{◌≡◌, ◌∙◌, ap, sym, subst, Some, None, false}
use Rattle.ufs_model.proofs.Words.{IsDraftPlace, IsState, Server, State, changed, draft_of, goes_nowhere, has_no_such_grant, named, the_view}
use Rattle.ufs_model.proofs.WellStates.{goes}
use Rattle.ufs_model.proofs.ServerChanges.{draft_changed, object_changed}
use Rattle.ufs_model.proofs.server.Server.change.Goals as goal

pub returns-in-Some-clause-ok : goal.returns-in-Some-clause-ok
returns-in-Some-clause-ok c =
    let was = the_view c.self.inside in
    let who = c.args.who in
    let ref = c.args.reference in
    let whole = subst (λ (s : Server). IsState s.state) (sym c.self.view_is) c.requires.state in
    let place = subst (λ (s : Server). IsDraftPlace s.state who ref c.in-Some.at) (sym c.self.view_is) c.in-Some.ensures.some in
    ap (λ (s : State). record was { state = s }) (draft_changed was.state who c.args.change.now ref whole c.in-Some.at c.change_draft.new.grants.items place c.in_ok-change_draft.ensures.ok)
    ∙ ap (λ (s : Server). record s { state = changed s.state who ref c.args.change.now }) c.self.view_is

pub returns-in_ok-change_object-in-Some-named-clause-ok : goal.returns-in_ok-change_object-in-Some-named-clause-ok
returns-in_ok-change_object-in-Some-named-clause-ok c =
    let was = the_view c.self.inside in
    let who = c.args.who in
    let ref = c.args.reference in
    let whole = subst (λ (s : Server). IsState s.state) (sym c.self.view_is) c.requires.state in
    let granted = subst (λ (s : Server). has_no_such_grant s.state who ref ≡ false) (sym c.self.view_is) c.requires.granted in
    let there = subst (λ (s : Server). goes_nowhere s.state ref ≡ false) (sym c.self.view_is) c.requires.there in
    let no_draft = subst (λ (s : Server). draft_of s.state who ref ≡ None) (sym c.self.view_is) c.in_default.ensures.none in
    let names = subst (λ (s : Server). named s.state who ref ≡ Some c.in-Some-named.id) (sym c.self.view_is) (sym c.in-Some-named.ensures) in
    ap (λ (s : State). record was { state = s })
    (object_changed was.state who c.args.change.now ref c.in-Some-named.id c.change_object.new.objects.entries (goes was.state who ref whole granted there) no_draft names c.in_ok-change_object-in-Some-named.ensures.ok)
    ∙ ap (λ (s : Server). record s { state = changed s.state who ref c.args.change.now }) c.self.view_is
