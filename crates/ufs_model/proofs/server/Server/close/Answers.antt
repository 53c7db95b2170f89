use Rattle.std.proofs.Common.{◌≡◌, List, ◌∙◌, ap, sym, subst, Some, true, false}
use Rattle.ufs_model.proofs.Words.{Draft, Grant, IsState, Object, Server, State, Through, closed, get_or_from_slice_get, has_no_such_grant, insert_entry, is_grant, is_none, object_at, position, puid_cmp, the_view}
use Rattle.ufs_model.proofs.Grants.{found_nowhere}
use Rattle.ufs_model.proofs.ServerChanges.{standing, closed_state}
use Rattle.ufs_model.proofs.server.Server.close.Goals as goal

-- the session has the grant
pub returns-in_default : goal.returns-in_default
returns-in_default c =
    let none = ap is_none (found_nowhere (is_grant c.args.who c.args.t) c.args.self.now.state.grants (sym c.place_of.ensures ∙ c.in_default.is)) in
    let no_grant : true ≡ false = sym none ∙ c.requires.granted in cc

pub returns : goal.returns
returns c =
    let was = the_view c.self.inside in
    let who = c.args.who in
    let t = c.args.t in
    let at = c.in-Some.at in
    let g : Grant = c.remove-draft.result in
    let whole = subst (λ (s : Server). IsState s.state) (sym c.self.view_is) c.requires.state in
    let granted = subst (λ (s : Server). has_no_such_grant s.state who (Through t) ≡ false) (sym c.self.view_is) c.requires.granted in
    let here = subst (λ (s : Server). position (is_grant who t) s.state.grants ≡ Some at) (sym c.self.view_is) (sym c.in-Some.ensures) in
    let it = standing was.state who t at whole granted here in
    let same : it.0 ≡ g = sym (get_or_from_slice_get was.state.grants at it.0 g it.1) ∙ sym c.remove-draft.ensures.value in
    let put : (d : Draft) (o : Object) → c.args.commit ≡ true → g.draft ≡ Some d → object_at was.state.graph g.id ≡ Some o
    → c.end_draft.new.objects.entries ≡ insert_entry puid_cmp c.self.inside.objects.entries g.id d.object = c.end_draft.ensures.put in
    let ended = closed_state was.state who t c.args.commit at g c.end_draft.new.objects.entries whole (it.1 ∙ ap Some same) (it.2 ∙ ap Some same) c.end_draft.ensures.dropped c.end_draft.ensures.none put in
    ap (λ (gs : List Grant). record was { state = record was.state { graph = record was.state.graph { objects = c.end_draft.new.objects.entries }; grants = gs } }) c.remove-draft.ensures.items
    ∙ ap (λ (s : State). record was { state = s }) ended
    ∙ ap (λ (s : Server). record s { state = closed s.state who t c.args.commit }) c.self.view_is
