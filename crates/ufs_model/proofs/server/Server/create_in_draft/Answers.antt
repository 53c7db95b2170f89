use Rattle.std.proofs.Common.{◌≡◌, ◌∙◌, ap, set, slice_get, List, Option}
use Rattle.ufs_model.proofs.Words.{Draft, Grant, Object, Puid, Server, the_view, with_new_in_draft, with_object}
use Rattle.ufs_model.proofs.server.Server.create_in_draft.Goals as goal

pub returns-clause-ok : goal.returns-clause-ok
returns-clause-ok c = λ g d stands has.
    let was = the_view c.self.inside in
    let at = c.args.at in
    let grants : c.as_slice.result.now ≡ c.args.self.now.state.grants = c.as_slice.ensures.value ∙ ap (λ (v : Server). v.state.grants) c.self.view_is in
    let draft = c.in_ok-draft.ensures g d (ap (λ (gs : List Grant). slice_get gs at) grants ∙ stands) has in
    let put = c.put_draft.ensures g (ap (λ (v : Server). slice_get v.state.grants at) c.self.view_is ∙ stands) ∙ ap (λ (o : Option Draft). set was.state.grants at (record g { draft = o })) draft in
    ap (λ (es : List (Puid × Object)). record was { state = record was.state { graph = record was.state.graph { objects = es }; grants = c.put_draft.new.grants.items } }) c.in_ok-insert.ensures.entries
    ∙ ap (λ (gs : List Grant). record was { state = record was.state { graph = with_object was.state.graph c.args.id c.args.object; grants = gs } }) put
    ∙ ap (λ (v : Server). record v { state = with_new_in_draft v.state at g d c.args.slot c.args.id c.args.object }) c.self.view_is
