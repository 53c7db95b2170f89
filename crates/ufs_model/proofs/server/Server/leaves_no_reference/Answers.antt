use Rattle.std.proofs.Common.{◌∙◌, ap, sym, not, ◌&&◌, ◌||◌, Bool, List}
use Rattle.ufs_model.proofs.Words.{Grant, Puid, Server, drafted, is_among, leaves_no_reference, list_all, list_any, the_view}
use Rattle.ufs_model.proofs.Unkept.{each_index}
use Rattle.ufs_model.proofs.server.Server.leaves_no_reference.Goals as goal

abbrev by_drafts : List Puid → List Grant → Bool
by_drafts ids grants = list_all (λ g. is_among g.id ids || not (list_any (λ x. is_among x ids) (drafted g))) grants

pub returns-then-refer_to_none : goal.returns-then-refer_to_none
returns-then-refer_to_none c =
    let ids = c.args.ids.now.keys in
    c.draft_none.ensures ∙ ap (by_drafts ids) c.as_slice.ensures.value
    ∙ ap (λ b. b && by_drafts ids c.self.inside.grants.items) (sym c.if-refer_to_none.true ∙ c.refer_to_none.ensures)
    ∙ each_index (λ x. is_among x ids) (the_view c.self.inside).state ∙ ap (λ (v : Server). leaves_no_reference v.state ids) c.self.view_is

pub returns-else-refer_to_none : goal.returns-else-refer_to_none
returns-else-refer_to_none c =
    let ids = c.args.ids.now.keys in
    c.if-refer_to_none.false ∙ ap (λ b. b && by_drafts ids c.self.inside.grants.items) (sym c.if-refer_to_none.false ∙ c.refer_to_none.ensures)
    ∙ each_index (λ x. is_among x ids) (the_view c.self.inside).state ∙ ap (λ (v : Server). leaves_no_reference v.state ids) c.self.view_is
