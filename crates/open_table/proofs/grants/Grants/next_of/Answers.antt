use Rattle.std.proofs.Common.{◌∙◌, ap}
use Rattle.open_table.proofs.Words.{Table, first_grant, slice_get}
use Rattle.open_table.proofs.Lists.{first-grants_of}
use Rattle.open_table.proofs.grants.Grants.next_of.Goals as goal

pub returns : goal.returns
returns c =
    c.copied.ensures ∙ c.first.ensures.value ∙ ap (λ grants. slice_get grants 0) (c.of.ensures ∙ c.self.invariant.own c.args.who)
    ∙ first-grants_of c.self.inside.grants.items c.args.who ∙ ap (λ (t : Table). first_grant t.grants c.args.who) c.self.view_is
