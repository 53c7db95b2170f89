use Rattle.std.proofs.Common.{◌∙◌, ap}
use Rattle.open_table.proofs.Words.{Table, find, session_grant, same_tuid}
use Rattle.open_table.proofs.Lists.{find-grants_of}
use Rattle.open_table.proofs.grants.Grants.find.Goals as goal

pub returns : goal.returns
returns c =
    c.find.ensures ∙ ap (λ grants. find (λ g. same_tuid g.tuid c.args.tuid) grants) (c.self.invariant.own c.args.who)
    ∙ find-grants_of c.self.inside.grants.items c.args.who c.args.tuid ∙ ap (λ (t : Table). session_grant t.grants c.args.who c.args.tuid) c.self.view_is
