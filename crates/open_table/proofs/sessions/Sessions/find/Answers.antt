use Rattle.std.proofs.Common.{◌∙◌, ap, rules, tests}
use Rattle.open_table.proofs.Words.{YieldsList-from_slice, find, find_from_yields_List, same_tuid}
use Rattle.open_table.proofs.sessions.Sessions.find.Goals as goal

pub returns : goal.returns
returns c =
    c.copied.ensures
    ∙ find_from_yields_List (λ g. same_tuid g.tuid c.args.tuid) _ _ c.find.result c.find.ensures.ran (YieldsList-from_slice c.of.result.now cc) (λ x b q k. search (rules, tests))
    ∙ ap (λ grants. find (λ g. same_tuid g.tuid c.args.tuid) grants) c.of.ensures
