use Rattle.std.proofs.Common.{◌∙◌, sym}
use Rattle.cfs_serve.proofs.Hearing.{ends_broken}
use Rattle.cfs_serve.proofs.talk.Talk.converse.Goals as goal

pub returns-clause-ends : goal.returns-clause-ends
returns-clause-ends g c =
    ends_broken g.A.Server g.J.Charter.charter.root g.X.Exchange.source g.X.Exchange.sink c.lines.lines c.lines.self c.lines.invariant.0 (sym c.has_failed.ensures ∙ c.lines-test.false)
