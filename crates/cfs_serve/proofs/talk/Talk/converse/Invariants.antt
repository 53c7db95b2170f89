use Rattle.std.proofs.Common.{◌≡◌}
use Rattle.cfs_serve.specs.Talking.{HasHeardLines}
use Rattle.cfs_serve.proofs.talk.Talk.converse.Given as goal

abbrev pub invariant-lines : goal.invariant-lines
invariant-lines g l =
    HasHeardLines g.A.Server g.J.Charter.charter.root g.X.Exchange.source g.X.Exchange.sink l.lines l.self
    × (l.self.pace.every ≡ l.fn.self.pace.every)

abbrev pub decreases-lines : goal.decreases-lines
decreases-lines g l = l.self.lines
