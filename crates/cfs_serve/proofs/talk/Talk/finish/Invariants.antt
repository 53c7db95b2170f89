use Rattle.cfs_serve.specs.Talking.{MakesTurns, work_of}
use Rattle.cfs_serve.proofs.talk.Talk.finish.Given as goal

abbrev pub invariant-turns : goal.invariant-turns
invariant-turns g l = MakesTurns g.A.Server l.fn.self l.self

abbrev pub decreases-turns : goal.decreases-turns
decreases-turns g l = work_of g.A.Server l.self
