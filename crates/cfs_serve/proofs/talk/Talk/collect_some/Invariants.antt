use Rattle.cfs_serve.specs.Talking.{MakesTurns}
use Rattle.cfs_serve.proofs.talk.Talk.collect_some.Given as goal

abbrev pub invariant-loop-step : goal.invariant-loop-step
invariant-loop-step g l = MakesTurns g.A.Server l.fn.self l.self
