use Rattle.cfs_serve.specs.Talking.{MakesTurns, work_of}
use Rattle.cfs_serve.proofs.talk.Talk.tidy.Given as goal

abbrev pub invariant-parts : goal.invariant-parts
invariant-parts g l = MakesTurns g.A.Server l.fn.self l.self

abbrev pub decreases-parts : goal.decreases-parts
decreases-parts g l = work_of g.A.Server l.self
