use Rattle.cfs_serve.proofs.Pacing.{turns_then}
use Rattle.cfs_serve.proofs.talk.Talk.collect_some.Goals as goal

pub loop-step-preserved : goal.loop-step-preserved
loop-step-preserved g c = turns_then g.A.Server c.args.self.now c.loop-step.self c.step.new.self c.loop-step.invariant c.step.ensures
