use Rattle.cfs_serve.proofs.Pacing.{turns_then}
use Rattle.cfs_serve.proofs.talk.Talk.finish.Goals as goal

pub turns-preserved : goal.turns-preserved
turns-preserved g c = turns_then g.A.Server c.args.self.now c.turns.self c.turn.new.self c.turns.invariant c.turn.ensures.made
