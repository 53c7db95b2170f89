use Rattle.cfs_serve.proofs.Pacing.{turns_then}
use Rattle.cfs_serve.proofs.talk.Talk.tidy.Goals as goal

pub parts-preserved : goal.parts-preserved
parts-preserved g c = turns_then g.A.Server c.args.self.now c.parts.self c.turn.new.self c.parts.invariant c.turn.ensures.made
