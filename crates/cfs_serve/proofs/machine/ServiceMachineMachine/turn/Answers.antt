use Rattle.cfs_serve.proofs.Workers.{less_left, others_stay}
use Rattle.cfs_serve.proofs.machine.ServiceMachineMachine.turn.Goals as goal

pub returns-clause-nearer : goal.returns-clause-nearer
returns-clause-nearer g c = λ stays. less_left g.A.Server.clock c.args.worker c.args.self.now c.turn_of.new.self c.turn_of.ensures.turn

pub returns-clause-others : goal.returns-clause-others
returns-clause-others g c = λ w apart. others_stay g.A.Server.clock c.args.worker c.args.self.now c.turn_of.new.self c.turn_of.ensures.turn w apart
