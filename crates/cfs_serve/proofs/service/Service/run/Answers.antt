use Rattle.cfs_serve.proofs.Begun.{begun, fresh, has_served}
use Rattle.cfs_serve.proofs.service.Service.run.Goals as goal

pub serve_by-requires-clause-begun : goal.serve_by-requires-clause-begun
serve_by-requires-clause-begun g c = λ lifetimes outlives.
    let self = c.args.self in
    begun g.A.Server self.server self.trail self.ports.items self.schedule.collections self.turns self.ready

pub serve_by-requires-clause-fresh : goal.serve_by-requires-clause-fresh
serve_by-requires-clause-fresh g c = λ lifetimes outlives.
    let self = c.args.self in
    fresh g.A.Server self.server self.trail self.ports.items self.schedule.collections self.turns self.ready

pub returns-clause-served : goal.returns-clause-served
returns-clause-served g c =
    let self = c.args.self in
    let served = c.serve_by.ensures in
    has_served g.A.Server self.server self.trail self.ports.items self.schedule.collections self.turns self.ready c.serve_by.result served.ended served.left
