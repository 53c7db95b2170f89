use Rattle.std.proofs.Common.{inr, refl}
use Rattle.ufs_model.specs.declared.asked.Event.TheVariants as events
use Rattle.cfs_serve.proofs.server.CoreServer.moment.Goals as goal

pub returns-clause-lasts : goal.returns-clause-lasts
returns-clause-lasts g c = λ who why graph trail marks s at stands run.
    c.runs_survive.ensures.event c.args.self.now.words.seed graph trail marks s c.args.self.now.disk c.args.self.now.disk at run
    (events.Unread who why) (inr (record { disk = refl; after = s; step = refl; graph = refl }))
