use Rattle.std.proofs.Common.{arith}
use Rattle.cfs_serve.proofs.Owed.{asked, exact_of, passes, short_fits, stops, tallied, tells, undamaged}
use Rattle.ufs_model.specs.declared.asked.Event.TheVariants as events
use Rattle.cfs_serve.proofs.server.CoreServer.answer.Goals as goal

pub returns-clause-event : goal.returns-clause-event
returns-clause-event g c = asked g.D.Disk c.args.self.now c.ask-reply.new.self c.args.who c.args.request.now c.ask-reply.result c.ask-reply.ensures

pub returns-clause-exact : goal.returns-clause-exact
returns-clause-exact g c = λ s stands some lost least.
    exact_of g.D.Disk c.args.self.now c.ask-reply.new.self c.args.who c.args.request.now c.ask-reply.result c.ask-reply.ensures
    s lost (c.has_room.ensures.lost s) (c.has_room.ensures.room s) least stands

pub returns-clause-tallies : goal.returns-clause-tallies
returns-clause-tallies g c = λ s stands. tallied g.D.Disk c.args.self.now c.ask-reply.new.self c.args.who c.args.request.now c.ask-reply.result c.ask-reply.ensures s stands

pub returns-clause-tells : goal.returns-clause-tells
returns-clause-tells g c = tells g.D.Disk c.args.self.now c.ask-reply.new.self c.args.who c.args.request.now c.ask-reply.result c.ask-reply.ensures

pub returns-clause-stops : goal.returns-clause-stops
returns-clause-stops g c = stops g.D.Disk c.args.self.now c.ask-reply.new.self c.args.who c.args.request.now c.ask-reply.result c.ask-reply.ensures

pub returns-clause-undamaged : goal.returns-clause-undamaged
returns-clause-undamaged g c = λ s stands. undamaged g.D.Disk c.args.self.now c.ask-reply.new.self c.args.who c.args.request.now c.ask-reply.result c.ask-reply.ensures s stands

pub returns-clause-size : goal.returns-clause-size
returns-clause-size g c = omega (arith, c.has_room.ensures.size, c.has_room-2.ensures.size, c.ask-reply.ensures.size)

pub returns-clause-fits : goal.returns-clause-fits
returns-clause-fits g c = short_fits c.ask-reply.result c.ask-reply.ensures.short

pub returns-clause-lasts : goal.returns-clause-lasts
returns-clause-lasts g c = λ graph trail marks s at stands run.
    c.runs_survive.ensures.event c.args.self.now.words.seed graph trail marks s c.args.self.now.disk c.ask-reply.new.self.disk at run
    (events.Ask c.args.who c.args.request.now c.ask-reply.result) (c.ask-reply.ensures.event s stands).survives

pub returns-clause-passes : goal.returns-clause-passes
returns-clause-passes g c = passes g.D.Disk c.args.self.now c.ask-reply.new.self c.args.who c.args.request.now c.ask-reply.result c.ask-reply.ensures
