use Rattle.std.proofs.Common.{arith}
use Rattle.cfs_core.proofs.Exact.{exact_of, later_of, told_of}
use Rattle.cfs_core.proofs.kernel.CoreAsker.ask.Goals as goal

pub returns-clause-event : goal.returns-clause-event
returns-clause-event g c = λ s stands.
    let is = c.ask-reply.ensures.event s stands in
    record { after = is.after; step = is.step; standing = is.stands }

pub returns-clause-exact : goal.returns-clause-exact
returns-clause-exact g c = λ s stands. exact_of g.D.Disk c.args.self.now c.ask-reply.new.self c.args.who c.args.request.now c.ask-reply.result c.ask-reply.ensures s (c.has_room.ensures.room s) stands

pub returns-clause-told : goal.returns-clause-told
returns-clause-told g c = told_of g.D.Disk c.args.self.now c.ask-reply.new.self c.args.who c.args.request.now c.ask-reply.result c.ask-reply.ensures

pub returns-clause-later : goal.returns-clause-later
returns-clause-later g c = later_of g.D.Disk c.args.self.now c.ask-reply.new.self c.args.who c.args.request.now c.ask-reply.result c.ask-reply.ensures

pub returns-clause-same : goal.returns-clause-same
returns-clause-same g c = (c.ask-reply.ensures.seed, omega (arith, c.has_room.ensures.size, c.has_room-2.ensures.size, c.ask-reply.ensures.size))
