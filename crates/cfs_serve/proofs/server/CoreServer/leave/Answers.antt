use Rattle.std.proofs.Common.{arith, refl, None, Some}
use Rattle.ufs_model.specs.declared.asked.Event.TheVariants as events
use Rattle.cfs_serve.proofs.Leaves.{raised, stops_calm, stops_halted, undamaged}
use Rattle.cfs_serve.proofs.Owed.{left_passes, left_tallies}
use Rattle.cfs_serve.proofs.server.CoreServer.leave.Goals as goal

pub returns-in-Ok-clause-event : goal.returns-in-Ok-clause-event
returns-in-Ok-clause-event g c = λ s stands.
    let one = c.in-Ok.ensures.event s stands in
    record { after = one.after; step = one.step; standing = one.stands }

pub returns-in-Err-clause-event : goal.returns-in-Err-clause-event
returns-in-Err-clause-event g c = λ s stands.
    let one = c.in-Err.ensures.event s stands in
    record { after = one.after; step = one.step; standing = one.stands }

pub returns-in-Ok-clause-tallies : goal.returns-in-Ok-clause-tallies
returns-in-Ok-clause-tallies g c = λ s stands.
    left_tallies g.D.Disk c.args.self.now c.leave-left.new.self c.args.who None s (c.in-Ok.ensures.event s stands)

pub returns-in-Err-clause-tallies : goal.returns-in-Err-clause-tallies
returns-in-Err-clause-tallies g c = λ s stands.
    left_tallies g.D.Disk c.args.self.now c.leave-left.new.self c.args.who (Some c.in-Err.halt.moment) s (c.in-Err.ensures.event s stands)

pub returns-in-Ok-clause-lasts : goal.returns-in-Ok-clause-lasts
returns-in-Ok-clause-lasts g c = λ graph trail marks s at stands run.
    c.runs_survive.ensures.event c.args.self.now.words.seed graph trail marks s c.args.self.now.disk c.leave-left.new.self.disk at run (events.Leave c.args.who None) (c.in-Ok.ensures.event s stands).survives

pub returns-in-Err-clause-lasts : goal.returns-in-Err-clause-lasts
returns-in-Err-clause-lasts g c = λ graph trail marks s at stands run.
    c.runs_survive.ensures.event c.args.self.now.words.seed graph trail marks s c.args.self.now.disk c.leave-left.new.self.disk at run
    (events.Leave c.args.who (Some c.in-Err.halt.moment)) (c.in-Err.ensures.event s stands).survives

pub returns-in-Ok-clause-stops : goal.returns-in-Ok-clause-stops
returns-in-Ok-clause-stops g c = stops_calm g.D.Disk c.args.self.now c.leave-left.new.self c.args.who c.in-Ok.ensures.goes_on c.leave-left.ensures.idle

pub returns-in-Err-clause-stops : goal.returns-in-Err-clause-stops
returns-in-Err-clause-stops g c =
    let halts = c.in-Err.ensures.halts in
    stops_halted g.D.Disk c.args.self.now c.leave-left.new.self c.args.who c.in-Err.halt.moment halts.0 halts.1 halts.2 halts.3 halts.4

pub returns-in-Err-clause-undamaged : goal.returns-in-Err-clause-undamaged
returns-in-Err-clause-undamaged g c = λ s stands before.
    let halts = c.in-Err.ensures.halts in
    undamaged g.D.Disk c.args.self.now c.leave-left.new.self s stands halts.0 halts.1 halts.2 c.leave-left.ensures.sound

pub returns-in-Ok-clause-called : goal.returns-in-Ok-clause-called
returns-in-Ok-clause-called g c = rw c.leave-left.ensures.called refl

pub returns-in-Err-clause-called : goal.returns-in-Err-clause-called
returns-in-Err-clause-called g c = rw c.leave-left.ensures.called refl

pub returns-in-Ok-clause-size : goal.returns-in-Ok-clause-size
returns-in-Ok-clause-size g c = omega (arith, c.has_room.ensures.size, c.has_room-2.ensures.size, c.leave-left.ensures.size)

pub returns-in-Err-clause-size : goal.returns-in-Err-clause-size
returns-in-Err-clause-size g c = omega (arith, c.has_room.ensures.size, c.has_room-2.ensures.size, c.leave-left.ensures.size)

pub returns-in-Err-clause-halts : goal.returns-in-Err-clause-halts
returns-in-Err-clause-halts g c = λ s stands some.
    let halts = c.in-Err.ensures.halts in
    raised g.D.Disk c.args.self.now c.leave-left.new.self s stands halts.0 halts.1 halts.2 halts.4 c.leave-left.ensures.sound

pub returns-in-Ok-clause-passes : goal.returns-in-Ok-clause-passes
returns-in-Ok-clause-passes g c = left_passes g.D.Disk c.args.self.now c.leave-left.new.self c.leave-left.ensures.finished c.leave-left.ensures.waits c.leave-left.ensures.size c.leave-left.ensures.later

pub returns-in-Err-clause-passes : goal.returns-in-Err-clause-passes
returns-in-Err-clause-passes g c = left_passes g.D.Disk c.args.self.now c.leave-left.new.self c.leave-left.ensures.finished c.leave-left.ensures.waits c.leave-left.ensures.size c.leave-left.ensures.later
