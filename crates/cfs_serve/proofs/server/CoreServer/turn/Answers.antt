use Rattle.std.proofs.Common.{arith}
use Rattle.cfs_serve.proofs.Turning.{called, drawn, ends, goes_on, halts, made, passes, seed, size, spends, stops, tallies, tells, undamaged}
use Rattle.cfs_serve.proofs.Playing.{none_lost}
use Rattle.cfs_serve.proofs.server.CoreServer.turn.Goals as goal

pub returns-clause-event : goal.returns-clause-event
returns-clause-event g c = λ s stands. made g.D.Disk c.args.self.now c.turn_of-made.new.core c.turn_of-made.result c.turn_of-made.ensures s stands

pub returns-clause-lasts : goal.returns-clause-lasts
returns-clause-lasts g c = goes_on g.D.Disk c.args.self.now c.turn_of-made.new.core c.turn_of-made.result c.runs_survive.ensures.event c.runs_survive.ensures.none c.turn_of-made.ensures

pub returns-clause-tells : goal.returns-clause-tells
returns-clause-tells g c = tells g.D.Disk c.args.self.now c.turn_of-made.new.core c.turn_of-made.result c.turn_of-made.ensures

pub returns-clause-stops : goal.returns-clause-stops
returns-clause-stops g c = stops g.D.Disk c.args.self.now c.turn_of-made.new.core c.turn_of-made.result c.turn_of-made.ensures

pub returns-clause-undamaged : goal.returns-clause-undamaged
returns-clause-undamaged g c = λ s stands. undamaged g.D.Disk c.args.self.now c.turn_of-made.new.core c.turn_of-made.result c.turn_of-made.ensures s stands

pub returns-clause-tallies : goal.returns-clause-tallies
returns-clause-tallies g c = λ s stands.
    tallies g.D.Disk c.args.self.now c.turn_of-made.new.core c.turn_of-made.result c.turn_of-made.ensures
    (λ t serves calm. none_lost _ _ _ t (c.has_room.ensures.room t serves calm) (c.has_room.ensures.lost t serves)) s stands

pub returns-clause-ends : goal.returns-clause-ends
returns-clause-ends g c = ends g.D.Disk c.args.self.now c.turn_of-made.new.core c.turn_of-made.result c.turn_of-made.ensures

pub returns-clause-spends : goal.returns-clause-spends
returns-clause-spends g c = spends g.D.Disk c.args.self.now c.turn_of-made.new.core c.turn_of-made.result c.turn_of-made.ensures

pub returns-clause-size : goal.returns-clause-size
returns-clause-size g c = omega (arith, c.has_room.ensures.size, c.has_room-2.ensures.size, size g.D.Disk c.args.self.now c.turn_of-made.new.core c.turn_of-made.result c.turn_of-made.ensures)

pub returns-clause-called : goal.returns-clause-called
returns-clause-called g c = called g.D.Disk c.args.self.now c.turn_of-made.new.core c.turn_of-made.result c.turn_of-made.ensures

pub returns-clause-seed : goal.returns-clause-seed
returns-clause-seed g c = seed g.D.Disk c.args.self.now c.turn_of-made.new.core c.turn_of-made.result c.turn_of-made.ensures

pub returns-clause-drawn : goal.returns-clause-drawn
returns-clause-drawn g c = omega (arith, drawn g.D.Disk c.args.self.now c.turn_of-made.new.core c.turn_of-made.result c.turn_of-made.ensures)

pub returns-clause-halts : goal.returns-clause-halts
returns-clause-halts g c = λ s stands. halts g.D.Disk c.args.self.now c.turn_of-made.new.core c.turn_of-made.result c.turn_of-made.ensures s stands

pub returns-clause-passes : goal.returns-clause-passes
returns-clause-passes g c = passes g.D.Disk c.args.self.now c.turn_of-made.new.core c.turn_of-made.result c.turn_of-made.ensures
