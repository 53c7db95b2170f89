use Rattle.std.proofs.Common.{rules}
use Rattle.std.specs.Box.{with_value}
use Rattle.front_floor.proofs.turn.make_turn.Goals as goal

pub take-machine-requires-clause-has : goal.take-machine-requires-clause-has
take-machine-requires-clause-has g c = (c.wait_for_turn.ensures.here.0, (search rules))

pub count-requires-clause-grown : goal.count-requires-clause-grown
count-requires-clause-grown g c =
    let turned = c.turn_counted-done.ensures in
    (g.M.Logged.log c.deref_mut.result.now, with_value c.take-machine.result c.turn_counted-done.new.machine, (search rules), (search rules), turned.grows, turned.small)

pub pass_on-requires-clause-counted : goal.pass_on-requires-clause-counted
pass_on-requires-clause-counted g c =
    (with_value c.take-machine.result c.turn_counted-done.new.machine, (search rules), (search rules))
