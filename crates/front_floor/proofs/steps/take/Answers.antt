use Rattle.std.proofs.Common.{Some, rules}
use Rattle.front_floor.proofs.Turns.{has_one}
use Rattle.front_floor.proofs.steps.take.Goals as goal

pub exchange-requires : goal.exchange-requires
exchange-requires g c =
    let has = c.requires.has in
    (c.requires.table.same, (Some has.0, has_one c.args.seat.now.me.1 (Some has.0) has.1))

pub returns-clause-step : goal.returns-clause-step
returns-clause-step g c = (c.in-Some.machine, (search rules), (search rules))
