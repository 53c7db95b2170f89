use Rattle.std.proofs.Common.{arith, sum}
use Rattle.front_floor.specs.Seats.{log_in}
use Rattle.front_floor.proofs.Deals.{splits}
use Rattle.front_floor.proofs.steps.deal.Goals as goal

pub split_seat-requires : goal.split_seat-requires
split_seat-requires g c =
    let words = c.args.words.now in
    let keeper = c.args.keeper.now in
    let at = c.requires.table in
    (at.same, omega (arith, at.words), splits (log_in g.M.Logged.log) (sum words.key.items) keeper.id keeper.me.0 c.requires.idle.stand c.requires.parts)
