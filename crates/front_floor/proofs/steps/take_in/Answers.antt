use Rattle.std.proofs.Common.{arith, sum}
use Rattle.front_floor.specs.Seats.{log_in}
use Rattle.front_floor.proofs.Deals.{joins}
use Rattle.front_floor.proofs.steps.take_in.Goals as goal

pub join_seat-requires : goal.join_seat-requires
join_seat-requires g c =
    let words = c.args.words.now in
    let keeper = c.args.keeper.now in
    let handle = c.args.handle in
    let at = c.requires.table in (
      at.same,
      c.requires.handle,
      c.requires.pass_idle.nothing,
      omega (arith, at.words),
      joins (log_in g.M.Logged.log) (sum words.key.items) keeper.id handle.id keeper.me.0 handle.me.0 c.requires.idle.stand c.requires.pass_idle.stand,
    )
