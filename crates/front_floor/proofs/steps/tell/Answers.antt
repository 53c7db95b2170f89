use Rattle.std.proofs.Common.{arith, sum}
use Rattle.front_floor.specs.Seats.{log_in}
use Rattle.front_floor.proofs.Turns.{tells}
use Rattle.front_floor.proofs.steps.tell.Goals as goal

pub load-requires : goal.load-requires
load-requires g c =
    let words = c.args.words.now in
    let seat = c.args.seat.now in
    let at = c.requires.table in
    (at.same, omega (arith, at.words), tells (log_in g.M.Logged.log) (sum words.key.items) words.table_id.slots seat.id seat.me c.requires.idle.stand)
