use Rattle.std.proofs.Common.{arith, sum}
use Rattle.front_floor.specs.Seats.{log_in}
use Rattle.front_floor.proofs.Turns.{passes_on}
use Rattle.front_floor.proofs.steps.pass_on.Goals as goal

pub fetch_add-requires : goal.fetch_add-requires
fetch_add-requires g c =
    let words = c.args.words.now in
    let seat = c.args.seat.now in
    let at = c.requires.table in
    let counted = c.requires.counted in
    (at.same, omega (arith, at.words), passes_on (log_in g.M.Logged.log) (sum words.key.items) words.table_id.slots seat.id seat.me counted.0 counted.1 counted.2)
