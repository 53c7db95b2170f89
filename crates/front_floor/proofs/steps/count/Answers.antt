use Rattle.std.proofs.Common.{arith, sum}
use Rattle.front_floor.specs.Seats.{log_in}
use Rattle.front_floor.proofs.Turns.{counts}
use Rattle.front_floor.proofs.steps.count.Goals as goal

pub fetch_add-requires : goal.fetch_add-requires
fetch_add-requires g c =
    let words = c.args.words.now in
    let seat = c.args.seat.now in
    let at = c.requires.table in
    let grown = c.requires.grown in
    (at.same, omega (arith, at.words), counts (log_in g.M.Logged.log) (sum words.key.items) words.table_id.slots seat.id seat.me grown.0 grown.1 c.args.added grown.2 grown.3 grown.4 grown.5)
