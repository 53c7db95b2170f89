use Rattle.std.proofs.Common.{arith, sum, ap, ◌∙◌}
use Rattle.front_floor.specs.Seats.{log_in}
use Rattle.front_floor.proofs.Turns.{looked, looks}
use Rattle.front_floor.proofs.steps.wait_for_turn.Goals as goal

pub load-requires : goal.load-requires
load-requires g c =
    let words = c.args.words.now in
    let seat = c.loop.seat in
    let at = c.requires.table in
    let now = c.loop.invariant in (
      now.table ∙ at.same,
      omega (arith, at.words),
      looks (log_in g.M.Logged.log) (sum words.key.items) words.table_id.slots seat.id seat.me c.args.ticket (ap (λ me. me.0.stand) now.me ∙ c.requires.waits),
    )

pub returns-then-load-ticket-clause-here : goal.returns-then-load-ticket-clause-here
returns-then-load-ticket-clause-here g c =
    looked (log_in g.M.Logged.log) c.args.seat.now.me c.loop.seat.me c.load.new.seat.me c.load.result c.args.ticket c.loop.invariant.me c.requires.waits c.if-load-ticket.true c.load.ensures.2
