use Rattle.std.proofs.Common.{sum, All}
use Rattle.front_floor.specs.Knows.{Fits}
use Rattle.front_floor.specs.Seats.{log_in}
use Rattle.front_floor.proofs.Deals.{comes_out, of_same}
use Rattle.front_floor.proofs.lock.finish.Goals as goal

pub unreachable-requires : goal.unreachable-requires
unreachable-requires g c =
    let keeper = c.args.keeper in
    let m = comes_out (log_in g.M.Logged.log) (sum c.args.rows.shared.key.items) keeper.id keeper.me.0 _ _ _ c.close_with-closed.ensures.values.2 c.requires.parts c.requires.idle.stand c.take-slot.ensures.value in
    absurd (cc (m.1, c.in-None.is))

pub returns : goal.returns
returns g c =
    let keeper = c.args.keeper in
    let log = log_in g.M.Logged.log in
    let m = comes_out log (sum c.args.rows.shared.key.items) keeper.id keeper.me.0 _ _ _ c.close_with-closed.ensures.values.2 c.requires.parts c.requires.idle.stand c.take-slot.ensures.value in
    let told = of_same (λ x. All (Fits (log x)) keeper.me.0.told) m.0 c.in-Some.boxed _ m.1 c.in-Some.is m.2 in
    record { told = rw c.into_inner.ensures told }
