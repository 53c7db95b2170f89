use Rattle.front_floor.proofs.Running.{ran_along}
use Rattle.front_floor.proofs.threads.run_all.Goals as goal

pub returns-then-threads-gt0-clause-ran : goal.returns-then-threads-gt0-clause-ran
returns-then-threads-gt0-clause-ran g c i handle less =
    let each = (c.for_each_mut.ensures i handle less).1 in
    ran_along each.argument.now each.after_call.now _ _ each.argument_is each.left each.call
