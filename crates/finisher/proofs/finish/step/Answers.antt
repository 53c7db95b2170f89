use Rattle.std.proofs.Common.{sym, ◌∙◌}
use Rattle.finisher.proofs.Calls.{goes_noted}
use Rattle.finisher.proofs.Going.{next_is}
use Rattle.finisher.proofs.finish.step.Goals as goal

pub returns-clause-goes : goal.returns-clause-goes
returns-clause-goes g c =
    let at = next_is c.args.space.now.left c.in-Some.part (sym c.next_part.ensures.part ∙ c.in-Some.is) in
    goes_noted g.D.Disk c.args.disk.now c.make.new.disk c.args.space.now c.make.new.space c.part_done.new.self at.0 at.1 c.make.ensures.left c.part_done.ensures
    (c.in_ok-make.ensures.goes at.0 at.2 (c.is_shadow_next.ensures at.0 at.1))
