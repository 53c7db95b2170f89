use Rattle.std.proofs.Common.{◌≡◌, [], sym, ◌∙◌}
use Rattle.cyl_alloc.specs.Left.{flips_in}
use Rattle.finisher.proofs.Runs.{none_is, step_pays}
use Rattle.finisher.proofs.finish.advance.Goals as goal

pub returns-clause-spends : goal.returns-clause-spends
returns-clause-spends g c =
    let none : flips_in c.args.space.now.left ≡ [] = sym c.next_flips-next.ensures.blocks ∙ none_is c.next_flips-next.result.now (sym c.is_empty.ensures ∙ c.if-not-is_empty.false) in
    step_pays g.D.Disk c.args.disk.now c.step.new.disk c.args.space.now.left c.step.new.space.left c.requires.some none c.in_ok-step.ensures.left c.step.ensures.of_part
