use Rattle.std.proofs.Common.{Option, Some, sym, ◌∙◌, ap, subst}
use Rattle.cyl_alloc.specs.Left.{LeftCommit, is_first}
use Rattle.finisher.specs.Going.{GoesFrom}
use Rattle.finisher.proofs.Going.{part_clear, part_flip}
use Rattle.finisher.proofs.part.make.Goals as goal

pub returns-in-Clear-clause-goes : goal.returns-in-Clear-clause-goes
returns-in-Clear-clause-goes g c = λ l is shadow.
    let at = part_clear l c.in-Clear.root (sym c.in-Clear.is ∙ is) in
    subst (λ (x : Option LeftCommit). GoesFrom g.D.Disk c.args.disk.now c.clear.new.disk c.args.space.now c.clear.new.space (Some l) x c.clear.result) (sym at.3) (c.clear.ensures.goes l at.0 at.1 at.2)

pub returns-in-Flip-clause-goes : goal.returns-in-Flip-clause-goes
returns-in-Flip-clause-goes g c = λ l is shadow.
    let at = part_flip l c.in-Flip.block (sym c.in-Flip.is ∙ is) in
    subst (λ (x : Option LeftCommit). GoesFrom g.D.Disk c.args.disk.now c.flip.new.disk c.args.space.now c.flip.new.space (Some l) x c.flip.result) (sym at.3)
    (c.flip.ensures.goes l at.0 at.1 at.2 (shadow ∙ ap (is_first l.shadow) at.2))
