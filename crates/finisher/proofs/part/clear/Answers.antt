use Rattle.std.proofs.Common.{true, [], Some, None, refl, subst}
use Rattle.cyl_alloc.specs.Left.{LeftCommit}
use Rattle.finisher.specs.Going.{GoesFrom}
use Rattle.finisher.proofs.Going.{cleared_so, left_is}
use Rattle.finisher.proofs.part.clear.Goals as goal

pub returns-clause-goes : goal.returns-clause-goes
returns-clause-goes g c = λ l copied none root.
    subst (λ (x : LeftCommit). GoesFrom g.D.Disk c.args.disk.now c.clear_bit.new.disk c.args.space.now c.args.space.now (Some x) None c.clear_bit.result) (left_is l _ l.shadow [] true root refl none copied)
    (cleared_so g.D.Disk c.args.disk.now c.clear_bit.new.disk c.args.space.now c.args.root.0 l.shadow c.clear_bit.result c.clear_bit.ensures)
