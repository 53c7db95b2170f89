use Rattle.std.proofs.Common.{false, true, Some, refl, subst}
use Rattle.cyl_alloc.specs.Left.{LeftCommit}
use Rattle.finisher.specs.Going.{GoesFrom}
use Rattle.finisher.proofs.Going.{copied_so, left_is}
use Rattle.finisher.proofs.part.copy.Goals as goal

pub returns-clause-goes : goal.returns-clause-goes
returns-clause-goes g c = λ l space un root same.
    let d0 = c.args.disk.now in
    let d1 = c.copy_root.new.disk in
    let made = c.copy_root.ensures in
    subst (λ (x : LeftCommit). GoesFrom g.D.Disk d0 d1 space space (Some x) (Some (record x { copied = true })) c.copy_root.result) (left_is l _ _ l.rest false root refl refl un)
    (copied_so g.D.Disk d0 d1 space c.args.root.0 l.shadow l.rest c.args.content.now same c.copy_root.result made.copied made.settled
    (λ graph id o at settled is. made.copies graph id o l.shadow at settled is same) (λ graph id o at settled is. made.holds graph id o l.shadow at settled is same) made.refused)
