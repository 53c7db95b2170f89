use Rattle.std.proofs.Common.{List, ℕ, ◌∙◌, subst, sym}
use Rattle.intentions.proofs.Words.{Leaves, Written, left_now, on}
use Rattle.intentions.proofs.Changes.{all_ok}
use Rattle.intentions.proofs.Committed.{copies_by, copy_holds_by}
use Rattle.intentions.proofs.bit.copy_root.Goals as goal

pub returns-clause-images : goal.returns-clause-images
returns-clause-images g c =
    let old = c.args.disk.now in
    on g.D.Disk old c.write.new.self c.barrier.new.disk (Written (left_now g.D.Disk old) c.args.root.0 c.args.content.now) c.write.ensures.images c.barrier.ensures.images

pub returns-in_default-clause-holds : goal.returns-in_default-clause-holds
returns-in_default-clause-holds g c = λ graph id o s same settled is spelled.
    copy_holds_by g.D.Disk c.args.disk.now c.write.new.self graph id c.args.root.0 s o same settled is
    (subst (λ (b : List ℕ). Leaves g.D.Disk c.args.disk.now c.write.new.self (Written (left_now g.D.Disk c.args.disk.now) c.args.root.0 b)) (sym spelled) c.write.ensures.images)

pub returns-clause-holds : goal.returns-clause-holds
returns-clause-holds g c = λ graph id o s same settled is spelled.
    copy_holds_by g.D.Disk c.args.disk.now c.barrier.new.disk graph id c.args.root.0 s o same settled is
    (subst (λ (b : List ℕ). Leaves g.D.Disk c.args.disk.now c.barrier.new.disk (Written (left_now g.D.Disk c.args.disk.now) c.args.root.0 b)) (sym spelled) (returns-clause-images g c))

pub returns-clause-copies : goal.returns-clause-copies
returns-clause-copies g c = λ graph id o s same settled is spelled.
    all_ok c.barrier.result (copies_by g.D.Disk c.args.disk.now c.barrier.new.disk graph id c.args.root.0 s o same settled is
    (rw spelled (c.barrier.ensures.content ∙ c.in-Ok.ensures.written)))
