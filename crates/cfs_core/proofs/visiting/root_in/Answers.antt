use Rattle.std.proofs.Common.{refl}
use Rattle.intentions.proofs.Shown.{shown_tells, shown_tree}
use Rattle.cfs_base.proofs.Passed.{is_passed}
use Rattle.cfs_core.proofs.Calm.{calm_root, told_never}
use Rattle.ufs_model.specs.declared.object.Object.{Object}
use Rattle.cfs_core.proofs.visiting.root_in.Goals as goal

pub returns-clause-read : goal.returns-clause-read
returns-clause-read g c = record { reads = c.read_root.ensures.reads; rooted = c.in_ok-read_root.ensures.root }

pub returns-in_err-read_root-clause-calm : goal.returns-in_err-read_root-clause-calm
returns-in_err-read_root-clause-calm g c =
    rw (is_passed _ _ c.from_residual.ensures.1) (calm_root g.D.Disk (λ (o : Object). o) c.args.at.0 c.args.disk.now c.read_root.new.disk c.in_err-read_root.field-0.0 _ refl c.read_root.ensures.reads
    (λ o knows. let tree = shown_tree knows.view.shown in c.in_err-read_root.ensures.sound tree.0 (shown_tells knows.view.shown) tree.1.spelled) c.in_err-read_root.ensures.refused)

pub returns-in_err-read_root-clause-never : goal.returns-in_err-read_root-clause-never
returns-in_err-read_root-clause-never g c = rw (is_passed _ _ c.from_residual.ensures.1) (told_never c.in_err-read_root.field-0.0 _ refl)
