use Rattle.std.proofs.Common.{ℕ, Err, refl, sym, subst}
use Rattle.cfs_core.specs.Calls.{Tries}
use Rattle.cfs_core.specs.Kernel.{Kernel}
use Rattle.cfs_core.specs.Looks.{ReachesAll, WasRead}
use Rattle.cfs_core.specs.Visits.{CameTo, ReachesSo, as_object}
use Rattle.cfs_core.proofs.Answering.{tries_failed}
use Rattle.cfs_base.proofs.Passed.{is_passed}
use Rattle.cfs_core.proofs.kernel.Core.visit.Goals as goal

pub returns-in_ok-root-in-Ok-Object : goal.returns-in_ok-root-in-Ok-Object
returns-in_ok-root-in-Ok-Object g c =
    let k : Kernel _ = record { disk = c.self.inside.disk; root = c.self.inside.root; directory = c.self.inside.directory; space = c.self.inside.space; words = c.self.inside.words; handles = c.self.inside.handles.handles; collections = c.self.inside.collections; stop = c.self.inside.stop } in
    let new : Kernel _ = record k { disk = c.root_in.new.disk } in
    record {
      reaches = subst (ReachesSo g.D.Disk c.args.wants c.args.way c.args.who c.args.self.now) c.in-Ok-Object.field-0-is c.in-Ok-Object.ensures.reached;
      came = subst (λ x. CameTo g.D.Disk 1 x new c.in-Ok-Object.id c.in_ok-root-in-Ok-Object.root) c.self.view_is (record {
        same = refl;
        read = subst (λ (n : ℕ). WasRead g.D.Disk 1 n c.in_ok-root-in-Ok-Object.root k.disk new.disk) c.shown-at.ensures.shown c.in_ok-root-in-Ok-Object.ensures.read;
      });
      limit = c.in_ok-root-in-Ok-Object.ensures.limit;
    }

pub returns-in_err-root-in-Ok-Object : goal.returns-in_err-root-in-Ok-Object
returns-in_err-root-in-Ok-Object g c =
    let k : Kernel _ = record { disk = c.self.inside.disk; root = c.self.inside.root; directory = c.self.inside.directory; space = c.self.inside.space; words = c.self.inside.words; handles = c.self.inside.handles.handles; collections = c.self.inside.collections; stop = c.self.inside.stop } in
    let reaches = subst (ReachesSo g.D.Disk c.args.wants c.args.way c.args.who c.args.self.now) c.in-Ok-Object.field-0-is c.in-Ok-Object.ensures.reached in
    let calm = c.in_err-root-in-Ok-Object.ensures.calm in
    rw (is_passed _ _ c.from_residual.ensures.1) (λ request by. subst (λ x. Tries g.D.Disk x (record k { disk = c.root_in.new.disk }) c.args.who request (Err c.in_err-root-in-Ok-Object.field-0.0)) c.self.view_is
    (tries_failed g.D.Disk g.met.D.Disk.left_sized g.met.D.Disk.sized (as_object c.args.wants) k c.in-Ok-Object.id c.shown-at.result.0 c.shown-at.ensures.shown c.args.who request (subst (λ x. ReachesAll g.D.Disk (as_object c.args.wants) x c.args.who request c.in-Ok-Object.id) (sym c.self.view_is) (reaches.reached request by))
    1 c.root_in.new.disk c.in_err-root-in-Ok-Object.field-0.0 calm.reads (λ a knows. calm.sound (as_object c.args.wants a) knows) calm.cause))
