use Rattle.std.proofs.Common.{Err, sym, ◌∙◌, ap, subst}
use Rattle.cfs_core.specs.Collect.{CollectsStep}
use Rattle.cfs_core.specs.Kernel.{AreCollections}
use Rattle.cfs_core.proofs.Stepped.{collects_err, collects_ok, collects_stopped}
use Rattle.cfs_core.proofs.kernel.Core.collect.Goals as goal

pub returns-in-Some : goal.returns-in-Some
returns-in-Some g c = collects_stopped g.D.Disk c.args.self.now c.in-Some.stop (ap (λ k. k.stop) (sym c.self.view_is) ∙ c.in-Some.is)

pub returns-in-Ok : goal.returns-in-Ok
returns-in-Ok g c = collects_ok g.D.Disk g.met.D.Disk.left_sized g.met.D.Disk.sized c.args.self.now c.step.new.self c.in-Ok.ensures.calls.same.size (ap (λ k. k.stop) (sym c.self.view_is) ∙ c.in_default.is) c.requires.left c.in-Ok.ensures.left
    (subst (λ k. AreCollections (g.D.Disk.blocks k.disk) k.collections) c.self.view_is (subst (λ n. AreCollections n c.self.inside.collections) c.self.invariant.room c.self.invariant.kept)) c.in-Ok.step c.in-Ok.ensures

pub returns-in-Err : goal.returns-in-Err
returns-in-Err g c =
    let none = ap (λ k. k.stop) (sym c.self.view_is) ∙ c.in_default.is in
    subst (λ r. CollectsStep g.D.Disk c.args.self.now c.fail.new.self (Err r)) (sym c.fail.ensures.told)
    (collects_err g.D.Disk g.met.D.Disk.left_sized g.met.D.Disk.sized c.args.self.now c.step.new.self none c.requires.left c.in-Err.refused c.fail.new.self c.fail.ensures.stop c.in-Err.ensures)
