use Rattle.std.proofs.Common.{◌≡◌, Option, Err, refl, sym, ◌∙◌, ap, subst, arith}
use Rattle.std.specs.Prelude.{IsSome}
use Rattle.cyl_alloc.specs.Left.{LeftCommit}
use Rattle.finisher.proofs.Calls.{some_left}
use Rattle.finisher.specs.Going.{Goes, PartEnds}
use Rattle.cfs_core.proofs.Words.{Kept}
use Rattle.cfs_core.specs.Kernel.{Kernel}
use Rattle.cfs_core.specs.Tidy.{TidiesVolume, tidy_fault_by, halt_by}
use Rattle.cfs_core.proofs.Parted.{tidies_cut, tidies_step}
use Rattle.cfs_core.proofs.kernel.Core.tidy.Goals as goal

pub returns-in-Ok : goal.returns-in-Ok
returns-in-Ok g c =
    let k : Kernel _ = record { disk = c.self.inside.disk; root = c.self.inside.root; directory = c.self.inside.directory; space = c.self.inside.space; words = c.self.inside.words; handles = c.self.inside.handles.handles; collections = c.self.inside.collections; stop = c.self.inside.stop } in
    let there = some_left k.space.left c.unfinished.result c.unfinished.ensures (omega (arith, c.if-unfinished-eq0.false)) in
    let some : IsSome k.space.left = subst (λ (w : Option LeftCommit). IsSome w) (sym there.1) refl in
    subst (λ x. TidiesVolume g.D.Disk x (record k { disk = c.step.new.disk; space = c.step.new.space }) _) c.self.view_is
    (tidies_step g.D.Disk g.met.D.Disk.left_sized g.met.D.Disk.sized k c.step.new.disk c.step.new.space c.in_default.is c.step.ensures.calls.same.size c.in-Ok.field-0 c.in-Ok.ensures.goes some c.in-Ok.ensures.left c.step.ensures.calls)

pub returns-in-Err : goal.returns-in-Err
returns-in-Err g c =
    let k : Kernel _ = record { disk = c.self.inside.disk; root = c.self.inside.root; directory = c.self.inside.directory; space = c.self.inside.space; words = c.self.inside.words; handles = c.self.inside.handles.handles; collections = c.self.inside.collections; stop = c.self.inside.stop } in
    let t = c.in-Err.trouble in
    let d = c.step.new.disk in
    let kept : c.step.new.space ≡ k.space = c.in-Err.ensures.kept refl in
    let there = some_left k.space.left c.unfinished.result c.unfinished.ensures (omega (arith, c.if-unfinished-eq0.false)) in
    let some : IsSome k.space.left = subst (λ (w : Option LeftCommit). IsSome w) (sym there.1) refl in
    let told = tidy_fault_by t (g.D.Disk.moment d) in
    subst (λ x. TidiesVolume g.D.Disk x c.halt.new.self (Err c.halt.result)) c.self.view_is
    (subst (λ r. TidiesVolume g.D.Disk k c.halt.new.self (Err r)) (sym c.halt.ensures.told)
    (subst (λ y. TidiesVolume g.D.Disk k y (Err told)) (sym (c.halt.ensures.stop ∙ ap (λ (x : Kept). record k { disk = d; space = x; stop = halt_by told k.stop }) kept))
    (tidies_cut g.D.Disk g.met.D.Disk.left_sized g.met.D.Disk.sized k d c.in_default.is c.step.ensures.calls t (subst (λ (x : Kept). Goes g.D.Disk k.disk d k.space x (Err t)) kept c.in-Err.ensures.goes) (subst (λ (x : Kept). PartEnds g.D.Disk 4 3 k.disk d k.space x (Err t)) kept (c.in-Err.ensures.ends some)) some)))
