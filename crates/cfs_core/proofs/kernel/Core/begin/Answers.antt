use Rattle.std.proofs.Common.{◌≡◌, ◌<◌, ◌∷◌, map, [], Some, Ok, Err, refl, sym, ◌∙◌, ap, subst, IfSome, arith}
use Rattle.cfs_core.specs.declared.collecting.Step.TheVariants as steps
use Rattle.cfs_core.specs.Collect.{HasBegunCollection, TriesStep, phase_of}
use Rattle.cfs_core.specs.Kernel.{Kernel, Handle}
use Rattle.cfs_core.proofs.Stepped.{steps_begun, steps_starved}
use Rattle.cfs_core.proofs.Collected.{as_before, same_rescued}
use Rattle.cfs_core.specs.Rescues.{AreRescued}
use Rattle.cfs_core.specs.declared.collecting.Collections.{Collections}
use Rattle.cfs_base.specs.declared.refusal.Refused.TheVariants as refusals
use Rattle.cfs_core.proofs.Words.{err_from_is_err_and, volume_of}
use Rattle.cfs_core.proofs.kernel.Core.begin.Goals as goal

pub returns-in-Some : goal.returns-in-Some
returns-in-Some g c =
    let k : Kernel _ = record { disk = c.self.inside.disk; root = c.self.inside.root; directory = c.self.inside.directory; space = c.self.inside.space; words = c.self.inside.words; handles = c.self.inside.handles.handles; collections = c.self.inside.collections; stop = c.self.inside.stop } in
    let l = c.begin.new.self in
    let done = c.in_ok-begin.ensures in
    let begun : HasBegunCollection c.deref.result.now k.directory.named l = record { phase = done.phase; steps = done.counts.0; added = done.counts.1; left = done.left; keeps = λ seed s t image state named roots step few. done.keeps seed s t image state named roots step (omega (arith, few, c.begin.ensures.volume)) } in
    let idle = ap (λ x. phase_of x.collections.collector) c.self.view_is ∙ c.requires.idle in
    let more = subst (λ x. x.collections.finished < x.collections.called) (sym c.self.view_is) c.requires.more in
    let roots = subst (λ x. c.in_ok-roots.roots.items ≡ x.root ∷ map (λ (y : Handle). y.grant.id) x.handles) (sym c.self.view_is) c.in_ok-roots.ensures in
    subst (λ x. TriesStep g.D.Disk x (record k { collections = record k.collections { collector = Some l } }) (Ok steps.Began)) c.self.view_is
    (steps_begun g.D.Disk k c.deref.result.now (c.deref.ensures.value ∙ roots) l begun idle more (c.begin.ensures.volume ∙ subst (λ o. IfSome o (λ x. volume_of x ≡ c.self.inside.directory.room)) c.in-Some.is c.self.invariant.kept.volume ∙ c.self.invariant.room) c.self.invariant.size)

pub returns : goal.returns
returns g c =
    let k : Kernel _ = record { disk = c.self.inside.disk; root = c.self.inside.root; directory = c.self.inside.directory; space = c.self.inside.space; words = c.self.inside.words; handles = c.self.inside.handles.handles; collections = c.self.inside.collections; stop = c.self.inside.stop } in
    let l = c.in_ok-collector.collector in
    let idle = ap (λ x. phase_of x.collections.collector) c.self.view_is ∙ c.requires.idle in
    let more = subst (λ x. x.collections.finished < x.collections.called) (sym c.self.view_is) c.requires.more in
    let roots = subst (λ x. c.in_ok-roots.roots.items ≡ x.root ∷ map (λ (y : Handle). y.grant.id) x.handles) (sym c.self.view_is) c.in_ok-roots.ensures in
    subst (λ x. TriesStep g.D.Disk x (record k { collections = record k.collections { collector = Some l } }) (Ok steps.Began)) c.self.view_is
    (steps_begun g.D.Disk k c.deref-2.result.now (c.deref-2.ensures.value ∙ roots) l c.in_ok-collector.ensures.begun idle more (c.in_ok-collector.ensures.volume ∙ c.room.ensures.room ∙ c.self.invariant.room) c.self.invariant.size)

pub returns-in_err-begin : goal.returns-in_err-begin
returns-in_err-begin g c =
    let k : Kernel _ = record { disk = c.self.inside.disk; root = c.self.inside.root; directory = c.self.inside.directory; space = c.self.inside.space; words = c.self.inside.words; handles = c.self.inside.handles.handles; collections = c.self.inside.collections; stop = c.self.inside.stop } in
    let now : Collections = record k.collections { collector = Some c.begin.new.self } in
    let idle = ap (λ x. phase_of x.collections.collector) c.self.view_is ∙ c.requires.idle in
    let more = subst (λ x. x.collections.finished < x.collections.called) (sym c.self.view_is) c.requires.more in
    let told = err_from_is_err_and c.from_residual-in_err-begin.result c.from_residual-in_err-begin.ensures.1 in
    subst (λ r. TriesStep g.D.Disk c.args.self.now (record k { collections = now }) r) (sym (told.1 ∙ ap Err told.2))
    (subst (λ x. TriesStep g.D.Disk x (record k { collections = now }) (Err refusals.Memory)) c.self.view_is (steps_starved g.D.Disk k now idle more (subst (λ o. AreRescued o (Some c.begin.new.self) [] []) (sym c.in-Some.is) (as_before c.in-Some.collector c.begin.new.self c.in_err-begin.ensures.same)) refl refl))

pub returns-in_err-collector : goal.returns-in_err-collector
returns-in_err-collector g c =
    let k : Kernel _ = record { disk = c.self.inside.disk; root = c.self.inside.root; directory = c.self.inside.directory; space = c.self.inside.space; words = c.self.inside.words; handles = c.self.inside.handles.handles; collections = c.self.inside.collections; stop = c.self.inside.stop } in
    let now : Collections = k.collections in
    let idle = ap (λ x. phase_of x.collections.collector) c.self.view_is ∙ c.requires.idle in
    let more = subst (λ x. x.collections.finished < x.collections.called) (sym c.self.view_is) c.requires.more in
    let told = err_from_is_err_and c.from_residual-in_err-collector.result c.from_residual-in_err-collector.ensures.1 in
    subst (λ r. TriesStep g.D.Disk c.args.self.now (record k { collections = now }) r) (sym (told.1 ∙ ap Err told.2))
    (subst (λ x. TriesStep g.D.Disk x (record k { collections = now }) (Err refusals.Memory)) c.self.view_is (steps_starved g.D.Disk k now idle more (same_rescued k.collections.collector) refl refl))
