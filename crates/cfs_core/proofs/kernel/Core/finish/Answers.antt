use Rattle.std.proofs.Common.{◌≡◌, ◌+◌, Some, Ok, sym, ◌∙◌, ap, subst, arith, IfSome}
use Rattle.cfs_core.proofs.Words.{volume_of}
use Rattle.cfs_core.specs.declared.collecting.Step.TheVariants as steps
use Rattle.cfs_core.specs.Collect.{TriesStep, phase_of}
use Rattle.cfs_core.specs.Kernel.{Kernel}
use Rattle.cfs_core.proofs.Stepped.{few_ended, steps_ended}
use Rattle.cfs_core.proofs.kernel.Core.finish.Goals as goal

pub overflow_add-self : goal.overflow_add-self
overflow_add-self g c =
    let k : Kernel _ = record { disk = c.self.inside.disk; root = c.self.inside.root; directory = c.self.inside.directory; space = c.self.inside.space; words = c.self.inside.words; handles = c.self.inside.handles.handles; collections = c.self.inside.collections; stop = c.self.inside.stop } in
    let swept = ap phase_of (sym c.in-Some.is) ∙ ap (λ x. phase_of x.collections.collector) c.self.view_is ∙ c.requires in
    omega (arith, few_ended g.D.Disk k c.in-Some.collector c.end.new.self c.in-Some.is swept c.end.ensures.phase c.self.inside.directory.room c.self.invariant.kept, c.calls_are_counted.ensures)

pub returns : goal.returns
returns g c =
    let k : Kernel _ = record { disk = c.self.inside.disk; root = c.self.inside.root; directory = c.self.inside.directory; space = c.self.inside.space; words = c.self.inside.words; handles = c.self.inside.handles.handles; collections = c.self.inside.collections; stop = c.self.inside.stop } in
    let col = c.in-Some.collector in
    let l = c.end.new.self in
    let swept = ap phase_of (sym c.in-Some.is) ∙ ap (λ x. phase_of x.collections.collector) c.self.view_is ∙ c.requires in
    let volume : volume_of col ≡ g.D.Disk.blocks k.disk = subst (λ o. IfSome o (λ x. volume_of x ≡ c.self.inside.directory.room)) c.in-Some.is c.self.invariant.kept.volume ∙ c.self.invariant.room in
    subst (λ x. TriesStep g.D.Disk x (record k { collections = record k.collections { collector = Some l; finished = k.collections.finished + 1 } }) (Ok steps.Finished)) c.self.view_is
    (steps_ended g.D.Disk k col l c.in-Some.is swept c.end.ensures.phase c.end.ensures.steps c.end.ensures.added volume c.end.ensures.bounded)
