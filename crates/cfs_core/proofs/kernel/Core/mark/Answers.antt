use Rattle.std.proofs.Common.{◌≡◌, Some, refl, sym, ◌∙◌, ◌||◌, ap, subst, arith, IfSome}
use Rattle.cfs_core.proofs.Words.{volume_of}
use Rattle.cfs_core.specs.Collect.{TriesStep, phase_of}
use Rattle.cfs_core.specs.Kernel.{Kernel, marks_in, sweeps_in}
use Rattle.cfs_core.proofs.Stepped.{sized_on}
use Rattle.cfs_core.proofs.kernel.Core.mark.Goals as goal

pub mark-requires-clause-marks : goal.mark-requires-clause-marks
mark-requires-clause-marks g c = ap phase_of (sym c.in-Some.is) ∙ ap (λ x. phase_of x.collections.collector) c.self.view_is ∙ c.requires

pub mark-requires-clause-room : goal.mark-requires-clause-room
mark-requires-clause-room g c = omega (arith, subst (λ o. IfSome o (λ x. volume_of x ≡ c.self.inside.directory.room)) c.in-Some.is c.self.invariant.kept.volume)

pub mark-requires-clause-size : goal.mark-requires-clause-size
mark-requires-clause-size g c = omega (arith, subst (λ o. IfSome o (λ x. volume_of x ≡ c.self.inside.directory.room)) c.in-Some.is c.self.invariant.kept.volume, c.self.invariant.room)

pub invariant_of-self : goal.invariant_of-self
invariant_of-self g c =
    let marks = ap phase_of (sym c.in-Some.is) ∙ ap (λ x. phase_of x.collections.collector) c.self.view_is ∙ c.requires in
    sized_on g.D.Disk c.self.inside.disk c.mark.new.disk c.self.inside.directory c.mark.new.directory c.self.inside.space c.self.inside.space c.self.inside.handles.handles c.self.inside.words.drawn c.self.inside.collections
    c.in-Some.collector c.mark.new.collector c.mark.result c.in-Some.is (ap (λ p. marks_in p || sweeps_in p) marks) (c.mark.ensures c.self.inside.space) c.self.invariant

pub returns : goal.returns
returns g c =
    let k : Kernel _ = record { disk = c.self.inside.disk; root = c.self.inside.root; directory = c.self.inside.directory; space = c.self.inside.space; words = c.self.inside.words; handles = c.self.inside.handles.handles; collections = c.self.inside.collections; stop = c.self.inside.stop } in
    let new : Kernel _ = record k { disk = c.mark.new.disk; directory = c.mark.new.directory; collections = record k.collections { collector = Some c.mark.new.collector } } in
    subst (λ x. TriesStep g.D.Disk x new c.mark.result) (ap (λ o. record k { collections = record k.collections { collector = o } }) (sym c.in-Some.is) ∙ c.self.view_is) ((c.mark.ensures k.space).tries k refl)
