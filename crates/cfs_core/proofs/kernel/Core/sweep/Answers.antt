use Rattle.std.proofs.Common.{◌≡◌, Some, true, refl, sym, ◌∙◌, ◌||◌, ap, subst, arith, IfSome}
use Rattle.cfs_core.proofs.Words.{Phase, volume_of}
use Rattle.collector_steps.specs.declared.phase.Phase.TheVariants as phases
use Rattle.cfs_core.specs.Collect.{TriesStep, phase_of, sweeps_blocks}
use Rattle.cfs_core.specs.Kernel.{Kernel, marks_in, sweeps_in}
use Rattle.cfs_core.proofs.Stepped.{sized_on}
use Rattle.cfs_core.proofs.kernel.Core.sweep.Goals as goal

goes_on : (p : Phase) → sweeps_blocks p ≡ true → (marks_in p || sweeps_in p) ≡ true
goes_on phases.Idle is = cc
goes_on phases.Marking is = cc
goes_on (phases.Inner cylinder) is = refl
goes_on (phases.Roots cylinder) is = refl
goes_on phases.Swept is = cc

pub sweep-requires-clause-sweeps : goal.sweep-requires-clause-sweeps
sweep-requires-clause-sweeps g c = ap (λ o. sweeps_blocks (phase_of o)) (sym c.in-Some.is) ∙ ap (λ x. sweeps_blocks (phase_of x.collections.collector)) c.self.view_is ∙ c.requires

pub sweep-requires-clause-size : goal.sweep-requires-clause-size
sweep-requires-clause-size g c = omega (arith, subst (λ o. IfSome o (λ x. volume_of x ≡ c.self.inside.directory.room)) c.in-Some.is c.self.invariant.kept.volume, c.self.invariant.room)

pub sweep-requires-clause-counts : goal.sweep-requires-clause-counts
sweep-requires-clause-counts g c = omega (arith, subst (λ o. IfSome o (λ x. volume_of x ≡ c.self.inside.directory.room)) c.in-Some.is c.self.invariant.kept.volume, c.self.invariant.room, c.self.invariant.size)

pub invariant_of-self : goal.invariant_of-self
invariant_of-self g c =
    let sweeps = ap (λ o. sweeps_blocks (phase_of o)) (sym c.in-Some.is) ∙ ap (λ x. sweeps_blocks (phase_of x.collections.collector)) c.self.view_is ∙ c.requires in
    sized_on g.D.Disk c.self.inside.disk c.sweep.new.disk c.self.inside.directory c.self.inside.directory c.self.inside.space c.sweep.new.space c.self.inside.handles.handles c.self.inside.words.drawn c.self.inside.collections
    c.in-Some.collector c.sweep.new.collector c.sweep.result c.in-Some.is (goes_on c.in-Some.collector.phase sweeps) (c.sweep.ensures c.self.inside.handles.handles) c.self.invariant

pub returns : goal.returns
returns g c =
    let k : Kernel _ = record { disk = c.self.inside.disk; root = c.self.inside.root; directory = c.self.inside.directory; space = c.self.inside.space; words = c.self.inside.words; handles = c.self.inside.handles.handles; collections = c.self.inside.collections; stop = c.self.inside.stop } in
    let new : Kernel _ = record k { disk = c.sweep.new.disk; space = c.sweep.new.space; collections = record k.collections { collector = Some c.sweep.new.collector } } in
    subst (λ x. TriesStep g.D.Disk x new c.sweep.result) (ap (λ o. record k { collections = record k.collections { collector = o } }) (sym c.in-Some.is) ∙ c.self.view_is) ((c.sweep.ensures k.handles).tries k refl)
