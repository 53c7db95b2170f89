use Rattle.std.proofs.Common.{sym, ◌∙◌, ap, subst}
use Rattle.collector_marks.specs.Kept.{blocks_marked}
use Rattle.cfs_core.proofs.Words.{IsPhaseOf}
use Rattle.collector_steps.specs.declared.sweep.Pass.TheVariants as passes
use Rattle.cfs_core.proofs.Stepping.{steps_swept}
use Rattle.cfs_core.proofs.collecting.sweep.Goals as goal

pub returns-in-Inner : goal.returns-in-Inner
returns-in-Inner g c = λ handles.
    let phase = subst (IsPhaseOf passes.Inner) (sym c.in-Inner.is ∙ c.phase.ensures) tt in
    steps_swept g.D.Disk c.args.disk.now c.args.space.now c.args.directory.now handles c.args.collector.now c.sweep_inner.new.self (ap blocks_marked c.sweep_inner.ensures.marks) c.sweep_inner.new.disk c.sweep_inner.new.space
    passes.Inner c.sweep_inner.result c.told.result phase c.requires.size c.sweep_inner.ensures c.told.ensures

pub returns-in-Roots : goal.returns-in-Roots
returns-in-Roots g c = λ handles.
    let phase = subst (IsPhaseOf passes.Roots) (sym c.in-Roots.is ∙ c.phase.ensures) tt in
    steps_swept g.D.Disk c.args.disk.now c.args.space.now c.args.directory.now handles c.args.collector.now c.sweep_roots.new.self (ap blocks_marked c.sweep_roots.ensures.marks) c.sweep_roots.new.disk c.sweep_roots.new.space
    passes.Roots c.sweep_roots.result c.told-in-Roots.result phase c.requires.size c.sweep_roots.ensures c.told-in-Roots.ensures
