use Rattle.std.proofs.Common.{◌≡◌, ℕ, length, subst, arith}
use Rattle.cfs_check.specs.Marks.{AddsMarks}
use Rattle.cfs_check.specs.Surveyed.{IsShadowFault}
use Rattle.cfs_check.proofs.Entered.{adds_nothing, no_shadow_fault, shadows_more}
use Rattle.cfs_check.proofs.entries.note_shadows.Goals as goal

pub loop-block-init : goal.loop-block-init
loop-block-init c = adds_nothing (IsShadowFault c.args.image.now c.args.roots.now.blocks 0) c.args.marks.now (no_shadow_fault c.args.image.now c.args.roots.now.blocks)

pub loop-block-preserved : goal.loop-block-preserved
loop-block-preserved c =
    shadows_more c.args.image.now c.args.roots.now.blocks c.loop-block.block _ c.args.marks.now c.loop-block.marks _ c.is_bad_shadow.ensures c.loop-block.invariant c.note_if.ensures

pub note_if-requires-clause-block : goal.note_if-requires-clause-block
note_if-requires-clause-block c told = omega (arith, c.loop-block.invariant.size, c.requires.marks, c.loop-block-test.true, c.blocks-block-end.ensures.is)

pub returns : goal.returns
returns c =
    let end : c.loop-block.block ≡ length c.args.image.now = omega (arith, c.loop-block-test.false, c.loop-block.auto.block-end, c.blocks-block-end.ensures.is) in
    subst (λ (n : ℕ). AddsMarks (IsShadowFault c.args.image.now c.args.roots.now.blocks n) c.args.marks.now c.loop-block.marks) end c.loop-block.invariant
