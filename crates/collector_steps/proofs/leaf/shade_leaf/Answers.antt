use Rattle.std.proofs.Common.{◌≡◌, ◌∙◌, ◌+◌, ℕ, ap, sym, arith}
use Rattle.collector_steps.proofs.Words.{all_shaded, colours_of, ids_from}
use Rattle.collector_steps.proofs.Shaded.{shaded_from, shaded_last}
use Rattle.collector_steps.proofs.leaf.shade_leaf.Goals as goal

pub loop-slot-preserved : goal.loop-slot-preserved
loop-slot-preserved c =
    let before = c.loop-slot.invariant in
    record {
      left = ap (all_shaded c.args.directory.now.named (ids_from c.args.content.now (c.loop-slot.slot + 1))) c.shade_slot.ensures.shaded
          ∙ sym (shaded_from c.args.directory.now.named c.args.content.now c.loop-slot.slot (colours_of c.loop-slot.marks) c.loop-slot-test.true)
          ∙ before.left;
      blocks = c.shade_slot.ensures.blocks ∙ before.blocks;
    }

pub returns-clause-shaded : goal.returns-clause-shaded
returns-clause-shaded c =
    let last : c.loop-slot.slot ≡ 64 = omega (arith, c.loop-slot.auto.slot-end, c.loop-slot-test.false) in
    sym (ap (λ (slot : ℕ). all_shaded c.args.directory.now.named (ids_from c.args.content.now slot) (colours_of c.loop-slot.marks)) last
    ∙ shaded_last c.args.directory.now.named c.args.content.now (colours_of c.loop-slot.marks))
    ∙ c.loop-slot.invariant.left
