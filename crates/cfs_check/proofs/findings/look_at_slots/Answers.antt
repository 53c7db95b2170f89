use Rattle.std.proofs.Common.{arith}
use Rattle.cfs_check.proofs.Slotted.{slot_more}
use Rattle.cfs_check.proofs.findings.look_at_slots.Goals as goal

pub loop-slot-preserved : goal.loop-slot-preserved
loop-slot-preserved c =
    slot_more c.args.image.now c.args.roots.now.blocks c.args.extent c.args.leaf c.args.content.now c.loop-slot.slot c.loop-slot.bad c.loop-slot.new c.loop-slot.invariant
    c.look_at_slot-at.result.bad c.look_at_slot-at.result.new (omega arith) (omega (arith, c.if-leaf-slot.false)) c.look_at_slot-at.ensures
