use Rattle.std.proofs.Common.{arith}
use Rattle.cfs_check.proofs.Noted.{named_more, none_named, roots_none}
use Rattle.cfs_check.proofs.note.note_slots.Goals as goal

pub loop-slot-init : goal.loop-slot-init
loop-slot-init c = roots_none _ c.args.roots.now (λ n is. absurd (none_named c.args.image.now c.args.extent c.args.leaf c.args.content.now n is))

pub loop-slot-preserved : goal.loop-slot-preserved
loop-slot-preserved c =
    named_more c.args.image.now c.args.extent c.args.leaf c.args.content.now c.loop-slot.slot c.args.roots.now c.loop-slot.roots c.note_slot.new.roots c.loop-slot.invariant
    (omega arith) (omega (arith, c.if-leaf-slot.false)) c.in_ok-note_slot.ensures.named
