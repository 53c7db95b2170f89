use Rattle.std.proofs.Common.{◌+◌, ◌-◌, ◌++◌, ◌∙◌, ap, arith}
use Rattle.special_files.proofs.Words.{list_if, slice_index, ◌==◌}
use Rattle.special_files.proofs.shrink.ShedLists.{list_more, list_room, list_starts}
use Rattle.special_files.proofs.freed.list_node.Goals as goal

pub loop-place-init : goal.loop-place-init
loop-place-init c = list_starts c.args.list.now c.add_if.new.list (c.args.from == 0) c.args.block c.args.leaves.now c.args.node.now.leaves c.args.number c.args.from c.args.from c.add_if.ensures (omega arith)

pub add_if-requires-in-loop-place : goal.add_if-requires-in-loop-place
add_if-requires-in-loop-place c =
    list_room c.args.list.now c.loop-place.list (c.args.from == 0) c.args.block c.args.leaves.now c.args.node.now.leaves c.args.number c.args.from (c.loop-place.place - c.args.from) c.loop-place.invariant c.requires.room (omega (arith, c.loop-place-test.true))

pub loop-place-preserved : goal.loop-place-preserved
loop-place-preserved c =
    list_more c.args.list.now c.loop-place.list (c.args.from == 0) c.args.block c.args.leaves.now c.args.node.now.leaves c.args.number c.args.from (c.loop-place.place - c.args.from) c.loop-place.invariant (c.loop-place.place + 1 - c.args.from) c.add_if-in-loop-place.new.list
    c.loop-place.place (omega arith) (omega arith) (c.add_if-in-loop-place.ensures ∙ ap (λ b. c.loop-place.list ++ list_if b (slice_index c.args.node.now.leaves c.loop-place.place)) c.has.ensures)
