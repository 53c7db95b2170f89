use Rattle.std.proofs.Common.{List, ℕ, ◌++◌, sym, ◌∙◌, ap}
use Rattle.special_files.proofs.Words.{pointer_table}
use Rattle.special_files.proofs.changed.ChangedRun.{leaf_more, leaf_room}
use Rattle.special_files.proofs.changed.Unlike.{first_unlike}
use Rattle.special_files.proofs.changed.add_node.Goals as goal

pub loop-leaf-init : goal.loop-leaf-init
loop-leaf-init c = c.add_unlike.ensures ∙ ap (λ (ns : List ℕ). c.args.list.now ++ ns) (sym (first_unlike (pointer_table c.args.block c.args.node.now.leaves) (pointer_table c.args.other c.args.other_node.now.leaves)))

pub add_unlike-requires-in-loop-leaf : goal.add_unlike-requires-in-loop-leaf
add_unlike-requires-in-loop-leaf c =
    leaf_room c.args.block c.args.other c.args.node.now.leaves c.args.other_node.now.leaves c.loop-leaf.leaf c.args.list.now c.loop-leaf.list c.loop-leaf.invariant c.requires c.loop-leaf-test.true

pub loop-leaf-preserved : goal.loop-leaf-preserved
loop-leaf-preserved c =
    leaf_more c.args.block c.args.other c.args.node.now.leaves c.args.other_node.now.leaves c.loop-leaf.leaf c.args.list.now c.loop-leaf.list c.loop-leaf.invariant c.add_unlike-in-loop-leaf.new.list c.add_unlike-in-loop-leaf.ensures
