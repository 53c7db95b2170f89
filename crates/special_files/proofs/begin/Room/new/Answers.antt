use Rattle.std.proofs.Common.{◌∙◌, sym}
use Rattle.block_tree.specs.Pointers.{leaf_limit, node_pointers}
use Rattle.special_files.proofs.Levels.{none_made}
use Rattle.special_files.proofs.begin.Room.new.Goals as goal

pub invariant_of-result : goal.invariant_of-result
invariant_of-result c = (c.in_ok-leaves.ensures ∙ sym (none_made leaf_limit), c.in_ok-nodes.ensures ∙ sym (none_made node_pointers.count))
