use Rattle.std.proofs.Common.{Bool, ◌∙◌, ap, length}
use Rattle.block_tree.specs.Pointers.{leaf_limit, node_pointers}
use Rattle.special_files.proofs.Levels.{length-none}
use Rattle.special_files.proofs.begin.Room.draft.Goals as goal

pub invariant_of-result : goal.invariant_of-result
invariant_of-result c = (c.requires.some, ap (length {A = Bool}) c.self.invariant.0 ∙ length-none leaf_limit, ap (length {A = Bool}) c.self.invariant.1 ∙ length-none node_pointers.count, c.requires.limit)
