use Rattle.std.proofs.Common.{◌∙◌, ap, sym, arith}
use Rattle.block_tree.proofs.Words.{IsNode, common_steps, leaf_pointers, pointers_of}
use Rattle.block_tree.proofs.Spellings.{leaves_of}
use Rattle.block_tree.proofs.node.Node.encode.Goals as goal

pub returns-clause-spelled : goal.returns-clause-spelled
returns-clause-spelled c = grind (arith, common_steps)

pub returns-clause-pointers : goal.returns-clause-pointers
returns-clause-pointers c =
    let is : IsNode c.args.self.now = record { count = omega arith; fit = c.put_pointers.ensures.fit } in
    leaves_of c.args.self.now is ∙ ap (pointers_of leaf_pointers) (sym (returns-clause-spelled c))
