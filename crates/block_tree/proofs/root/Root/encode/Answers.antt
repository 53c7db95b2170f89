use Rattle.std.proofs.Common.{◌∙◌, ap, sym, arith}
use Rattle.block_tree.proofs.Words.{Fits, common_steps, node_pointers, pointers_of, root_spelling}
use Rattle.block_tree.proofs.Spellings.{nodes_of}
use Rattle.block_tree.proofs.root.Root.encode.Goals as goal

pub returns-clause-spelled : goal.returns-clause-spelled
unfolding root_spelling
returns-clause-spelled c = grind (arith, common_steps)

pub returns-clause-accepted : goal.returns-clause-accepted
returns-clause-accepted c is =
    let fits : Fits c.args.self.now = record { fill = c.head_block-block.ensures.widths.0; word = c.head_block-block.ensures.widths.1; count = omega arith; nodes = c.put_pointers.ensures.fit } in
    record { good = (fits, is); spelled = returns-clause-spelled c }

pub returns-clause-pointers : goal.returns-clause-pointers
returns-clause-pointers c =
    let fits : Fits c.args.self.now = record { fill = c.head_block-block.ensures.widths.0; word = c.head_block-block.ensures.widths.1; count = omega arith; nodes = c.put_pointers.ensures.fit } in
    nodes_of c.args.self.now fits ∙ ap (pointers_of node_pointers) (sym (returns-clause-spelled c))
