use Rattle.block_tree.proofs.Spellings.{each_root, each_byte, read_nodes}
use Rattle.block_tree.proofs.root.Root.decode.Goals as goal

pub returns-clause-each_accepted : goal.returns-clause-each_accepted
returns-clause-each_accepted c = each_root c.args.block.now c.read_root.result c.read_root.ensures

pub returns-clause-each_refused : goal.returns-clause-each_refused
returns-clause-each_refused c = each_byte c.args.block.now c.read_root.result c.read_root.ensures

pub returns-clause-pointers : goal.returns-clause-pointers
returns-clause-pointers c = read_nodes c.args.block.now c.read_root.result c.read_root.ensures
