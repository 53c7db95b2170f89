use Rattle.std.proofs.Common.{◌<◌, ◌^◌, get_or, arith}
use Rattle.block_tree.proofs.Words.{PastAbove, root_spelling, on_ok_weaker, IfOk-weaker}
use Rattle.block_tree.proofs.Faults.{refused_as}
use Rattle.block_tree.proofs.Follows.{past_read, read_past, read_to, rest_small}
use Rattle.block_tree.proofs.leaf.pointer_to.Goals as goal

pub pointer_on-requires : goal.pointer_on-requires
pointer_on-requires g c = rest_small c.path_of-path.result c.args.leaf c.requires c.path_of-path.ensures.path

-- the pointer of the root was read
small : (g : _) (c : goal.After-pointer_on g) → get_or c.args.root.now.nodes (get_or c.path_of-path.result 0 0) 0 < 2 ^ 32
small g c = omega arith

pub returns-clause-pointer : goal.returns-clause-pointer
returns-clause-pointer g c tells =
    IfOk-weaker c.pointer_on.result _ _ (read_to (g.D.Disk.content c.args.disk.now) c.args.root.now (omega arith) c.args.leaf c.requires c.path_of-path.result c.path_of-path.ensures.path (small g c)) (c.pointer_on.ensures.end tells)

pub returns-clause-refused : goal.returns-clause-refused
returns-clause-refused g c =
    let image = g.D.Disk.content c.args.disk.now in
    let size = g.D.Disk.blocks c.args.disk.now in
    refused_as g.D.Disk c.args.disk.now c.pointer_on.new.disk _ (PastAbove image size (root_spelling c.args.root.now) c.args.leaf) c.pointer_on.result
    (λ p far. read_past image c.args.root.now (omega arith) c.args.leaf c.requires c.path_of-path.result c.path_of-path.ensures.path (small g c) size p) c.pointer_on.ensures.refused

pub returns-clause-followed : goal.returns-clause-followed
returns-clause-followed g c tells =
    let image = g.D.Disk.content c.args.disk.now in
    let size = g.D.Disk.blocks c.args.disk.now in
    on_ok_weaker c.pointer_on.result (λ none p past. none p (past_read image c.args.root.now (omega arith) c.args.leaf c.requires c.path_of-path.result c.path_of-path.ensures.path (small g c) size p past)) (c.pointer_on.ensures.followed tells)
