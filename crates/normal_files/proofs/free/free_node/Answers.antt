use Rattle.normal_files.proofs.Words.{◌+◌, ◌*◌, arith, leaf_pointers}
use Rattle.normal_files.specs.Limits.{free_calls, free_tries, free_leaves_calls, free_leaves_tries, free_node_calls, free_node_tries}
use Rattle.normal_files.proofs.Freed.{follows_on}
use Rattle.normal_files.proofs.FreedRun.{after_read, node_err, node_on, node_unread, read_follows, unread_follows}
use Rattle.normal_files.proofs.Refusals.{node_trouble}
use Rattle.cfs_base.proofs.Passed.{is_passed}
use Rattle.normal_files.proofs.free.free_node.Goals as goal
use Rattle.leaf_changes.specs.Tops.{root_top}

pub returns-in_err-node-clause-frees : goal.returns-in_err-node-clause-frees
returns-in_err-node-clause-frees g c =
    rw (is_passed c.from_residual.result c.in_err-node.field-0.0 c.from_residual.ensures.1) (let n = c.args.number in
    (node_unread g.D.Disk c.args.root.now n c.args.disk.now c.read_node.new.disk c.args.space.now c.in_err-node.ensures.reads (leaf_pointers.count * n) n (leaf_pointers.count * n + leaf_pointers.count) (n + 1) c.in_err-node.field-0.0 (λ honest. g.met.D.Disk.sized c.args.disk.now honest) (λ tells near. c.in_err-node.ensures.sound tells near)))

pub returns-in_err-node-clause-follows : goal.returns-in_err-node-clause-follows
returns-in_err-node-clause-follows g c =
    rw (is_passed c.from_residual.result c.in_err-node.field-0.0 c.from_residual.ensures.1) ((unread_follows g.D.Disk c.args.root.now c.args.number c.args.disk.now c.read_node.new.disk c.args.space.now c.in_err-node.ensures.reads (root_top c.args.at.0 c.args.root.now) free_node_calls free_node_tries c.in_err-node.field-0.0 (omega arith)
    (node_trouble g.D.Disk _ (root_top c.args.at.0 c.args.root.now) c.args.disk.now c.read_node.new.disk c.in_err-node.field-0.0 (λ past. (c.args.number, past)) c.in_err-node.ensures.refused)))

pub returns-in_err-free_leaves-clause-frees : goal.returns-in_err-free_leaves-clause-frees
returns-in_err-free_leaves-clause-frees g c =
    rw (is_passed c.from_residual-in_err-free_leaves.result c.in_err-free_leaves.field-0.0 c.from_residual-in_err-free_leaves.ensures.1) (let n = c.args.number in
    after_read g.D.Disk c.args.root.now n c.args.disk.now c.read_node.new.disk c.args.space.now c.in_ok-node.ensures.reads c.in_ok-node.node.leaves (leaf_pointers.count * n) n (leaf_pointers.count * n + leaf_pointers.count) (n + 1) c.free_leaves.new.disk c.free_leaves.new.space _ (λ tells. c.in_ok-node.ensures.node tells)
    (node_err g.D.Disk c.args.root.now c.in_ok-node.node.leaves n (leaf_pointers.count * n + leaf_pointers.count) n c.read_node.new.disk c.free_leaves.new.disk c.args.space.now c.free_leaves.new.space c.in_err-free_leaves.field-0.0 (c.in_err-free_leaves.ensures.frees c.args.root.now n)))

pub returns-in_err-free_leaves-clause-follows : goal.returns-in_err-free_leaves-clause-follows
returns-in_err-free_leaves-clause-follows g c = rw (is_passed c.from_residual-in_err-free_leaves.result c.in_err-free_leaves.field-0.0 c.from_residual-in_err-free_leaves.ensures.1) ((read_follows g.D.Disk c.args.root.now c.args.number c.args.disk.now c.read_node.new.disk c.args.space.now c.in_ok-node.ensures.reads (root_top c.args.at.0 c.args.root.now) free_leaves_calls free_leaves_tries free_node_calls free_node_tries c.free_leaves.new.disk c.free_leaves.new.space _ (omega arith) (omega arith) (c.in_err-free_leaves.ensures.follows c.args.at.0 c.args.root.now)))

pub returns-clause-frees : goal.returns-clause-frees
returns-clause-frees g c =
    let n = c.args.number in
    after_read g.D.Disk c.args.root.now n c.args.disk.now c.read_node.new.disk c.args.space.now c.in_ok-node.ensures.reads c.in_ok-node.node.leaves (leaf_pointers.count * n) n (leaf_pointers.count * n + leaf_pointers.count) (n + 1) c.free.new.disk c.free.new.space c.free.result (λ tells. c.in_ok-node.ensures.node tells)
    (node_on g.D.Disk c.args.root.now c.in_ok-node.node.leaves n (root_top c.args.at.0 c.args.root.now) c.read_node.new.disk c.free_leaves.new.disk c.free.new.disk c.args.space.now c.free_leaves.new.space c.free.new.space c.free.result (c.in_ok-free_leaves.ensures.frees c.args.root.now n) c.free.ensures.frees (c.free.ensures.follows c.args.at.0 c.args.root.now))

pub returns-clause-follows : goal.returns-clause-follows
returns-clause-follows g c =
    (read_follows g.D.Disk c.args.root.now c.args.number c.args.disk.now c.read_node.new.disk c.args.space.now c.in_ok-node.ensures.reads (root_top c.args.at.0 c.args.root.now) (free_leaves_calls + free_calls) (free_leaves_tries + free_tries) free_node_calls free_node_tries c.free.new.disk c.free.new.space c.free.result (omega arith) (omega arith)
    (follows_on g.D.Disk (root_top c.args.at.0 c.args.root.now) free_leaves_calls free_leaves_tries free_calls free_tries (free_leaves_calls + free_calls) (free_leaves_tries + free_tries) c.read_node.new.disk c.free_leaves.new.disk c.free.new.disk c.args.space.now c.free_leaves.new.space c.free.new.space c.free.result (omega arith) (omega arith) (c.in_ok-free_leaves.ensures.follows c.args.at.0 c.args.root.now) (c.free.ensures.follows c.args.at.0 c.args.root.now)))
